-- How calls follow one another.
use Rattle.std.proofs.Common.{◌≡◌, ℕ, List, [], ◌∷◌, ◌++◌, sym, refl, ap, ◌∙◌, subst, append_assoc, append-nil}
use Rattle.usb_machine.specs.declared.entry.Entry.{Entry}
use Rattle.usb_machine.specs.History.{Machine}
use Rattle.std.proofs.Common.{Option, None}
use Rattle.std.proofs.lemmas.List.Sums.{fold-append}
use Rattle.usb_machine.specs.declared.transfer.Transfer.{Transfer}
use Rattle.usb_machine.specs.HostCalls.{rested_of, rested_after}
use Rattle.usb_machine.specs.Fresh.{Known, Begins, Grown, Fresh}

pub begins_self : (h : List Entry) → Begins h h
begins_self h = record { more = []; is = sym (append-nil h) }

pub begins_trans : (h s t : List Entry) → Begins h s → Begins s t → Begins h t
begins_trans h s t a b = record { more = b.more ++ a.more; is = a.is ∙ (ap (λ l. l ++ a.more) b.is ∙ append_assoc t b.more a.more) }

-- a pass that no call was made with
pub grown_none : (p : Known) → Grown p p []
grown_none p = record { number = refl; begins = begins_self p.seen; mine = sym (append-nil p.mine) }

pub grown_more : (p q r : Known) (xs ys : List Entry) → Grown p q xs → Grown q r ys → Grown p r (xs ++ ys)
grown_more p q r xs ys a b = record {
  number = b.number ∙ a.number;
  begins = begins_trans r.seen q.seen p.seen b.begins a.begins;
  mine = b.mine ∙ (ap (λ l. l ++ ys) a.mine ∙ append_assoc p.mine xs ys);
}

-- a call, after others
pub fresh_more : (g : Machine) (p q r : Known) (xs ys : List Entry) → Grown p q xs → Fresh g q r ys → Fresh g p r (xs ++ ys)
fresh_more g p q r xs ys a b = record {
  grown = grown_more p q r xs ys a b.grown;
  sound = b.sound;
  ends = record {
    before = b.ends.before;
    others = xs ++ b.ends.others;
    last = b.ends.last;
    ends = b.ends.ends;
    entries = ap (λ l. xs ++ l) b.ends.entries ∙ sym (append_assoc xs b.ends.others (b.ends.last ∷ []));
  };
}

-- the same, where the entries name the pass by its number
pub fresh_then : (g : Machine) (p q r : Known) (xs : List Entry) (ys : ℕ → List Entry) → Grown p q xs → Fresh g q r (ys q.number) → Fresh g p r (xs ++ ys p.number)
fresh_then g p q r xs ys a b = subst (λ n. Fresh g p r (xs ++ ys n)) a.number (fresh_more g p q r xs (ys q.number) a b)

-- what rests after one entry more
pub rested_of-snoc : (h : List Entry) (x : Entry) (u : ℕ) → rested_of (h ++ x ∷ []) u ≡ rested_after u (rested_of h u) x.event x.carried
rested_of-snoc h x u = fold-append (λ (t : Option Transfer) y. rested_after u t y.event y.carried) None h (x ∷ [])
