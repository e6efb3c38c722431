-- What a pass holds after the entries of the calls, and what it has claimed.
use Rattle.std.proofs.Common.{◌≡◌, ℕ, ◌+◌, ◌⊎◌, inl, inr, ⊎_elim, Bool, true, not, ◌||◌, cond, eqb, List, [], ◌∷◌, ◌++◌, length, Option, None, fold, sym, refl, ap, ◌∙◌, subst, append_assoc, append-nil, length-append, arith, eq-eqb, ne_eqb}
use Rattle.std.proofs.lemmas.List.Sums.{fold-append}
use Rattle.usb_types.specs.declared.errno.Code.{Code}
use Rattle.usb_types.specs.declared.urb.Why.TheVariants.{Kill}
use Rattle.usb_machine.specs.declared.event.Event.{Event}
use Rattle.usb_machine.specs.declared.event.Event.TheVariants.{Mark, Reject, Quiet, Claim}
use Rattle.usb_machine.specs.declared.event.Answer.TheVariants.{Number}
use Rattle.usb_machine.specs.declared.transfer.Transfer.{Transfer}
use Rattle.usb_machine.specs.declared.entry.Entry.{Entry}
use Rattle.usb_machine.specs.History.{Machine, is_of}
use Rattle.usb_machine.specs.declared.pass_row.Held.{Held}
use Rattle.usb_machine.specs.Parts.{part_of, held_of, held_after, any_flag, keeps, nothing_held}
use Rattle.usb_machine.specs.Calls.{entry, plain_entry, mark_entry, poison_entries}
use Rattle.usb_machine.specs.Fresh.{Known, Begins, Grown, Sound, EndsWith, Fresh}
use Rattle.usb_machine.specs.HostCalls.{HasClaimed, RestedBeforeLast, number_of}
use Rattle.usb_machine.proofs.Growing.{begins_trans}
use Rattle.usb_cancel.specs.Stops.{ClaimedSince}

-- what is held of u after one more event, which is of u where b is true
abbrev held_if : Bool → Held → Event → Held
held_if b d e = cond b (held_after d e) d

module _ (m : List Entry) (p u : ℕ) (a : Code) where
  abbrev before : Held
  before = held_of m u

  abbrev quiets : List Entry
  quiets = plain_entry p (Reject record { 0 = u }) ∷ mark_entry p Kill u a ∷ plain_entry p (Quiet record { 0 = u }) ∷ []

  abbrev after_quiets : Bool → Held
  after_quiets b = held_if b (held_if b (held_if b before (Reject record { 0 = u })) (Mark record { 0 = u } Kill)) (Quiet record { 0 = u })

  -- the fold over what follows
  held_by : (xs : List Entry) → held_of (m ++ xs) u ≡ fold (λ d x. cond (is_of u x.event) (held_after d x.event) d) before xs
  held_by xs = fold-append (λ d x. cond (is_of u x.event) (held_after d x.event) d) nothing_held m xs

  some_reject : not (eqb (before.rejects + 1) 0) || any_flag before.flags ≡ true
  some_reject = ap (λ b. not b || any_flag before.flags) (ne_eqb (before.rejects + 1) 0 (λ e. absurd (omega (arith, e))))

  same : eqb u u ≡ true
  same = eq-eqb u u refl

  -- the Quiet comes under the reject, so that the pass keeps the URB
  pub kept_by_quiets : keeps (m ++ quiets) u ≡ true
  kept_by_quiets = ap (λ (d : Held). d.kept) (held_by quiets) ∙ ap (λ b. (after_quiets b).kept) same ∙ some_reject

  pub rejects_by_quiets : (held_of (m ++ quiets) u).rejects ≡ before.rejects + 1
  rejects_by_quiets = ap (λ (d : Held). d.rejects) (held_by quiets) ∙ ap (λ b. (after_quiets b).rejects) same

  pub kept_by_poison : (rest : Option ℕ) → keeps (m ++ poison_entries p u a rest) u ≡ true
  kept_by_poison rest = ap (λ (d : Held). d.kept) (held_by (poison_entries p u a rest)) ∙ ap (λ b. (held_if b (after_quiets b) (Claim record { 0 = u })).kept) same ∙ some_reject

  pub rejects_by_poison : (rest : Option ℕ) → (held_of (m ++ poison_entries p u a rest) u).rejects ≡ before.rejects + 1
  rejects_by_poison rest = ap (λ (d : Held). d.rejects) (held_by (poison_entries p u a rest)) ∙ ap (λ b. (held_if b (after_quiets b) (Claim record { 0 = u })).rejects) same

-- the last of one entry is that entry
pub last_of_one : (x last : Entry) (others : List Entry) → x ∷ [] ≡ others ++ last ∷ [] → x ≡ last
last_of_one x last others e = ap (fold (λ (_ y : Entry). y) x) e ∙ fold-append (λ (_ y : Entry). y) x others (last ∷ [])

none_right : (xs more : List Entry) → xs ++ more ≡ [] → more ≡ []
none_right [] more e = e
none_right (y ∷ xs) more e = cc

-- what stands before the last entry begins with each shorter history
split_last : (xs more before : List Entry) (x : Entry) → before ++ x ∷ [] ≡ xs ++ more → (more ≡ []) ⊎ Begins before xs
split_last [] more before x e = inr record { more = before; is = refl }
split_last (y ∷ xs) more [] x e = let rest : [] ≡ xs ++ more = cc in inl (none_right xs more (sym rest))
split_last (y ∷ xs) more (z ∷ before) x e =
    let same : z ≡ y = cc in
    let rest : before ++ x ∷ [] ≡ xs ++ more = cc in
    ⊎_elim (λ (n : more ≡ []). inl n) (λ (b : Begins before xs). inr record { more = b.more; is = (λ j. same j ∷ b.is j) }) (split_last xs more before x rest)

-- after a Claim the pass has claimed what it answered
pub has_claimed : (g : Machine) (p q : Known) (u : ℕ) (t : Option Transfer) → Sound g p → Fresh g p q (entry p.number (Claim record { 0 = u }) (Number (number_of t)) None ∷ []) → RestedBeforeLast q.seen u t → ClaimedSince p.seen q.seen q.number u t
has_claimed g p q u t sound f rested =
    let x : Entry = entry p.number (Claim record { 0 = u }) (Number (number_of t)) None in
    let e : EndsWith q.seen (x ∷ []) = f.ends in
    let last_is : e.last ≡ x = sym (last_of_one x e.last e.others e.entries) in
    let whole : q.seen ≡ (e.before ++ x ∷ []) ++ [] = e.ends ∙ (ap (λ y. e.before ++ y ∷ []) last_is ∙ sym (append-nil (e.before ++ x ∷ []))) in
    let grew : (f.grown.begins.more ≡ []) → ⊥ = λ none.
    let same : q.seen ≡ p.seen = f.grown.begins.is ∙ (ap (λ l. p.seen ++ l) none ∙ append-nil p.seen) in
    let mine : p.mine ≡ p.mine ++ x ∷ [] = sym sound.own ∙ ((λ j. part_of (sym same j) (sym f.grown.number j)) ∙ (f.sound.own ∙ f.grown.mine)) in
    let long = ap (λ (l : List Entry). length l) mine in
    let more = length-append p.mine (x ∷ []) in
    omega arith in
    let late : Begins e.before p.seen = ⊎_elim (λ (n : f.grown.begins.more ≡ []). absurd (grew n)) (λ (b : Begins e.before p.seen). b) (split_last p.seen f.grown.begins.more e.before e.last (sym e.ends ∙ f.grown.begins.is)) in
    subst (λ n. ClaimedSince p.seen q.seen n u t) (sym f.grown.number) record {
      claimed = record { before = e.before; behind = []; parts = whole; rested = rested e.before e.last e.ends };
      late = late;
    }

-- and keeps that
pub claimed_later : (p q : Known) (xs : List Entry) (u : ℕ) (t : Option Transfer) → Grown p q xs → HasClaimed p.seen p.number u t → HasClaimed q.seen q.number u t
claimed_later p q xs u t grown c =
    let x : Entry = entry p.number (Claim record { 0 = u }) (Number (number_of t)) None in
    subst (λ n. HasClaimed q.seen n u t) (sym grown.number) record {
      before = c.before;
      behind = c.behind ++ grown.begins.more;
      parts = grown.begins.is ∙ (ap (λ l. l ++ grown.begins.more) c.parts ∙ append_assoc (c.before ++ x ∷ []) c.behind grown.begins.more);
      rested = c.rested;
    }

pub since_later : (old : List Entry) (p q : Known) (xs : List Entry) (u : ℕ) (t : Option Transfer) → Grown p q xs → ClaimedSince old p.seen p.number u t → ClaimedSince old q.seen q.number u t
since_later old p q xs u t grown c =
    let x : Entry = entry p.number (Claim record { 0 = u }) (Number (number_of t)) None in
    let b = c.claimed in
    subst (λ n. ClaimedSince old q.seen n u t) (sym grown.number) record {
      claimed = record {
        before = b.before;
        behind = b.behind ++ grown.begins.more;
        parts = grown.begins.is ∙ (ap (λ l. l ++ grown.begins.more) b.parts ∙ append_assoc (b.before ++ x ∷ []) b.behind grown.begins.more);
        rested = b.rested;
      };
      late = c.late;
    }

-- it was claimed since each shorter history
pub since_longer : (older old history : List Entry) (p u : ℕ) (t : Option Transfer) → Begins old older → ClaimedSince old history p u t → ClaimedSince older history p u t
since_longer older old history p u t begins c = record { claimed = c.claimed; late = begins_trans c.claimed.before old older c.late begins }
