-- How far a shutdown is: what is done, and what is left.
use Rattle.std.proofs.Common.{◌≡◌, ◌≢◌, ℕ, zero, suc, ◌+◌, ◌<◌, ◌⊎◌, inl, inr, ⊎_elim, Bool, true, false, cond, eqb, List, [], ◌∷◌, ◌++◌, length, take, drop, get_or, ◌≤◌, Option, None, sym, refl, ap, ◌∙◌, subst, append_assoc, append-nil, arith, eq-eqb, ne_eqb, set}
use Rattle.std.proofs.lemmas.List.Sums.{fold-append}
use Rattle.usb_types.specs.declared.errno.Code.{Code}
use Rattle.usb_types.specs.declared.urb.UrbId.{UrbId}
use Rattle.usb_types.specs.declared.urb.Flag.{Flag as FlagName}
use Rattle.usb_types.specs.declared.urb.Flag.TheVariants.{Gone, Off, Down}
use Rattle.usb_types.specs.declared.urb.Why.{Why}
use Rattle.usb_machine.specs.declared.event.Event.TheVariants.{Quiet, Claim, Flag}
use Rattle.usb_machine.specs.declared.transfer.Transfer.{Transfer}
use Rattle.usb_machine.specs.declared.entry.Entry.{Entry}
use Rattle.usb_machine.specs.declared.state.Flags.{Flags}
use Rattle.usb_machine.specs.declared.pass_row.Held.{Held}
use Rattle.usb_machine.specs.State.{has_flag, with_flag}
use Rattle.usb_machine.specs.History.{Machine, is_of}
use Rattle.usb_machine.specs.Parts.{held_of, held_after, holds_any, keeps, nothing_held}
use Rattle.usb_machine.specs.Calls.{plain_entry, mark_entry, marks_of, claims_of, claim_entries}
use Rattle.usb_machine.proofs.Steps.{held_of-snoc}
use Rattle.usb_machine.specs.Fresh.{Known, Grown, Sound, EndsWith, Fresh}
use mathlib.Core.Logic.{dite}
use native.Mathlib.Decide.{ℕ_discrete}
use Rattle.std.proofs.lemmas.List.{get_or-set_same, get_or-set_other}
use Rattle.usb_machine.specs.HostCalls.{number_of}
use Rattle.usb_cancel.specs.Stops.{ClaimedSince}
use Rattle.usb_cancel.proofs.Stopping.{since_later, since_longer}
use Rattle.usb_machine.proofs.Growing.{grown_none, grown_more}
use Rattle.usb_cancel.specs.Flushing.{ids, Has, AreApart, AreFlagged, AreUnflagged, AreHeld, AreKept, Marked, flags_of, numbers_of}

-- the rest are still to be flagged
pub record Flagging (f : FlagName) (p q : Known) (all rest : List ℕ) : Type 0 where
  pub done : List Entry
  pub grown : Grown p q done
  pub parts : done ++ flags_of p.number f rest ≡ flags_of p.number f all
  pub unset : AreUnflagged f q.mine rest
  pub apart : AreApart rest
  pub flagged : (v : ℕ) → Has all v → (has_flag f (held_of q.mine v).flags ≡ true) ⊎ Has rest v

-- the rest are still to be marked
pub record Marking (why : Why) (p q : Known) (all rest : List ℕ) : Type 0 where
  pub done : List Entry
  pub grown : Grown p q done
  pub parts : (cs : List Code) → length cs ≡ length rest → (bs : List Code) × (length bs ≡ length all) × (done ++ marks_of p.number why rest cs ≡ marks_of p.number why all bs)
  pub held : (v : ℕ) → held_of q.mine v ≡ held_of p.mine v

-- the rest are still to be waited for
pub record Settling (g : Machine) (p q : Known) (all rest : List ℕ) (i : ℕ) (rests : List (Option Transfer)) : Type 0 where
  pub done : List Entry
  pub grown : Grown p q done
  pub parts : (rs : List (Option Transfer)) → length rs ≡ length rest → done ++ claims_of p.number rest (numbers_of rs) ≡ claims_of p.number all (numbers_of (take i rests ++ rs))
  pub held : AreHeld q.mine all
  pub kept : (v : ℕ) → Has all v → (keeps q.mine v ≡ true) ⊎ Has rest v
  pub last : (i ≡ 0) ⊎ (Sound g q × EndsWith q.seen done)
  pub claims : (j : ℕ) → j < i → ClaimedSince p.seen q.seen q.number (get_or all j 0) (get_or rests j None)

-- a flag of u is set, and no other
held_flag : (m : List Entry) (n u v : ℕ) (f : FlagName) → (held_of (m ++ plain_entry n (Flag record { 0 = u } f) ∷ []) v).flags ≡ cond (eqb u v) (with_flag f true (held_of m v).flags) (held_of m v).flags
held_flag m n u v f = ap (λ (d : Held). d.flags) (held_of-snoc m (plain_entry n (Flag record { 0 = u } f)) v) ∙ either (eqb u v) (held_of m v)
  where
    either : (b : Bool) (d : Held) → (cond b (record d { flags = with_flag f true d.flags }) d).flags ≡ cond b (with_flag f true d.flags) d.flags
    either true d = refl
    either false d = refl

set_is : (f : FlagName) (x : Flags) → has_flag f (with_flag f true x) ≡ true
set_is Gone x = refl
set_is Off x = refl
set_is Down x = refl

has_if : (f : FlagName) (b : Bool) (x : Flags) → has_flag f x ≡ true → has_flag f (cond b (with_flag f true x) x) ≡ true
has_if f true x h = set_is f x
has_if f false x h = h

pub apart_eqb : (u v : ℕ) (us : List ℕ) → (Has us u → ⊥) → Has us v → eqb u v ≡ false
apart_eqb u v us off h = ne_eqb u v (λ e. off (subst (Has us) (sym e) h))

pub flag_next : (f : FlagName) (p q r : Known) (all rest : List ℕ) (u : ℕ) → Flagging f p q all (u ∷ rest) → Grown q r (plain_entry q.number (Flag record { 0 = u } f) ∷ []) → Flagging f p r all rest
flag_next f p q r all rest u l step =
    let x : Entry = plain_entry q.number (Flag record { 0 = u } f) in
    let same : x ≡ plain_entry p.number (Flag record { 0 = u } f) = ap (λ n. plain_entry n (Flag record { 0 = u } f)) l.grown.number in
    let after : (v : ℕ) → (held_of r.mine v).flags ≡ cond (eqb u v) (with_flag f true (held_of q.mine v).flags) (held_of q.mine v).flags = λ v. ap (λ m. (held_of m v).flags) step.mine ∙ held_flag q.mine q.number u v f in
    record {
      done = l.done ++ x ∷ [];
      grown = grown_more p q r l.done (x ∷ []) l.grown step;
      parts = append_assoc l.done (x ∷ []) (flags_of p.number f rest) ∙ (ap (λ y. l.done ++ y ∷ flags_of p.number f rest) same ∙ l.parts);
      unset = λ v h. ap (has_flag f) (after v ∙ ap (λ b. cond b (with_flag f true (held_of q.mine v).flags) (held_of q.mine v).flags) (apart_eqb u v rest l.apart.0 h)) ∙ l.unset v (inr h);
      apart = l.apart.1;
      flagged = λ v h. ⊎_elim
          (λ (t : has_flag f (held_of q.mine v).flags ≡ true). inl (ap (has_flag f) (after v) ∙ has_if f (eqb u v) (held_of q.mine v).flags t))
          (λ (t : (u ≡ v) ⊎ Has rest v). ⊎_elim
          (λ (e : u ≡ v). inl (ap (has_flag f) (after v ∙ ap (λ b. cond b (with_flag f true (held_of q.mine v).flags) (held_of q.mine v).flags) (eq-eqb u v e)) ∙ set_is f (held_of q.mine v).flags))
          (λ (k : Has rest v). inr k) t)
          (l.flagged v h);
    }

either_same : (b : Bool) (d : Held) → cond b d d ≡ d
either_same true d = refl
either_same false d = refl

pub mark_next : (why : Why) (p q r : Known) (all rest : List ℕ) (u : ℕ) (a : Code) → Marking why p q all (u ∷ rest) → Grown q r (mark_entry q.number why u a ∷ []) → Marking why p r all rest
mark_next why p q r all rest u a l step =
    let x : Entry = mark_entry q.number why u a in
    let same : x ≡ mark_entry p.number why u a = ap (λ n. mark_entry n why u a) l.grown.number in
    record {
      done = l.done ++ x ∷ [];
      grown = grown_more p q r l.done (x ∷ []) l.grown step;
      parts = λ cs size.
          let t = l.parts (a ∷ cs) (omega (arith, size)) in
          (t.0, t.1, append_assoc l.done (x ∷ []) (marks_of p.number why rest cs) ∙ (ap (λ y. l.done ++ y ∷ marks_of p.number why rest cs) same ∙ t.2));
      held = λ v. ap (λ m. held_of m v) step.mine ∙ (held_of-snoc q.mine x v ∙ (either_same (eqb u v) (held_of q.mine v) ∙ l.held v));
    }

-- after a Quiet and a Claim of u what is held of v is the same, and of u it is kept where it is held
pub held_claims : (m : List Entry) (n u v : ℕ) (rest : Option ℕ) → held_of (m ++ claim_entries n u rest) v ≡ cond (eqb u v) (record (held_of m v) { kept = holds_any (held_of m v) }) (held_of m v)
held_claims m n u v rest = fold-append (λ d y. cond (is_of v y.event) (held_after d y.event) d) nothing_held m (claim_entries n u rest) ∙ either (eqb u v) (held_of m v)
  where
    either : (b : Bool) (d : Held) → cond b (held_after (cond b (held_after d (Quiet record { 0 = u })) d) (Claim record { 0 = u })) (cond b (held_after d (Quiet record { 0 = u })) d) ≡ cond b (record d { kept = holds_any d }) d
    either true d = refl
    either false d = refl

holds_if : (b : Bool) (d : Held) → holds_any d ≡ true → holds_any (cond b (record d { kept = holds_any d }) d) ≡ true
holds_if true d h = h
holds_if false d h = h

kept_if : (b : Bool) (d : Held) → holds_any d ≡ true → d.kept ≡ true → (cond b (record d { kept = holds_any d }) d).kept ≡ true
kept_if true d h k = h
kept_if false d h k = k

suc_more : (i : ℕ) → suc i + 1 ≡ suc (i + 1)
suc_more i = omega arith

-- one more of a list was set
take_set : {A : Type 0} (xs : List A) (i : ℕ) (x : A) → i < length xs → take (i + 1) (set xs i x) ≡ take i xs ++ x ∷ []
take_set [] i x lt = absurd (omega arith)
take_set (y ∷ ys) zero x lt = refl
take_set (y ∷ ys) (suc i) x lt = ap (λ k. take k (y ∷ set ys i x)) (suc_more i) ∙ ap (λ l. y ∷ l) (take_set ys i x (omega arith))

pub ends_more : (h done more : List Entry) → EndsWith h more → EndsWith h (done ++ more)
ends_more h done more e = record { before = e.before; others = done ++ e.others; last = e.last; ends = e.ends; entries = ap (λ l. done ++ l) e.entries ∙ sym (append_assoc done e.others (e.last ∷ [])) }

pub settle_next : (g : Machine) (p q r : Known) (all rest : List ℕ) (u i : ℕ) (rests : List (Option Transfer)) (t : Option Transfer) → i < length rests → u ≡ get_or all i 0 → Settling g p q all (u ∷ rest) i rests → Fresh g q r (claim_entries q.number u (number_of t)) → ClaimedSince q.seen r.seen r.number u t → Settling g p r all rest (i + 1) (set rests i t)
settle_next g p q r all rest u i rests t lt at l step claimed =
    let xs : List Entry = claim_entries q.number u (number_of t) in
    let same : xs ≡ claim_entries p.number u (number_of t) = ap (λ n. claim_entries n u (number_of t)) l.grown.number in
    let after : (v : ℕ) → held_of r.mine v ≡ cond (eqb u v) (record (held_of q.mine v) { kept = holds_any (held_of q.mine v) }) (held_of q.mine v) = λ v. ap (λ m. held_of m v) step.grown.mine ∙ held_claims q.mine q.number u v (number_of t) in
    record {
      done = l.done ++ xs;
      grown = grown_more p q r l.done xs l.grown step.grown;
      parts = λ rs size.
          append_assoc l.done xs (claims_of p.number rest (numbers_of rs))
          ∙ (ap (λ y. l.done ++ (y ++ claims_of p.number rest (numbers_of rs))) same
          ∙ (l.parts (t ∷ rs) (omega (arith, size))
          ∙ ap (λ y. claims_of p.number all (numbers_of y)) (sym (append_assoc (take i rests) (t ∷ []) rs) ∙ ap (λ y. y ++ rs) (sym (take_set rests i t lt)))));
      held = λ v h. ap holds_any (after v) ∙ holds_if (eqb u v) (held_of q.mine v) (l.held v h);
      kept = λ v h. ⊎_elim
          (λ (k : keeps q.mine v ≡ true). inl (ap (λ (d : Held). d.kept) (after v) ∙ kept_if (eqb u v) (held_of q.mine v) (l.held v h) k))
          (λ (k : (u ≡ v) ⊎ Has rest v). ⊎_elim
          (λ (e : u ≡ v). inl (ap (λ (d : Held). d.kept) (after v ∙ ap (λ b. cond b (record (held_of q.mine v) { kept = holds_any (held_of q.mine v) }) (held_of q.mine v)) (eq-eqb u v e)) ∙ l.held v h))
          (λ (j : Has rest v). inr j) k)
          (l.kept v h);
      last = inr (step.sound, ends_more r.seen l.done xs step.ends);
      claims = λ j lj. dite (ℕ_discrete j i)
          (λ same. subst (λ k. ClaimedSince p.seen r.seen r.number (get_or all k 0) (get_or (set rests i t) k None)) (sym same)
          (subst (λ v. ClaimedSince p.seen r.seen r.number v (get_or (set rests i t) i None)) at (subst (ClaimedSince p.seen r.seen r.number u) (sym (get_or-set_same rests i t None lt)) (since_longer p.seen q.seen r.seen r.number u t l.grown.begins claimed))))
          (λ off. subst (ClaimedSince p.seen r.seen r.number (get_or all j 0)) (sym (get_or-set_other rests i j t None off)) (since_later p.seen q r xs (get_or all j 0) (get_or rests j None) step.grown (l.claims j (below j i lj off))));
    }
  where
    below : (j i : ℕ) → j < i + 1 → j ≢ i → j < i
    below j i lt off = omega arith

-- the first that is left, and the rest
pub drop_at : {A : Type 0} (xs : List A) (i : ℕ) (d : A) → i < length xs → drop i xs ≡ get_or xs i d ∷ drop (i + 1) xs
drop_at [] i d lt = absurd (omega arith)
drop_at (y ∷ ys) zero d lt = refl
drop_at (y ∷ ys) (suc i) d lt = drop_at ys i d (omega arith) ∙ ap (λ k. get_or ys i d ∷ drop k (y ∷ ys)) (sym (suc_more i))

drop_all : {A : Type 0} (xs : List A) (i : ℕ) → length xs ≤ i → drop i xs ≡ []
drop_all [] zero lt = refl
drop_all [] (suc i) lt = refl
drop_all (y ∷ ys) zero lt = absurd (omega arith)
drop_all (y ∷ ys) (suc i) lt = drop_all ys i (omega arith)

take_all : {A : Type 0} (xs : List A) (i : ℕ) → length xs ≤ i → take i xs ≡ xs
take_all [] zero lt = refl
take_all [] (suc i) lt = refl
take_all (y ∷ ys) zero lt = absurd (omega arith)
take_all (y ∷ ys) (suc i) lt = ap (λ l. y ∷ l) (take_all ys i (omega arith))

pub ids_at : (us : List UrbId) (i : ℕ) (d : UrbId) → i < length us → ids (drop i us) ≡ (get_or us i d).0 ∷ ids (drop (i + 1) us)
ids_at us i d lt = ap ids (drop_at us i d lt)

pub ids_end : (us : List UrbId) (i : ℕ) → length us ≤ i → ids (drop i us) ≡ []
ids_end us i lt = ap ids (drop_all us i lt)

pub has_at : (us : List UrbId) (i : ℕ) (d : UrbId) → i < length us → Has (ids us) (get_or us i d).0
has_at [] i d lt = absurd (omega arith)
has_at (u ∷ us) zero d lt = inl refl
has_at (u ∷ us) (suc i) d lt = inr (has_at us i d (omega arith))

pub get_ids : (us : List UrbId) (i : ℕ) (d : UrbId) → i < length us → (get_or us i d).0 ≡ get_or (ids us) i 0
get_ids [] i d lt = absurd (omega arith)
get_ids (u ∷ us) zero d lt = refl
get_ids (u ∷ us) (suc i) d lt = get_ids us i d (omega arith)

pub flag_start : (f : FlagName) (p : Known) (all : List ℕ) → AreUnflagged f p.mine all → AreApart all → Flagging f p p all all
flag_start f p all unset apart = record { done = []; grown = grown_none p; parts = refl; unset = unset; apart = apart; flagged = λ v h. inr h }

pub mark_start : (why : Why) (p : Known) (all : List ℕ) → Marking why p p all all
mark_start why p all = record { done = []; grown = grown_none p; parts = λ cs size. (cs, size, refl); held = λ v. refl }

pub settle_start : (g : Machine) (p : Known) (all : List ℕ) (rests : List (Option Transfer)) → AreHeld p.mine all → Settling g p p all all 0 rests
settle_start g p all rests held = record { done = []; grown = grown_none p; parts = λ rs size. refl; held = held; kept = λ v h. inr h; last = inl refl; claims = λ j lt. absurd (omega arith) }

pub left : {A B : Type 0} → A ⊎ B → (B → ⊥) → A
left t off = ⊎_elim (λ a. a) (λ b. absurd (off b)) t

pub flag_end : (f : FlagName) (p q : Known) (all : List ℕ) → Flagging f p q all [] → Grown p q (flags_of p.number f all) × AreFlagged f q.mine all
flag_end f p q all l = (subst (Grown p q) (sym (append-nil l.done) ∙ l.parts) l.grown, λ v h. left (l.flagged v h) (λ b. b))

pub mark_end : (why : Why) (p q : Known) (all : List ℕ) → Marking why p q all [] → Marked why p q all
mark_end why p q all l = let t = l.parts [] refl in record { answers = t.0; each = t.1; grown = subst (Grown p q) (sym (append-nil l.done) ∙ t.2) l.grown }

pub settle_end : (g : Machine) (p q : Known) (all : List ℕ) (i : ℕ) (rests : List (Option Transfer)) → length rests ≤ i → Settling g p q all [] i rests
    → Grown p q (claims_of p.number all (numbers_of rests)) × ((i ≡ 0) ⊎ (Sound g q × EndsWith q.seen (claims_of p.number all (numbers_of rests)))) × AreKept q.mine all
settle_end g p q all i rests lt l =
    let is : l.done ≡ claims_of p.number all (numbers_of rests) = sym (append-nil l.done) ∙ (l.parts [] refl ∙ ap (λ y. claims_of p.number all (numbers_of y)) (append-nil (take i rests) ∙ take_all rests i lt)) in
    (subst (Grown p q) is l.grown, subst (λ xs. (i ≡ 0) ⊎ (Sound g q × EndsWith q.seen xs)) is l.last, λ v h. left (l.kept v h) (λ b. b))

-- the three parts of a flush, one after another
pub flushed : (g : Machine) (p q r t : Known) (xs ys : List Entry) (zs : ℕ → List Entry) → Grown p q xs → Grown q r ys → Grown r t (zs r.number) → Sound g t → EndsWith t.seen (zs r.number) → Fresh g p t ((xs ++ ys) ++ zs p.number)
flushed g p q r t xs ys zs a b c sound ends =
    let ab : Grown p r (xs ++ ys) = grown_more p q r xs ys a b in
    subst (λ n. Fresh g p t ((xs ++ ys) ++ zs n)) ab.number record {
      grown = grown_more p r t (xs ++ ys) (zs r.number) ab c;
      sound = sound;
      ends = ends_more t.seen (xs ++ ys) (zs r.number) ends;
    }
