-- How far a reset is: what is rejected, and what is let go again.
use Rattle.std.proofs.Common.{◌≡◌, ℕ, ◌+◌, ◌-◌, ◌<◌, ◌⊎◌, inl, inr, ⊎_elim, Bool, true, false, not, ◌||◌, ◌&&◌, cond, eqb, List, [], ◌∷◌, ◌++◌, length, Option, sym, refl, ap, ◌∙◌, subst, append_assoc, append-nil, arith, eq-eqb, ne_eqb}
use Rattle.usb_types.specs.declared.urb.UrbId.{UrbId}
use Rattle.usb_machine.specs.declared.event.Event.TheVariants.{Reject, Withdraw}
use Rattle.usb_machine.specs.declared.entry.Entry.{Entry}
use Rattle.usb_machine.specs.declared.pass_row.Held.{Held}
use Rattle.usb_machine.specs.History.{Machine}
use Rattle.usb_machine.specs.Parts.{held_of, holds_any, any_flag}
use Rattle.usb_machine.specs.Calls.{plain_entry, claims_of, claim_entries}
use Rattle.usb_machine.specs.Fresh.{Known, Grown, Sound, EndsWith, Fresh}
use Rattle.usb_machine.proofs.Steps.{held_of-snoc}
use Rattle.usb_machine.proofs.Growing.{grown_none, grown_more}
use Rattle.usb_cancel.specs.Flushing.{ids, Has, AreApart, AreHeld}
use Rattle.usb_cancel.specs.Reopening.{rejects_of, withdraws_of, MayRejectAll, AreRejected}
use Rattle.usb_cancel.proofs.Flushes.{apart_eqb, held_claims, ends_more, left}

-- the rest are still to be rejected
pub record Rejecting (p q : Known) (all rest : List ℕ) : Type 0 where
  pub done : List Entry
  pub grown : Grown p q done
  pub parts : done ++ rejects_of p.number rest ≡ rejects_of p.number all
  pub room : MayRejectAll q.mine rest
  pub apart : AreApart rest
  pub some : (v : ℕ) → Has all v → (0 < (held_of q.mine v).rejects) ⊎ Has rest v

-- the rest are still to be let go
pub record Withdrawing (g : Machine) (p q : Known) (all rest : List ℕ) : Type 0 where
  pub done : List Entry
  pub grown : Grown p q done
  pub parts : done ++ withdraws_of p.number rest ≡ withdraws_of p.number all
  pub some : AreRejected q.mine rest
  pub apart : AreApart rest
  pub last : (all ≡ rest) ⊎ (Sound g q × EndsWith q.seen done)

rejects_step : (m : List Entry) (n u v : ℕ) → (held_of (m ++ plain_entry n (Reject record { 0 = u }) ∷ []) v).rejects ≡ cond (eqb u v) ((held_of m v).rejects + 1) (held_of m v).rejects
rejects_step m n u v = ap (λ (d : Held). d.rejects) (held_of-snoc m (plain_entry n (Reject record { 0 = u })) v) ∙ either (eqb u v) (held_of m v)
  where
    either : (b : Bool) (d : Held) → (cond b (record d { rejects = d.rejects + 1 }) d).rejects ≡ cond b (d.rejects + 1) d.rejects
    either true d = refl
    either false d = refl

withdraws_step : (m : List Entry) (n u v : ℕ) → (held_of (m ++ plain_entry n (Withdraw record { 0 = u }) ∷ []) v).rejects ≡ cond (eqb u v) ((held_of m v).rejects - 1) (held_of m v).rejects
withdraws_step m n u v = ap (λ (d : Held). d.rejects) (held_of-snoc m (plain_entry n (Withdraw record { 0 = u })) v) ∙ either (eqb u v) (held_of m v)
  where
    either : (b : Bool) (d : Held) → (cond b (record d { rejects = d.rejects - 1; kept = d.kept && holds_any (record d { rejects = d.rejects - 1 }) }) d).rejects ≡ cond b (d.rejects - 1) d.rejects
    either true d = refl
    either false d = refl

more_if : (b : Bool) (n : ℕ) → 0 < n → 0 < cond b (n + 1) n
more_if true n l = omega arith
more_if false n l = l

pub reject_next : (p q r : Known) (all rest : List ℕ) (u : ℕ) → Rejecting p q all (u ∷ rest) → Grown q r (plain_entry q.number (Reject record { 0 = u }) ∷ []) → Rejecting p r all rest
reject_next p q r all rest u l step =
    let x : Entry = plain_entry q.number (Reject record { 0 = u }) in
    let same : x ≡ plain_entry p.number (Reject record { 0 = u }) = ap (λ n. plain_entry n (Reject record { 0 = u })) l.grown.number in
    let after : (v : ℕ) → (held_of r.mine v).rejects ≡ cond (eqb u v) ((held_of q.mine v).rejects + 1) (held_of q.mine v).rejects = λ v. ap (λ m. (held_of m v).rejects) step.mine ∙ rejects_step q.mine q.number u v in
    record {
      done = l.done ++ x ∷ [];
      grown = grown_more p q r l.done (x ∷ []) l.grown step;
      parts = append_assoc l.done (x ∷ []) (rejects_of p.number rest) ∙ (ap (λ y. l.done ++ y ∷ rejects_of p.number rest) same ∙ l.parts);
      room = λ v h. subst (λ n. n < 255) (sym (after v ∙ ap (λ b. cond b ((held_of q.mine v).rejects + 1) (held_of q.mine v).rejects) (apart_eqb u v rest l.apart.0 h))) (l.room v (inr h));
      apart = l.apart.1;
      some = λ v h. ⊎_elim
          (λ (t : 0 < (held_of q.mine v).rejects). inl (subst (λ n. 0 < n) (sym (after v)) (more_if (eqb u v) (held_of q.mine v).rejects t)))
          (λ (t : (u ≡ v) ⊎ Has rest v). ⊎_elim
          (λ (e : u ≡ v). inl (subst (λ n. 0 < n) (sym (after v ∙ ap (λ b. cond b ((held_of q.mine v).rejects + 1) (held_of q.mine v).rejects) (eq-eqb u v e))) (omega arith)))
          (λ (k : Has rest v). inr k) t)
          (l.some v h);
    }

pub withdraw_next : (g : Machine) (p q r : Known) (all rest : List ℕ) (u : ℕ) → Withdrawing g p q all (u ∷ rest) → Fresh g q r (plain_entry q.number (Withdraw record { 0 = u }) ∷ []) → Withdrawing g p r all rest
withdraw_next g p q r all rest u l step =
    let x : Entry = plain_entry q.number (Withdraw record { 0 = u }) in
    let same : x ≡ plain_entry p.number (Withdraw record { 0 = u }) = ap (λ n. plain_entry n (Withdraw record { 0 = u })) l.grown.number in
    let after : (v : ℕ) → (held_of r.mine v).rejects ≡ cond (eqb u v) ((held_of q.mine v).rejects - 1) (held_of q.mine v).rejects = λ v. ap (λ m. (held_of m v).rejects) step.grown.mine ∙ withdraws_step q.mine q.number u v in
    record {
      done = l.done ++ x ∷ [];
      grown = grown_more p q r l.done (x ∷ []) l.grown step.grown;
      parts = append_assoc l.done (x ∷ []) (withdraws_of p.number rest) ∙ (ap (λ y. l.done ++ y ∷ withdraws_of p.number rest) same ∙ l.parts);
      some = λ v h. subst (λ n. 0 < n) (sym (after v ∙ ap (λ b. cond b ((held_of q.mine v).rejects - 1) (held_of q.mine v).rejects) (apart_eqb u v rest l.apart.0 h))) (l.some v (inr h));
      apart = l.apart.1;
      last = inr (step.sound, ends_more r.seen l.done (x ∷ []) step.ends);
    }

pub reject_start : (p : Known) (all : List ℕ) → MayRejectAll p.mine all → AreApart all → Rejecting p p all all
reject_start p all room apart = record { done = []; grown = grown_none p; parts = refl; room = room; apart = apart; some = λ v h. inr h }

pub withdraw_start : (g : Machine) (p : Known) (all : List ℕ) → AreRejected p.mine all → AreApart all → Withdrawing g p p all all
withdraw_start g p all some apart = record { done = []; grown = grown_none p; parts = refl; some = some; apart = apart; last = inl refl }

pub reject_end : (p q : Known) (all : List ℕ) → Rejecting p q all [] → Grown p q (rejects_of p.number all) × AreRejected q.mine all
reject_end p q all l = (subst (Grown p q) (sym (append-nil l.done) ∙ l.parts) l.grown, λ v h. left (l.some v h) (λ b. b))

pub withdraw_end : (g : Machine) (p q : Known) (all : List ℕ) → Withdrawing g p q all [] → Grown p q (withdraws_of p.number all) × ((all ≡ []) ⊎ (Sound g q × EndsWith q.seen (withdraws_of p.number all)))
withdraw_end g p q all l =
    let is : l.done ≡ withdraws_of p.number all = sym (append-nil l.done) ∙ l.parts in
    (subst (Grown p q) is l.grown, subst (λ xs. (all ≡ []) ⊎ (Sound g q × EndsWith q.seen xs)) is l.last)

pub no_ids : (us : List UrbId) → ids us ≡ [] → us ≡ []
no_ids [] e = refl
no_ids (u ∷ us) e = absurd (omega (arith, ap length e))

-- a reject holds
pub rejected_held : (m : List Entry) (us : List ℕ) → AreRejected m us → AreHeld m us
rejected_held m us some v h = ap (λ b. not b || any_flag (held_of m v).flags) (ne_eqb (held_of m v).rejects 0 (λ e. absurd (omega (arith, e, some v h))))

-- a wait and a claim of some leave the rejects
pub rejects_claims : (n v : ℕ) (m : List Entry) (us : List ℕ) (rests : List (Option ℕ)) → (held_of (m ++ claims_of n us rests) v).rejects ≡ (held_of m v).rejects
rejects_claims n v m [] rests = ap (λ l. (held_of l v).rejects) (append-nil m)
rejects_claims n v m (u ∷ us) [] = ap (λ l. (held_of l v).rejects) (append-nil m)
rejects_claims n v m (u ∷ us) (rest ∷ rests) =
    ap (λ l. (held_of l v).rejects) (sym (append_assoc m (claim_entries n u rest) (claims_of n us rests)))
    ∙ (rejects_claims n v (m ++ claim_entries n u rest) us rests ∙ (ap (λ (d : Held). d.rejects) (held_claims m n u v rest) ∙ either (eqb u v) (held_of m v)))
  where
    either : (b : Bool) (d : Held) → (cond b (record d { kept = holds_any d }) d).rejects ≡ d.rejects
    either true d = refl
    either false d = refl

-- the four parts of a reset, one after another
module _ (g : Machine) (p q r s t : Known) (xs ys : List Entry) (zs ws : ℕ → List Entry) (a : Grown p q xs) (b : Grown q r ys) (c : Grown r s (zs r.number)) (d : Grown s t (ws s.number)) where
  two : Grown p r (xs ++ ys)
  two = grown_more p q r xs ys a b

  three : Grown p s ((xs ++ ys) ++ zs p.number)
  three = subst (λ n. Grown p s ((xs ++ ys) ++ zs n)) two.number (grown_more p r s (xs ++ ys) (zs r.number) two c)

  four : Grown p t (((xs ++ ys) ++ zs p.number) ++ ws p.number)
  four = subst (λ n. Grown p t (((xs ++ ys) ++ zs p.number) ++ ws n)) three.number (grown_more p s t ((xs ++ ys) ++ zs p.number) (ws s.number) three d)

  order : ((xs ++ ys) ++ zs p.number) ++ ws p.number ≡ xs ++ (ys ++ (zs p.number ++ ws p.number))
  order = append_assoc (xs ++ ys) (zs p.number) (ws p.number) ∙ append_assoc xs ys (zs p.number ++ ws p.number)

  pub reopened : Grown p t (xs ++ (ys ++ (zs p.number ++ ws p.number)))
  reopened = subst (Grown p t) order four

  pub reopened_fresh : Sound g t → EndsWith t.seen (ws s.number) → Fresh g p t (xs ++ (ys ++ (zs p.number ++ ws p.number)))
  reopened_fresh sound ends = record {
    grown = reopened;
    sound = sound;
    ends = subst (EndsWith t.seen) order (ends_more t.seen ((xs ++ ys) ++ zs p.number) (ws p.number) (subst (λ n. EndsWith t.seen (ws n)) three.number ends));
  }
