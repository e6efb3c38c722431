-- What one more entry does to what each pass owes and holds of each URB.
use Rattle.std.proofs.Common.{◌≡◌, ◌≢◌, ℕ, suc, ◌+◌, ◌*◌, ◌<◌, ◌≤◌, Bool, true, false, ◌&&◌, ◌||◌, cond, List, [], ◌∷◌, ◌++◌, set, sym, refl, ap, ◌∙◌, subst, arith, eq-eqb, ne_eqb, eqb-true, Some}
use Rattle.std.specs.Prelude.{slice_get}
use Rattle.std.proofs.Math.Nat.{mul-le-mul_right, suc-mul}
use Rattle.std.proofs.lemmas.Option.{slice_get_within}
use Rattle.circular_buffer.proofs.Places.{slice_get-set_same, slice_get-set_other}
use mathlib.Core.Logic.{dite}
use native.Mathlib.Decide.{ℕ_discrete, dec_lt}
use Rattle.usb_machine.specs.declared.event.Event.{Event}
use Rattle.usb_machine.specs.declared.event.Event.TheVariants.{Submit, Link, Take, Mark, Finish, Give, Rest, End, Reject, Withdraw, Quiet, Claim, Flag, Unflag}
use Rattle.usb_machine.specs.declared.event.Answer.{Answer}
use Rattle.usb_machine.specs.declared.entry.Entry.{Entry}
use Rattle.usb_machine.specs.declared.pass_row.PassRow.{PassRow}
use Rattle.usb_machine.specs.State.{accepted}
use Rattle.usb_machine.specs.History.{Machine, is_of}
use Rattle.usb_machine.specs.Parts.{part_of, owes, owes_after, Held, held_of, held_after}
use Rattle.usb_machine.specs.Legal.{urb_of}
use Rattle.usb_machine.specs.Rows.{CanHold, row_of, owes_next, row_after}
use Rattle.usb_machine.specs.Plain.{IsOfUrb, HasRoom}
use Rattle.usb_machine.proofs.Steps.{part_other, held_own, held_other, owes_own}

-- the event is of its own URB and of no other
pub is_of_own : (e : Event) → IsOfUrb e → is_of (urb_of e) e ≡ true
is_of_own (Take d) i = absurd i
is_of_own _ i = eq-eqb _ _ refl

pub is_of_other : (v : ℕ) (e : Event) → v ≢ urb_of e → is_of v e ≡ false
is_of_other v (Take d) ne = refl
is_of_other v (Submit u n) ne = ne_eqb u.0 v (λ i. ne (sym i))
is_of_other v (Link u) ne = ne_eqb u.0 v (λ i. ne (sym i))
is_of_other v (Mark u w) ne = ne_eqb u.0 v (λ i. ne (sym i))
is_of_other v (Finish u c) ne = ne_eqb u.0 v (λ i. ne (sym i))
is_of_other v (Give u) ne = ne_eqb u.0 v (λ i. ne (sym i))
is_of_other v (Rest u n) ne = ne_eqb u.0 v (λ i. ne (sym i))
is_of_other v (End u) ne = ne_eqb u.0 v (λ i. ne (sym i))
is_of_other v (Reject u) ne = ne_eqb u.0 v (λ i. ne (sym i))
is_of_other v (Withdraw u) ne = ne_eqb u.0 v (λ i. ne (sym i))
is_of_other v (Quiet u) ne = ne_eqb u.0 v (λ i. ne (sym i))
is_of_other v (Claim u) ne = ne_eqb u.0 v (λ i. ne (sym i))
is_of_other v (Flag u f) ne = ne_eqb u.0 v (λ i. ne (sym i))
is_of_other v (Unflag u f) ne = ne_eqb u.0 v (λ i. ne (sym i))

-- the rejects that a pass holds stay below 256
few_after : (e : Event) (d : Held) → CanHold e d → d.rejects ≤ 255 → (held_after d e).rejects ≤ 255
few_after (Reject u) d r l = omega arith
few_after (Withdraw u) d r l = omega arith
few_after _ d r l = l

can_hold : (h : List Entry) (p u : ℕ) (e : Event) → is_of u e ≡ true → HasRoom h p e → CanHold e (held_of (part_of h p) u)
can_hold h p u (Reject v) is r = subst (λ w. (held_of (part_of h p) w).rejects < 255) (eqb-true v.0 u is) r
can_hold h p u _ is r = tt

pub few_more : (h : List Entry) (x : Entry) → ((p u : ℕ) → (held_of (part_of h p) u).rejects ≤ 255) → HasRoom h x.pass x.event → (p u : ℕ) → (held_of (part_of (h ++ x ∷ []) p) u).rejects ≤ 255
few_more h x few room p u = dite (ℕ_discrete p x.pass)
    (λ is. subst (λ (d : Held). d.rejects ≤ 255) (sym (ap (λ q. held_of (part_of (h ++ x ∷ []) q) u) is ∙ held_own h x u)) (go (is_of u x.event) refl))
    (λ off. subst (λ (d : Held). d.rejects ≤ 255) (sym (held_other h x u p off)) (few p u))
  where
    go : (b : Bool) → is_of u x.event ≡ b → (cond b (held_after (held_of (part_of h x.pass) u) x.event) (held_of (part_of h x.pass) u)).rejects ≤ 255
    go true is = few_after x.event (held_of (part_of h x.pass) u) (can_hold h x.pass u x.event is room) (few x.pass u)
    go false is = few x.pass u

-- the rows are what each pass owes and holds of each of n URBs after the history
abbrev pub ShowRows : Machine → ℕ → List PassRow → List Entry → Type 0
ShowRows g n rows h = (p u : ℕ) → p < g.passes → u < n → slice_get rows (p * n + u) ≡ Some (row_of (part_of h p) u)

-- the places of m passes with n URBs each
pub place_below : (m n p u : ℕ) → p < m → u < n → p * n + u < m * n
place_below m n p u l k = let a = mul-le-mul_right {m = suc p} {n = m} n (omega arith) in let z : suc p * n ≡ p * n + n = suc-mul p n in omega arith

-- a place is of one pass and one URB
same_place : (n p q u v : ℕ) → u < n → v < n → p * n + u ≡ q * n + v → (p ≡ q) × (u ≡ v)
same_place n p q u v l m e = let same = passes in (same, let f : p * n ≡ q * n = ap (λ k. k * n) same in omega arith)
  where
    less : (a b x y : ℕ) → x < n → a < b → a * n + x ≡ b * n + y → ⊥
    less a b x y k lt i = let w = place_below b n a x lt k in absurd (omega arith)

    passes : p ≡ q
    passes = dite (dec_lt p q) (λ lt. absurd (less p q u v l lt e)) (λ ge. dite (dec_lt q p) (λ lt. absurd (less q p v u m lt (sym e))) (λ le. omega arith))

module _ (h : List Entry) (x : Entry) where
  row_other : (q v : ℕ) → q ≢ x.pass → row_of (part_of (h ++ x ∷ []) q) v ≡ row_of (part_of h q) v
  row_other q v off = ap (λ m. row_of m v) (part_other h x q off)

  owes_same : (v : ℕ) (b : Bool) (e : Event) (a : Answer) → is_of v e ≡ false → owes_after v b e a ≡ b
  owes_same v b (Submit w n) a off = ap (λ t. cond (t && accepted a) true b) off
  owes_same v b (Link w) a off = ap (λ t. cond t false b) off
  owes_same v b _ a off = refl

  row_same : (q v : ℕ) → is_of v x.event ≡ false → row_of (part_of (h ++ x ∷ []) q) v ≡ row_of (part_of h q) v
  row_same q v off = dite (ℕ_discrete q x.pass)
      (λ is. subst (λ k. row_of (part_of (h ++ x ∷ []) k) v ≡ row_of (part_of h k) v) (sym is)
      (let o = owes_own h x v ∙ owes_same v (owes (part_of h x.pass) v) x.event x.answer off in
      let d = held_own h x v ∙ ap (λ b. cond b (held_after (held_of (part_of h x.pass) v) x.event) (held_of (part_of h x.pass) v)) off in λ i. record { owes = o i; held = d i }))
      (λ other. row_other q v other)

  owes_here : (u : ℕ) (b : Bool) (e : Event) (a : Answer) → is_of u e ≡ true → owes_after u b e a ≡ owes_next e a b
  owes_here u b (Submit w n) a is = ap (λ t. cond (t && accepted a) true b) is ∙ go (accepted a) b
    where
      go : (t b : Bool) → cond t true b ≡ (b || t)
      go true true = refl
      go true false = refl
      go false true = refl
      go false false = refl
  owes_here u b (Link w) a is = ap (λ t. cond t false b) is
  owes_here u b _ a is = refl

  row_here : (u : ℕ) → is_of u x.event ≡ true → row_of (part_of (h ++ x ∷ []) x.pass) u ≡ row_after x.event x.answer (row_of (part_of h x.pass) u)
  row_here u is = let o = owes_own h x u ∙ owes_here u (owes (part_of h x.pass) u) x.event x.answer is in
      let d = held_own h x u ∙ ap (λ b. cond b (held_after (held_of (part_of h x.pass) u) x.event) (held_of (part_of h x.pass) u)) is in λ i. record { owes = o i; held = d i }

  -- an event of no URB changes no row
  pub rows_stay : (g : Machine) (n : ℕ) (rows : List PassRow) → ShowRows g n rows h → ((v : ℕ) → is_of v x.event ≡ false) → ShowRows g n rows (h ++ x ∷ [])
  rows_stay g n rows shows off p u l m = shows p u l m ∙ ap Some (sym (row_same p u (off u)))

  -- an event of an URB changes the row of its pass and URB
  pub rows_note : (g : Machine) (n : ℕ) (rows now : List PassRow) → ShowRows g n rows h → x.pass < g.passes → urb_of x.event < n → IsOfUrb x.event → HasRoom h x.pass x.event
      → ((row : PassRow) → slice_get rows (x.pass * n + urb_of x.event) ≡ Some row → CanHold x.event row.held → now ≡ set rows (x.pass * n + urb_of x.event) (row_after x.event x.answer row))
      → ShowRows g n now (h ++ x ∷ [])
  rows_note g n rows now shows lp lu of room note q v lq lv =
      let u = urb_of x.event in let place = x.pass * n + u in let own : is_of u x.event ≡ true = is_of_own x.event of in
      let was = shows x.pass u lp lu in let is = note (row_of (part_of h x.pass) u) was (can_hold h x.pass u x.event own room) in
      let within = slice_get_within rows place _ was in
      subst (λ l. slice_get l (q * n + v) ≡ Some (row_of (part_of (h ++ x ∷ []) q) v)) (sym is)
      (dite (ℕ_discrete (q * n + v) place)
      (λ same. let s = same_place n q x.pass v u lv lu same in
      subst (λ k. slice_get (set rows place (row_after x.event x.answer (row_of (part_of h x.pass) u))) k ≡ Some (row_of (part_of (h ++ x ∷ []) q) v)) (sym same)
      (slice_get-set_same rows place _ within ∙ ap Some (sym (row_here u own)) ∙ ap Some (λ i. row_of (part_of (h ++ x ∷ []) (sym s.0 i)) (sym s.1 i))))
      (λ off. slice_get-set_other rows place (q * n + v) _ off ∙ shows q v lq lv ∙ ap Some (sym (kept off))))
    where
      kept : q * n + v ≢ x.pass * n + urb_of x.event → row_of (part_of (h ++ x ∷ []) q) v ≡ row_of (part_of h q) v
      kept off = dite (ℕ_discrete q x.pass)
          (λ (is : q ≡ x.pass). row_same q v (is_of_other v x.event (λ (same : v ≡ urb_of x.event). off (λ i. is i * n + same i))))
          (λ other. row_other q v other)
