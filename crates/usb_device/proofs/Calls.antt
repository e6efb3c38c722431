-- One call more.
use Rattle.std.proofs.Common.{ℕ, suc, ◌≡◌, ◌+◌, Bool, true, false, cond, not, eqb, List, [], ◌∷◌, ◌++◌, length, map, filter, refl, sym, ap, ◌∙◌, arith, append-nil, append_assoc, length-append, eq-eqb, ne_eqb}
use Rattle.std.specs.Prelude.{◌&&◌}
use Rattle.std.proofs.lemmas.List.{map-append}
use Rattle.std.proofs.lemmas.List.Elements.{filter-append}
use Rattle.usb_xfer.specs.Replies.{Question, acked_by}
use Rattle.usb_xfer.specs.declared.script.DeviceScript.{DeviceScript}
use Rattle.usb_device.specs.declared.state.DeviceState.{DeviceState}
use Rattle.usb_device.specs.Rules.{first_state, is_halted}
use Rattle.usb_device.specs.Device.{Call, questions_at, at_00, state_from, state_after, unhalted, used_at, reply_to, acked_after, acked_at}

-- what one call asks at an address
one_at : (a : ℕ) (calls : List Call) (c : Call) → questions_at a (calls ++ c ∷ []) ≡ questions_at a calls ++ map (λ (d : Call). d.question) (cond (eqb c.address a) (c ∷ []) [])
one_at a calls c =
    ap (map (λ (d : Call). d.question)) (filter-append (λ (d : Call). eqb d.address a) calls (c ∷ []))
    ∙ map-append (λ (d : Call). d.question) (filter (λ (d : Call). eqb d.address a) calls) (filter (λ (d : Call). eqb d.address a) (c ∷ []))

-- a call is the last at its address
pub questions-snoc_here : (a : ℕ) (calls : List Call) (c : Call) → c.address ≡ a → questions_at a (calls ++ c ∷ []) ≡ questions_at a calls ++ c.question ∷ []
questions-snoc_here a calls c e = one_at a calls c ∙ ap (λ b. questions_at a calls ++ map (λ (d : Call). d.question) (cond b (c ∷ []) [])) (eq-eqb c.address a e)

-- and none at another
pub questions-snoc_elsewhere : (a : ℕ) (calls : List Call) (c : Call) → (c.address ≡ a → ⊥) → questions_at a (calls ++ c ∷ []) ≡ questions_at a calls
questions-snoc_elsewhere a calls c off =
    one_at a calls c ∙ (ap (λ b. questions_at a calls ++ map (λ (d : Call). d.question) (cond b (c ∷ []) [])) (ne_eqb c.address a off) ∙ append-nil (questions_at a calls))

pub count-snoc_here : (a : ℕ) (calls : List Call) (c : Call) → c.address ≡ a → length (questions_at a (calls ++ c ∷ [])) ≡ length (questions_at a calls) + 1
count-snoc_here a calls c e = ap length (questions-snoc_here a calls c e) ∙ length-append (questions_at a calls) (c.question ∷ [])

module _ (script : DeviceScript) where
  state_from-snoc : (state : DeviceState) (n : ℕ) (asked : List Question) (q : Question) → state_from script state n (asked ++ q ∷ []) ≡ (at_00 script (state_from script state n asked) (n + length asked) q).state
  state_from-snoc state n [] q = let none : n ≡ n + 0 = omega arith in ap (λ k. (at_00 script state k q).state) none
  state_from-snoc state n (r ∷ asked) q = let more : n + 1 + length asked ≡ n + suc (length asked) = omega arith in
      state_from-snoc (at_00 script state n r).state (n + 1) asked q
      ∙ ap (λ k. (at_00 script (state_from script (at_00 script state n r).state (n + 1) asked) k q).state) more

  -- a call at 00 leaves the state of its rule
  pub state-snoc_00 : (calls : List Call) (c : Call) → c.address ≡ 0 → state_after script (calls ++ c ∷ []) ≡ (at_00 script (state_after script calls) (length (questions_at 0 calls)) c.question).state
  state-snoc_00 calls c e = let none : 0 + length (questions_at 0 calls) ≡ length (questions_at 0 calls) = omega arith in
      ap (state_from script first_state 0) (questions-snoc_here 0 calls c e)
      ∙ (state_from-snoc first_state 0 (questions_at 0 calls) c.question ∙ ap (λ k. (at_00 script (state_after script calls) k c.question).state) none)

  -- and one elsewhere leaves it as it was
  pub state-snoc_elsewhere : (calls : List Call) (c : Call) → (c.address ≡ 0 → ⊥) → state_after script (calls ++ c ∷ []) ≡ state_after script calls
  state-snoc_elsewhere calls c off = ap (state_from script first_state 0) (questions-snoc_elsewhere 0 calls c off)

  unhalted-append : (a : ℕ) (before xs ys : List Call) → unhalted script a before (xs ++ ys) ≡ unhalted script a before xs + unhalted script a (before ++ xs) ys
  unhalted-append a before [] ys = let none : 0 + unhalted script a (before ++ []) ys ≡ unhalted script a (before ++ []) ys = omega arith in
      sym (none ∙ ap (λ l. unhalted script a l ys) (append-nil before))
  unhalted-append a before (c ∷ xs) ys =
      let one : ℕ = cond (eqb c.address a && not (is_halted (state_after script before) a)) 1 0 in
      let more = unhalted-append a (before ++ c ∷ []) xs ys ∙ ap (λ l. unhalted script a (before ++ c ∷ []) xs + unhalted script a l ys) (append_assoc before (c ∷ []) xs) in
      let sum : one + (unhalted script a (before ++ c ∷ []) xs + unhalted script a (before ++ c ∷ xs) ys) ≡ one + unhalted script a (before ++ c ∷ []) xs + unhalted script a (before ++ c ∷ xs) ys = omega arith in
      ap (λ k. one + k) more ∙ sum

  pub used-snoc : (a : ℕ) (calls : List Call) (c : Call) → used_at script (calls ++ c ∷ []) a ≡ used_at script calls a + cond (eqb c.address a && not (is_halted (state_after script calls) a)) 1 0
  used-snoc a calls c =
      let one : ℕ = cond (eqb c.address a && not (is_halted (state_after script calls) a)) 1 0 in
      let sum : used_at script calls a + (one + 0) ≡ used_at script calls a + one = omega arith in
      unhalted-append a [] calls (c ∷ []) ∙ sum

  -- a call elsewhere uses no item
  pub used-snoc_elsewhere : (a : ℕ) (calls : List Call) (c : Call) → (c.address ≡ a → ⊥) → used_at script (calls ++ c ∷ []) a ≡ used_at script calls a
  used-snoc_elsewhere a calls c off =
      let none : used_at script calls a + 0 ≡ used_at script calls a = omega arith in
      used-snoc a calls c ∙ (ap (λ b. used_at script calls a + cond (b && not (is_halted (state_after script calls) a)) 1 0) (ne_eqb c.address a off) ∙ none)

  -- nor does one at a halt
  pub used-snoc_halted : (a : ℕ) (calls : List Call) (c : Call) → is_halted (state_after script calls) a ≡ true → used_at script (calls ++ c ∷ []) a ≡ used_at script calls a
  used-snoc_halted a calls c halted =
      let none : used_at script calls a + 0 ≡ used_at script calls a = omega arith in
      used-snoc a calls c ∙ (ap (λ b. used_at script calls a + cond (eqb c.address a && not b) 1 0) halted
      ∙ (ap (λ b. used_at script calls a + cond b 1 0) (never (eqb c.address a)) ∙ none))
    where
      never : (b : Bool) → (b && false) ≡ false
      never true = refl
      never false = refl

  -- any other at the address does
  pub used-snoc_here : (a : ℕ) (calls : List Call) (c : Call) → c.address ≡ a → is_halted (state_after script calls) a ≡ false → used_at script (calls ++ c ∷ []) a ≡ used_at script calls a + 1
  used-snoc_here a calls c e going =
      used-snoc a calls c ∙ ((λ i. used_at script calls a + cond (eq-eqb c.address a e i && not (is_halted (state_after script calls) a)) 1 0)
      ∙ ap (λ b. used_at script calls a + cond (not b) 1 0) going)

  acked-append : (a : ℕ) (before xs ys : List Call) → acked_after script a before (xs ++ ys) ≡ acked_after script a before xs ++ acked_after script a (before ++ xs) ys
  acked-append a before [] ys = sym (ap (λ l. acked_after script a l ys) (append-nil before))
  acked-append a before (c ∷ xs) ys =
      let one : List ℕ = cond (eqb c.address a) (acked_by c.question (reply_to script before c)) [] in
      let more = acked-append a (before ++ c ∷ []) xs ys ∙ ap (λ l. acked_after script a (before ++ c ∷ []) xs ++ acked_after script a l ys) (append_assoc before (c ∷ []) xs) in
      ap (λ l. one ++ l) more ∙ sym (append_assoc one (acked_after script a (before ++ c ∷ []) xs) (acked_after script a (before ++ c ∷ xs) ys))

  pub acked-snoc_here : (a : ℕ) (calls : List Call) (c : Call) → c.address ≡ a → acked_at script (calls ++ c ∷ []) a ≡ acked_at script calls a ++ acked_by c.question (reply_to script calls c)
  acked-snoc_here a calls c e =
      acked-append a [] calls (c ∷ []) ∙ (ap (λ b. acked_at script calls a ++ (cond b (acked_by c.question (reply_to script calls c)) [] ++ [])) (eq-eqb c.address a e)
      ∙ ap (λ l. acked_at script calls a ++ l) (append-nil (acked_by c.question (reply_to script calls c))))

  pub acked-snoc_elsewhere : (a : ℕ) (calls : List Call) (c : Call) → (c.address ≡ a → ⊥) → acked_at script (calls ++ c ∷ []) a ≡ acked_at script calls a
  acked-snoc_elsewhere a calls c off =
      acked-append a [] calls (c ∷ []) ∙ (ap (λ b. acked_at script calls a ++ (cond b (acked_by c.question (reply_to script calls c)) [] ++ [])) (ne_eqb c.address a off) ∙ append-nil (acked_at script calls a))
