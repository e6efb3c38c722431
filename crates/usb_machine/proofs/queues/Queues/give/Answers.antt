use Rattle.std.proofs.Common.{◌≡◌, ◌≢◌, ◌<◌, ◌≤◌, ◌++◌, ◌∷◌, ◌+◌, ◌-◌, [], length, ℕ, List, cond, not, eqb, take, drop, get_or, sym, refl, ap, ◌∙◌, arith, append_assoc, append-nil, length-append, length-take, length-drop, drop-cons, add-one, eq-eqb, ne_eqb, Some}
use Rattle.std.specs.Prelude.{slice_get}
use Rattle.std.proofs.lemmas.List.Elements.{filter_more}
use Rattle.std.proofs.lemmas.List.Filters.{length-filter_both}
use Rattle.circular_buffer.specs.Buffer.{Buffer, buffer, keep_last}
use Rattle.usb_machine.specs.declared.queues.Queues.{Queues}
use Rattle.usb_machine.specs.History.{without}
use Rattle.usb_machine.proofs.queues.Queues.give.Goals as goal
use Rattle.usb_machine.proofs.queues.Queues.give.Goals.{in-Some+then-first-urb, in-Some+else-first-urb, in_default}

-- what is left to look at and what stays, when i URBs were looked at
abbrev turned : ℕ → List ℕ → ℕ → List ℕ
turned u all i = drop i all ++ without u (take i all)

module _ (u : ℕ) (all : List ℕ) (i : ℕ) (l : i < length all) where
  split : drop i all ≡ get_or all i 0 ∷ drop (i + 1) all
  split = drop-cons all i 0 l ∙ ap (λ k. get_or all i 0 ∷ drop k all) (sym (add-one i))

module _ (u x : ℕ) (all : List ℕ) (i : ℕ) (l : i < length all) (first : Some x ≡ slice_get (turned u all i) 0) where
  is_first : x ≡ get_or all i 0
  is_first = let e : Some x ≡ Some (get_or all i 0) = first ∙ ap (λ xs. slice_get (xs ++ without u (take i all)) 0) (split u all i l) in cc

  rest : drop 1 (turned u all i) ≡ drop (i + 1) all ++ without u (take i all)
  rest = ap (λ xs. drop 1 (xs ++ without u (take i all))) (split u all i l)

  more : without u (take (i + 1) all) ≡ without u (take i all) ++ cond (not (eqb x u)) (x ∷ []) []
  more = filter_more (λ v. not (eqb v u)) all i 0 l ∙ ap (λ v. without u (take i all) ++ cond (not (eqb v u)) (v ∷ []) []) (sym is_first)

  goes : x ≡ u → drop 1 (turned u all i) ≡ turned u all (i + 1)
  goes e = rest ∙ ap (λ xs. drop (i + 1) all ++ xs) (sym (more ∙ (ap (λ b. without u (take i all) ++ cond (not b) (x ∷ []) []) (eq-eqb x u e) ∙ append-nil _)))

  stays : x ≢ u → drop 1 (turned u all i) ++ x ∷ [] ≡ turned u all (i + 1)
  stays ne = ap (λ xs. xs ++ x ∷ []) rest ∙ (append_assoc (drop (i + 1) all) _ _ ∙ ap (λ xs. drop (i + 1) all ++ xs) (sym (more ∙ ap (λ b. without u (take i all) ++ cond (not b) (x ∷ []) []) (ne_eqb x u ne))))

  short : length (turned u all (i + 1)) ≤ length all
  short = let a = length-filter_both (λ v. not (eqb v u)) (λ v. not (not (eqb v u))) (λ _. refl) (take (i + 1) all) in
      omega (arith, length-append (drop (i + 1) all) (without u (take (i + 1) all)), length-drop (i + 1) all, length-take (i + 1) all)

  kept : (cap : ℕ) → length all ≤ cap → x ≢ u → keep_last cap (drop 1 (turned u all i) ++ x ∷ []) ≡ turned u all (i + 1)
  kept cap most ne = ap (keep_last cap) (stays ne) ∙ ap (λ k. drop k (turned u all (i + 1))) (let s = short in let z : length (turned u all (i + 1)) - cap ≡ 0 = omega arith in z)

pub loop-preserved : goal.loop-preserved
loop-preserved c =
    let all = c.args.self.now.pending.items in let cap = c.args.self.now.pending.capacity in let u = c.args.urb in let i = c.loop.counter in
    let inside : i < length all = omega arith in
    let most : length all ≤ cap = omega arith in
    let line_same : c.loop.self.line ≡ c.args.self.now.line = ap (λ (q : Queues). q.line) c.loop.invariant in
    let items : c.loop.self.pending.items ≡ turned u all i = ap (λ (q : Queues). q.pending.items) c.loop.invariant in
    let room : c.loop.self.pending.capacity ≡ cap = ap (λ (q : Queues). q.pending.capacity) c.loop.invariant in
    let popped : c.pop_front.new.self ≡ buffer (drop 1 (turned u all i)) cap = c.pop_front.ensures.items ∙ (ap (λ xs. buffer (drop 1 xs) c.loop.self.pending.capacity) items ∙ ap (buffer (drop 1 (turned u all i))) room) in
    let at_first : slice_get c.loop.self.pending.items 0 ≡ slice_get (turned u all i) 0 = ap (λ xs. slice_get xs 0) items in
    elim c.match-pop_front.branch [
      | in-Some+then-first-urb w ↦
          (let first : Some w.in-Some.first ≡ slice_get (turned u all i) 0 = sym w.in-Some.is ∙ (c.pop_front.ensures.value ∙ at_first) in
          let pushed : w.push_back.new.self ≡ buffer (turned u all (i + 1)) cap = w.push_back.ensures.items
          ∙ (ap (λ (b : Buffer ℕ). buffer (keep_last b.capacity (b.items ++ w.in-Some.first ∷ [])) b.capacity) popped ∙ ap (λ xs. buffer xs cap) (kept u w.in-Some.first all i inside first cap most w.if-first-urb.true)) in
          w.self-is ∙ (λ j. record { line = line_same j; pending = pushed j }))
      | in-Some+else-first-urb w ↦
          (let first : Some w.in-Some.first ≡ slice_get (turned u all i) 0 = sym w.in-Some.is ∙ (c.pop_front.ensures.value ∙ at_first) in
          let left : c.pop_front.new.self ≡ buffer (turned u all (i + 1)) cap = popped ∙ ap (λ xs. buffer xs cap) (goes u w.in-Some.first all i inside first w.if-first-urb.false) in
          w.self-is ∙ (λ j. record { line = line_same j; pending = left j }))
      | in_default w ↦ absurd (w.in_default.not-Some (get_or all i 0) (c.pop_front.ensures.value ∙ (at_first ∙ ap (λ xs. slice_get (xs ++ without u (take i all)) 0) (split u all i inside))))
    ]
