-- A queued URB has a home, so an endpoint's lists are no longer than it is the home of URBs.
use Rattle.std.proofs.Common.{◌≡◌, ◌≢◌, ℕ, ◌+◌, zero, suc, ◌<◌, ◌≤◌, Bool, true, false, cond, eqb, List, [], ◌∷◌, length, get_or, sym, refl, ap, ◌∙◌, subst, arith, eq-eqb, ne_eqb, eqb-true, true≢false, Option, Some, None}
use Rattle.std.proofs.Math.ListN.{get_or-eq_default}
use native.Mathlib.Decide.{dec_lt, ℕ_discrete}
use mathlib.Core.Logic.{dite}
use Rattle.usb_machine.specs.declared.event.Event.{Event}
use Rattle.usb_machine.specs.declared.event.Event.TheVariants.{Submit, Mark, Finish, Give}
use Rattle.usb_machine.specs.declared.event.Answer.{Answer}
use Rattle.usb_machine.specs.declared.entry.Entry.{Entry}
use Rattle.usb_machine.specs.declared.state.UrbState.{UrbState}
use Rattle.usb_machine.specs.State.{after, unlinks, finishes}
use Rattle.usb_machine.specs.History.{Machine, state_of, is_of, or_zero, home_of, HasHome, line_of, pending_of}
use Rattle.usb_machine.specs.Parts.{part_of, owes}
use Rattle.usb_machine.specs.Legal.{times, May, IsLegal, empty, longer}
use Rattle.usb_machine.specs.Queues.{is_at, homed_at}
use Rattle.usb_machine.proofs.Steps.{state_of-snoc}
use Rattle.usb_machine.proofs.Totals.{total, total_one, total_less, total_least, part_of_total}
use Rattle.usb_machine.proofs.Places.{Placed, placed, bit}

same_queue : (b : Bool) (s now : UrbState) → now.queued ≡ s.queued → (cond b now s).queued ≡ true → s.queued ≡ true
same_queue true s now e q = sym e ∙ q
same_queue false s now e q = q

-- who is queued after an event was before, or has a home
queued_before : (g : Machine) (h : List Entry) (p : ℕ) (u : ℕ) (e : Event) (a : Answer) (s : UrbState) → is_of u e ≡ true → May g h p e → (s.queued ≡ true → HasHome g u) → (after e a s).queued ≡ true → HasHome g u
queued_before g h p u (Submit v n) a s is m old q = subst (HasHome g) (eqb-true v.0 u is) m
queued_before g h p u (Mark v w) a s is m old q = old (same_queue (unlinks a) s _ refl q)
queued_before g h p u (Finish v c) a s is m old q = old (same_queue (finishes a) s _ refl q)
queued_before g h p u (Give v) a s is m old q = absurd (true≢false (sym q))
queued_before g h p u _ a s is m old q = old q

pub queued_has_home : (g : Machine) (u : ℕ) (h : List Entry) → IsLegal g h → (state_of h u).queued ≡ true → HasHome g u
queued_has_home g u _ empty q = absurd (true≢false (sym q))
queued_has_home g u _ (longer h x legal f) q = go (is_of u x.event) refl (queued_has_home g u h legal) (sym (ap (λ (s : UrbState). s.queued) (state_of-snoc h x u)) ∙ q)
  where
    go : (b : Bool) → is_of u x.event ≡ b → ((state_of h u).queued ≡ true → HasHome g u) → (cond b (after x.event x.answer (state_of h u)) (state_of h u)).queued ≡ true → HasHome g u
    go true e old q = queued_before g h x.pass u x.event x.answer (state_of h u) e f.may old q
    go false e old q = old q

pub home_below : (g : Machine) (u : ℕ) → HasHome g u → u < length g.layout.homes
home_below g u k = go g.layout.homes u k.1
  where
    go : (xs : List (Option ℕ)) (i : ℕ) → get_or xs i None ≡ Some k.0 → i < length xs
    go [] i e = absurd (cc (e))
    go (x ∷ xs) zero e = omega arith
    go (x ∷ xs) (suc i) e = let l = go xs i e in omega arith

-- a list of numbers below n is as long as its numbers stand in it
pub length_total : (n : ℕ) (xs : List ℕ) → ((v : ℕ) → n ≤ v → times v xs ≡ 0) → total n (λ v. times v xs) ≡ length xs
length_total n [] far = none n
  where
    none : (k : ℕ) → total k (λ _. 0) ≡ 0
    none zero = refl
    none (suc k) = let a = none k in omega arith
length_total n (x ∷ xs) far =
    let a = length_total n xs (λ v l. let z = far v l in omega arith) in let here = ap bit (eq-eqb x x refl) in
    let low : x < n = dite (dec_lt x n) (λ l. l) (λ off. let z = far x (omega arith) in absurd (omega arith)) in
    let sums = total_one n x (λ v. times v xs) (λ v. times v (x ∷ xs)) low (λ v ne. let b = ap bit (ne_eqb x v (λ i. ne (sym i))) in omega arith) in omega arith

bit_most : (b : Bool) → bit b ≤ 1
bit_most true = omega arith
bit_most false = omega arith

-- where an URB stands in a line, it is queued and this is its home
pub in_line_once : (g : Machine) (h : List Entry) (e v : ℕ) → Placed g h v → times v (line_of g h e) ≤ bit (state_of h v).queued
in_line_once g h e v pl = let o = pl.once in dite (ℕ_discrete e (home_of g v)) (λ is. let a : times v (line_of g h e) ≡ times v (line_of g h (home_of g v)) = ap (λ d. times v (line_of g h d)) is in omega arith) (λ off. let z = pl.line_else e off in omega arith)

pub line_short : (g : Machine) (h : List Entry) (e : ℕ) → IsLegal g h → length (line_of g h e) ≤ length g.layout.homes
line_short g h e legal =
    let most : (v : ℕ) → times v (line_of g h e) ≤ bit (state_of h v).queued = λ v. in_line_once g h e v (placed g v h legal) in
    let far : (v : ℕ) → length g.layout.homes ≤ v → times v (line_of g h e) ≡ 0 = λ v l. go v l (state_of h v).queued refl (most v) in
    let a = length_total (length g.layout.homes) (line_of g h e) far in
    let b = total_least (length g.layout.homes) (λ v. times v (line_of g h e)) (λ v. let m = most v in let c = bit_most (state_of h v).queued in omega arith) in omega arith
  where
    go : (v : ℕ) → length g.layout.homes ≤ v → (b : Bool) → (state_of h v).queued ≡ b → times v (line_of g h e) ≤ bit (state_of h v).queued → times v (line_of g h e) ≡ 0
    go v l true q m = let k = home_below g v (queued_has_home g v h legal q) in absurd (omega arith)
    go v l false q m = let z = ap bit q in omega arith

in_pending_once : (g : Machine) (h : List Entry) (e v : ℕ) → Placed g h v → times v (pending_of g h e) ≤ bit (state_of h v).queued
in_pending_once g h e v pl = let o = pl.once in dite (ℕ_discrete e (home_of g v))
    (λ is. let a : times v (pending_of g h e) ≡ times v (pending_of g h (home_of g v)) = ap (λ d. times v (pending_of g h d)) is in omega arith) (λ off. let z = pl.pending_else e off in omega arith)

-- who is owed a Link, or is pending, is queued
pub owed_is_queued : (g : Machine) (h : List Entry) (p u : ℕ) → IsLegal g h → p < g.passes → owes (part_of h p) u ≡ true → (state_of h u).queued ≡ true
owed_is_queued g h p u legal l owed = go (state_of h u).queued refl
  where
    go : (b : Bool) → (state_of h u).queued ≡ b → (state_of h u).queued ≡ true
    go true q = q
    go false q = let o = (placed g u h legal).once in let z = ap bit q in let some = part_of_total g.passes p (λ k. bit (owes (part_of h k) u)) l in let one = ap bit owed in absurd (omega arith)

pub pending_is_queued : (g : Machine) (h : List Entry) (u : ℕ) → IsLegal g h → 0 < times u (pending_of g h (home_of g u)) → (state_of h u).queued ≡ true
pending_is_queued g h u legal l = go (state_of h u).queued refl
  where
    go : (b : Bool) → (state_of h u).queued ≡ b → (state_of h u).queued ≡ true
    go true q = q
    go false q = let o = (placed g u h legal).once in let z = ap bit q in absurd (omega arith)

-- whether the endpoint is the home of URB v
abbrev pub homed : Machine → ℕ → ℕ → Bool
homed g e v = is_at e (get_or g.layout.homes v None)

module _ (g : Machine) (h : List Entry) (e : ℕ) (legal : IsLegal g h) where
  -- who stands in a list of an endpoint has it as its home
  at_home : (v k : ℕ) → k ≤ bit (state_of h v).queued → (e ≢ home_of g v → k ≡ 0) → k ≤ bit (homed g e v)
  at_home v k most other = go (state_of h v).queued refl
    where
      go : (b : Bool) → (state_of h v).queued ≡ b → k ≤ bit (homed g e v)
      go false q = let z = ap bit q in omega arith
      go true q = let home = queued_has_home g v h legal q in dite (ℕ_discrete e (home_of g v))
          (λ is. let here : homed g e v ≡ true = ap (is_at e) home.1 ∙ eq-eqb home.0 e (sym (is ∙ ap or_zero home.1)) in let b = ap bit here in let c = bit_most (state_of h v).queued in omega arith)
          (λ off. let z = other off in omega arith)

  line_at_home : (v : ℕ) → times v (line_of g h e) ≤ bit (homed g e v)
  line_at_home v = let pl = placed g v h legal in at_home v _ (in_line_once g h e v pl) (pl.line_else e)

  pending_at_home : (v : ℕ) → times v (pending_of g h e) ≤ bit (homed g e v)
  pending_at_home v = let pl = placed g v h legal in at_home v _ (in_pending_once g h e v pl) (pl.pending_else e)

  none_past : (v : ℕ) → length g.layout.homes ≤ v → bit (homed g e v) ≡ 0
  none_past v l = ap (λ o. bit (is_at e o)) (get_or-eq_default g.layout.homes None l)

  -- a list that holds none but URBs at home here, each once, and not v, has room for v
  has_room : (us : List ℕ) (v : ℕ) → ((w : ℕ) → times w us ≤ bit (homed g e w)) → times v us ≡ 0 → homed g e v ≡ true → length us < homed_at g.layout.homes e
  has_room us v each none here =
      let n = length g.layout.homes in let one = ap bit here in
      let low : v < n = dite (dec_lt v n) (λ l. l) (λ off. let z = none_past v (omega arith) in absurd (omega arith)) in
      let all = length_total n us (λ w l. let a = each w in let z = none_past w l in omega arith) in
      let less = total_less n v (λ w. bit (homed g e w)) (λ w. times w us) each low (omega arith) in omega arith

  is_homed : (v : ℕ) → get_or g.layout.homes v None ≡ Some e → homed g e v ≡ true
  is_homed v is = ap (is_at e) is ∙ eq-eqb e e refl

  home_is : (v : ℕ) → get_or g.layout.homes v None ≡ Some e → e ≡ home_of g v
  home_is v is = sym (ap or_zero is)

  -- the line of an URB's home has room for it while its Link is owed
  pub line_has_room : (p v : ℕ) → p < g.passes → owes (part_of h p) v ≡ true → get_or g.layout.homes v None ≡ Some e → length (line_of g h e) < homed_at g.layout.homes e
  line_has_room p v l owed is =
      let o = (placed g v h legal).once in let some = part_of_total g.passes p (λ q. bit (owes (part_of h q) v)) l in let one = ap bit owed in let most = bit_most (state_of h v).queued in
      let same : times v (line_of g h e) ≡ times v (line_of g h (home_of g v)) = ap (λ d. times v (line_of g h d)) (home_is v is) in
      has_room (line_of g h e) v line_at_home (omega arith) (is_homed v is)

  -- the pending list of an endpoint has room while its line is not empty
  pub pending_has_room : (0 < length (line_of g h e)) → length (pending_of g h e) < homed_at g.layout.homes e
  pending_has_room some = go (line_of g h e) refl some
    where
      go : (us : List ℕ) → line_of g h e ≡ us → 0 < length us → length (pending_of g h e) < homed_at g.layout.homes e
      go [] is l = absurd (omega arith)
      go (v ∷ us) is l =
          let one : times v (line_of g h e) ≡ bit (eqb v v) + times v us = ap (times v) is in let here = ap bit (eq-eqb v v refl) in
          let at = line_at_home v in let most = bit_most (homed g e v) in
          let home : homed g e v ≡ true = is_true (homed g e v) (omega arith) in
          let o = (placed g v h legal).once in let q = bit_most (state_of h v).queued in
          let none : times v (pending_of g h e) ≡ 0 = dite (ℕ_discrete e (home_of g v))
          (λ i. let a : times v (line_of g h e) ≡ times v (line_of g h (home_of g v)) = ap (λ d. times v (line_of g h d)) i in let b : times v (pending_of g h e) ≡ times v (pending_of g h (home_of g v)) = ap (λ d. times v (pending_of g h d)) i in omega arith)
          (λ off. (placed g v h legal).pending_else e off) in
          has_room (pending_of g h e) v pending_at_home none home
        where
          is_true : (b : Bool) → 0 < bit b → b ≡ true
          is_true true l = refl
          is_true false l = absurd (omega arith)
