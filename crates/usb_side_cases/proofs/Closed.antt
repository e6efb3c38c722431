-- What the history of a closed race has of its passes.
use Rattle.std.proofs.Common.{◌≡◌, ℕ, ◌<◌, true, List, [], ◌∷◌, sym, ap, ◌∙◌, subst, arith}
use Rattle.usb_machine.specs.declared.entry.Entry.{Entry}
use Rattle.usb_machine.specs.History.{Machine, state_of}
use Rattle.usb_machine.specs.Parts.{part_of, keeps}
use Rattle.usb_machine.specs.Legal.{IsLegal}
use Rattle.usb_machine.specs.Laws.{submits, gives, ends, bit, TakesTurns, IsKept}
use Rattle.usb_machine.specs.Fresh.{Known}
use Rattle.usb_machine.specs.Tokens.{AreAll, unused}
use Rattle.usb_machine.proofs.Turns.{takes_turns}
use Rattle.usb_machine.proofs.Kept.{is_kept}
use Rattle.usb_host_cases.proofs.Ends.{four_numbers, part_is}
use Rattle.usb_side_cases.specs.Rounds.{Made}

-- the number of a pass that was new
pub number_of_new : (These : ℕ → List Entry → Type 0) (a p : Known) (n : ℕ) → a ≡ unused n → Made (These a.number) a p → p.number ≡ n
number_of_new These a p n new made = made.2.number ∙ ap (λ (k : Known). k.number) new

-- what a new pass made is its part of the whole
pub part_made : (These : ℕ → List Entry → Type 0) (h : List Entry) (a p : Known) (n : ℕ) → a ≡ unused n → Made (These a.number) a p → part_of h p.number ≡ p.mine → These n (part_of h n)
part_made These h a p n new made own =
    let is : part_of h n ≡ made.0 = part_is h a p n (λ _. made.0) new made.2 own in
    subst (λ l. These n l) (sym is) (subst (λ (k : Known). These k.number made.0) new made.1)

pub all_raced : (g : Machine) (s h a b : Known) → g.passes ≡ 4 → s.number ≡ 0 → h ≡ unused 1 → a.number ≡ 2 → b.number ≡ 3 → AreAll g (s ∷ h ∷ a ∷ b ∷ [])
all_raced g s h a b four ss hh aa bb k below = four_numbers s h a b ss (ap (λ (y : Known). y.number) hh) aa bb k (subst (λ n. k < n) four below)

-- an URB that a pass keeps came back as often as it was accepted, and each of its handlers has ended
module _ (g : Machine) (u p : ℕ) (h : List Entry) (legal : IsLegal g h) (below : p < g.passes) (kept : keeps (part_of h p) u ≡ true) where
  pub stays : IsKept h p u
  stays = is_kept g p u h legal below kept

  pub all_back : (gives h u ≡ submits h u) × (ends h u ≡ submits h u)
  all_back =
      let turns : TakesTurns h u = takes_turns g u h legal in
      let none : bit (state_of h u).queued ≡ 0 = ap bit stays.queued in
      (omega (arith, turns.turns, none), omega (arith, turns.turns, turns.handlers, none, stays.handlers))

-- the URB that a pass keeps by its own entries
pub own_kept : (h : List Entry) (q : Known) (u n : ℕ) → q.number ≡ n → part_of h q.number ≡ q.mine → keeps q.mine u ≡ true → keeps (part_of h n) u ≡ true
own_kept h q u n number own kept = ap (λ k. keeps (part_of h k) u) (sym number) ∙ (ap (λ m. keeps m u) own ∙ kept)
