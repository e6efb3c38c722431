-- What a closed history says of one of its passes.
use Rattle.std.proofs.Common.{ℕ, ◌≡◌, ◌⊎◌, inl, inr, ⊎_elim, Bool, true, false, cond, eqb, List, [], ◌∷◌, refl, sym, ap, ◌∙◌, eqb-true}
use Rattle.std.specs.Prelude.{All, Any, Contains}
use Rattle.std.proofs.lemmas.List.Elements.{All-head, All-tail, All-contains}
use Rattle.usb_machine.specs.declared.entry.Entry.{Entry}
use Rattle.usb_machine.specs.History.{Machine}
use Rattle.usb_machine.specs.Parts.{part_of}
use Rattle.usb_machine.specs.Fresh.{Known, Begins}
use Rattle.usb_machine.specs.Tokens.{IsClosed}

-- one of these passes has this number
abbrev Found : List Known → ℕ → Type 0
Found ps q = (p : Known) × Contains ps p × (p.number ≡ q)

-- of a number that has an entry there is a pass
found_or_none : (ps : List Known) (q : ℕ) (xs : List Entry) → All (λ (x : Entry). Any (λ (p : Known). p.number ≡ x.pass) ps) xs → Found ps q ⊎ (part_of xs q ≡ [])
found_or_none ps q [] made = inr refl
found_or_none ps q (x ∷ xs) made = go (eqb x.pass q) refl (found_or_none ps q xs (All-tail (λ (x : Entry). Any (λ (p : Known). p.number ≡ x.pass) ps) x xs made))
  where
    go : (b : Bool) → eqb x.pass q ≡ b → Found ps q ⊎ (part_of xs q ≡ []) → Found ps q ⊎ (cond b (x ∷ part_of xs q) (part_of xs q) ≡ [])
    go true e rest = let is = All-head (λ (x : Entry). Any (λ (p : Known). p.number ≡ x.pass) ps) x xs made in inl (is.1, (is.0, is.2, is.3), is.4 ∙ eqb-true x.pass q e)
    go false e rest = rest

module _ (g : Machine) (h : List Entry) (ps : List Known) (closed : IsClosed g h ps) where
  pub closed_begins : (p : Known) → Contains ps p → Begins h p.seen
  closed_begins p in_ps = All-contains (λ (p : Known). Begins h p.seen) ps p closed.begins in_ps

  pub closed_own : (p : Known) → Contains ps p → part_of h p.number ≡ p.mine
  closed_own p in_ps = All-contains (λ (p : Known). part_of h p.number ≡ p.mine) ps p closed.own in_ps

  -- where the passes with a number made nothing, there is no entry of it
  pub closed_none : (q : ℕ) → ((p : Known) → Contains ps p → p.number ≡ q → p.mine ≡ []) → part_of h q ≡ []
  closed_none q none = ⊎_elim
      (λ (f : Found ps q). ap (part_of h) (sym f.2) ∙ (closed_own f.0 f.1 ∙ none f.0 f.1 f.2))
      (λ (e : part_of h q ≡ []). e)
      (found_or_none ps q h closed.made)
