-- Where an URB's home stands in a layout.
use Rattle.std.proofs.Common.{◌≡◌, ℕ, zero, suc, ◌<◌, List, [], ◌∷◌, Option, Some, None, length, slice_get, get_or, sym, ap, ◌∙◌, arith}
use Rattle.std.proofs.lemmas.Option.{slice_get-get_or}
use Rattle.std.proofs.Common.{subst}
use Rattle.usb_machine.specs.declared.layout.Shape.{Shape}
use Rattle.usb_machine.specs.declared.layout.EndKind.TheVariants.{Bulk}
use Rattle.usb_machine.specs.declared.transfer.Transfer.{Transfer}
use Rattle.usb_machine.specs.History.{or_zero}
use Rattle.usb_machine.specs.Shapes.{Accepts}
use Rattle.usb_machine.specs.HostCalls.{fault_at}

no_shape : Shape
no_shape = record { device = 0; address = 0; kind = Bulk; max = 0; interval = 0 }

pub within : (xs : List (Option ℕ)) (u e : ℕ) → get_or xs u None ≡ Some e → u < length xs
within [] u e is = absurd (cc)
within (x ∷ xs) zero e is = omega arith
within (x ∷ xs) (suc u) e is = let h = within xs u e is in omega arith

pub home_at : (xs : List (Option ℕ)) (u e : ℕ) → get_or xs u None ≡ Some e → slice_get xs u ≡ Some (Some e)
home_at xs u e is = slice_get-get_or xs u None (within xs u e is) ∙ ap Some is

-- the home's shape is there, and takes what it finds no fault with
pub takes : (homes : List (Option ℕ)) (shapes : List Shape) (u : ℕ) (t : Transfer) → (e : ℕ) → get_or homes u None ≡ Some e → ((v d : ℕ) → slice_get homes v ≡ Some (Some d) → d < length shapes)
    → fault_at (slice_get shapes (or_zero (get_or homes u None))) t ≡ None → Accepts (slice_get shapes (or_zero (get_or homes u None))) t
takes homes shapes u t e is homed none =
    let shape : slice_get shapes (or_zero (get_or homes u None)) ≡ Some (get_or shapes e no_shape) = ap (λ o. slice_get shapes (or_zero o)) is ∙ slice_get-get_or shapes e no_shape (homed u e (home_at homes u e is)) in
    subst (λ o. Accepts o t) (sym shape) (sym (ap (λ o. fault_at o t) shape) ∙ none)
