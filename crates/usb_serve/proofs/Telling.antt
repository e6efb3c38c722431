-- Which URB was given back.
use Rattle.std.proofs.Common.{ℕ, ◌≡◌, ap}
use Rattle.usb_types.specs.declared.urb.UrbId.{UrbId}
use Rattle.usb_machine.specs.Tokens.{Told}
use Rattle.usb_serve.specs.Handlers.{told_urb}

pub is_told : (u : UrbId) (t : Told) → u.0 ≡ t.urb → u ≡ told_urb t
is_told u t is = let f : ℕ → UrbId = λ n. record { 0 = n } in ap f is
