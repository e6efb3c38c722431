-- A pass that holds no reject, and has claimed nothing.
use Rattle.std.specs.Prelude.{ℕ, ◌≡◌, []}
use Rattle.usb_machine.specs.Parts.{held_of}
use Rattle.usb_machine.specs.Fresh.{Known}
use Rattle.usb_trace.specs.Claims.{claimed_by}

pub record IsCalm (p : Known) : Type 0 where
  pub holds : (u : ℕ) → (held_of p.mine u).rejects ≡ 0
  pub claims : claimed_by p.number p.seen ≡ []
