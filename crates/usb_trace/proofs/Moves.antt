-- However a transfer is moved, what it asks for stays.
use Rattle.std.proofs.Common.{ℕ, ◌≡◌, List, refl}
use Rattle.usb_machine.specs.declared.layout.Shape.{Shape}
use Rattle.usb_machine.specs.declared.transfer.Transfer.{Transfer}
use Rattle.usb_xfer.specs.Direction.{Direction, In, Out, ControlIn, ControlOut, direction_of}
use Rattle.usb_xfer.specs.Replies.{Reply}
use Rattle.usb_xfer.specs.Moved.{moved, moved_by}

-- two transfers ask for the same: as many bytes at the same place, by the same setup packet
pub record AsksSame (t r : Transfer) : Type 0 where
  pub setup : r.setup ≡ t.setup
  pub from : r.from ≡ t.from
  pub len : r.len ≡ t.len
  pub short : r.short_not_ok ≡ t.short_not_ok
  pub number : r.number ≡ t.number

moved_same_by : (d : Direction) (max : ℕ) (t : Transfer) (replies : List Reply) → AsksSame t (moved_by d max t replies)
moved_same_by In max t replies = record { setup = refl; from = refl; len = refl; short = refl; number = refl }
moved_same_by Out max t replies = record { setup = refl; from = refl; len = refl; short = refl; number = refl }
moved_same_by ControlIn max t replies = record { setup = refl; from = refl; len = refl; short = refl; number = refl }
moved_same_by ControlOut max t replies = record { setup = refl; from = refl; len = refl; short = refl; number = refl }

pub moved_same : (shape : Shape) (t : Transfer) (replies : List Reply) → AsksSame t (moved shape t replies)
moved_same shape t replies = moved_same_by (direction_of shape t) shape.max t replies
