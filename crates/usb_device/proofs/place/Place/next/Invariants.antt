use Rattle.std.proofs.Common.{◌≡◌, ◌≤◌, ℕ, ◌+◌, length}
use Rattle.usb_xfer.specs.Replies.{Reply}
use Rattle.usb_device.specs.Places.{left_of, coming}
use Rattle.usb_device.specs.Left.{place_left}
use Rattle.usb_device.proofs.place.Place.next.Given as goal

abbrev pub invariant-loop-self : goal.invariant-loop-self
invariant-loop-self l = record {
  on : (last : Reply) (k : ℕ) → coming last l.self l.address k ≡ coming last l.fn.self l.address k;
  left : place_left l.self ≤ place_left l.fn.self;
}

abbrev pub decreases-loop-self : goal.decreases-loop-self
decreases-loop-self l = length (left_of l.self l.address) + length l.self.lines.now
