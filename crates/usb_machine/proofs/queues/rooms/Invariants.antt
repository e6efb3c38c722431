use Rattle.std.proofs.Common.{◌≡◌, ℕ, ◌<◌, length, get_or, None}
use Rattle.usb_machine.specs.Laws.{total, bit}
use Rattle.usb_machine.specs.Queues.{is_at}
use Rattle.usb_machine.proofs.queues.rooms.Given as goal

abbrev pub invariant-loop-home : goal.invariant-loop-home
invariant-loop-home l = record {
  ends : length l.rooms.items ≡ l.ends;
  rooms : (e : ℕ) → e < l.ends → get_or l.rooms.items e 0 ≡ total l.home-index (λ u. bit (is_at e (get_or l.homes u None)));
}
