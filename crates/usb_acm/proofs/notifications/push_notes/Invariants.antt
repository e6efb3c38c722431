use Rattle.std.proofs.Common.{◌≡◌, ◌≤◌, ◌-◌, ◌++◌, List, length, drop}
use Rattle.usb_acm.specs.declared.event.Event.{Event}
use Rattle.usb_acm.specs.Notifications.{notes, unfinished}
use Rattle.usb_acm.proofs.notifications.push_notes.Given as goal

-- what was reported comes first, and the rest is what is reported of the bytes after them
abbrev pub invariant-loop-stream : goal.invariant-loop-stream
invariant-loop-stream l = record {
  within : l.at ≤ length l.bytes;
  told : (told : List Event) × (l.events.items ≡ l.fn.events.items ++ told) × (notes l.bytes ≡ told ++ notes (drop l.at l.bytes));
  behind : unfinished l.bytes ≡ unfinished (drop l.at l.bytes);
}

abbrev pub decreases-loop-stream : goal.decreases-loop-stream
decreases-loop-stream l = length l.bytes - l.at
