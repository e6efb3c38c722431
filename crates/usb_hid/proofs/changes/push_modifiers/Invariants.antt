use Rattle.std.proofs.Common.{◌≡◌, ◌++◌}
use Rattle.usb_hid.proofs.Modifiers.{changes_below}
use Rattle.usb_hid.proofs.changes.push_modifiers.Given as goal

-- the bits below n are reported
abbrev pub invariant-loop-n : goal.invariant-loop-n
invariant-loop-n l = l.events.items ≡ l.fn.events.items ++ changes_below l.n l.old l.new
