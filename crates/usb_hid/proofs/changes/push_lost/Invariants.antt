use Rattle.std.proofs.Common.{◌≡◌, ◌++◌, take, map}
use Rattle.usb_hid.specs.Changes.{turned as turned_of, keys_lost}
use Rattle.usb_hid.proofs.changes.push_lost.Given as goal

-- what the codes so far lost is reported
abbrev pub invariant-loop-i : goal.invariant-loop-i
invariant-loop-i l = l.events.items ≡ l.fn.events.items ++ map (turned_of l.down) (keys_lost (take l.i l.codes) l.others)
