use Rattle.std.proofs.Common.{◌≡◌, ◌++◌, take}
use Rattle.std.specs.List.{flat_map}
use Rattle.usb_text.specs.Print.{hex_pair}
use Rattle.usb_text.proofs.print.push_pairs.Given as goal

abbrev pub invariant-loop-b : goal.invariant-loop-b
invariant-loop-b l = l.text ≡ l.initial.text ++ flat_map hex_pair (take l.b-index l.bytes)
