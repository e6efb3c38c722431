use Rattle.std.proofs.Common.{◌≡◌, ◌++◌, take}
use Rattle.std.specs.List.{flat_map}
use Rattle.usb_desc.specs.Spell.{end_bytes}
use Rattle.usb_desc.proofs.write.put_ends.Given as goal

abbrev pub invariant-loop-end : goal.invariant-loop-end
invariant-loop-end l = l.bytes ≡ l.initial.bytes ++ flat_map end_bytes (take l.end-index l.ends)
