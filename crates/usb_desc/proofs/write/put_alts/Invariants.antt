use Rattle.std.proofs.Common.{◌≡◌, ◌++◌, take}
use Rattle.std.specs.List.{flat_map}
use Rattle.usb_desc.specs.Spell.{alt_bytes}
use Rattle.usb_desc.proofs.write.put_alts.Given as goal

abbrev pub invariant-loop-alt : goal.invariant-loop-alt
invariant-loop-alt l = l.bytes ≡ l.initial.bytes ++ flat_map alt_bytes (take l.alt-index l.alts)
