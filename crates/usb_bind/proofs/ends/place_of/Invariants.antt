use Rattle.std.proofs.Common.{◌≡◌, false, [], take}
use Rattle.std.specs.Prelude.{fold}
use Rattle.usb_desc.specs.Growth.{has_end}
use Rattle.usb_bind.specs.Interfaces.{with_interface}
use Rattle.usb_bind.specs.Seen.{KnowsNumbers, KnowsEnds, ends_from}
use Rattle.usb_bind.proofs.ends.place_of.Given as goal

abbrev pub invariant-loop-alt : goal.invariant-loop-alt
invariant-loop-alt l = let alts = fold with_interface [] (take l.alt-index l.config.alts) in
    KnowsNumbers l.numbers alts × KnowsEnds l.met (ends_from alts) × (has_end (ends_from alts) l.address ≡ false)
