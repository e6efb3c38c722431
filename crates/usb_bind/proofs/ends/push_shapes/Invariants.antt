use Rattle.std.proofs.Common.{◌≡◌, ◌++◌, map, [], take}
use Rattle.std.specs.Prelude.{fold}
use Rattle.usb_bind.specs.Interfaces.{with_interface, shape_of_end}
use Rattle.usb_bind.specs.Seen.{KnowsNumbers, KnowsEnds, ends_from}
use Rattle.usb_bind.proofs.ends.push_shapes.Given as goal

abbrev pub invariant-loop-alt : goal.invariant-loop-alt
invariant-loop-alt l = let alts = fold with_interface [] (take l.alt-index l.config.alts) in
    KnowsNumbers l.numbers alts × KnowsEnds l.met (ends_from alts) × (l.shapes ≡ l.fn.shapes ++ map (shape_of_end l.device) (ends_from alts))
