use Rattle.std.proofs.Common.{◌≡◌, map, [], take}
use Rattle.std.specs.Prelude.{fold}
use Rattle.usb_desc.specs.declared.tree.Alt.{Alt}
use Rattle.usb_bind.specs.Interfaces.{with_interface}
use Rattle.usb_bind.specs.Seen.{KnowsNumbers}
use Rattle.usb_bind.proofs.settings.interfaces.Given as goal

abbrev pub invariant-loop-alt : goal.invariant-loop-alt
invariant-loop-alt l = let alts = fold with_interface [] (take l.alt-index l.config.alts) in
    KnowsNumbers l.met alts × (l.numbers ≡ map (λ (a : Alt). a.number) alts)
