use Rattle.std.proofs.Common.{◌≡◌, ◌∙◌}
use Rattle.usb_scene.specs.declared.scene.Scene.{Scene}
use Rattle.usb_generate.specs.Generator.{generated}
use Rattle.usb_generate.proofs.ReadBack.{made, made_readable, readable_well_formed}
use Rattle.usb_generate.proofs.generator.generate.Goals as goal

pub returns-clause-readable : goal.returns-clause-readable
returns-clause-readable c =
    let scene : Scene = record { version = 1; devices = c.in_ok-devices.devices; urbs = c.in_ok-urbs.urbs; anchors = c.of.result; threads = c.in_ok-threads.threads } in
    let same : scene ≡ generated c.args.number =
    made c.args.number c.of-draws.result c.devices.new.draws c.in_ok-devices.devices c.in_ok-urbs.urbs c.of.result c.in_ok-threads.threads c.of-draws.ensures
    c.in_ok-devices.ensures.devices c.in_ok-devices.ensures.draws c.in_ok-urbs.ensures (c.of.ensures ∙ c.new.ensures.items) c.in_ok-threads.ensures in
    made_readable c.args.number scene same

pub returns-clause-well_formed : goal.returns-clause-well_formed
returns-clause-well_formed c =
    let scene : Scene = record { version = 1; devices = c.in_ok-devices.devices; urbs = c.in_ok-urbs.urbs; anchors = c.of.result; threads = c.in_ok-threads.threads } in
    readable_well_formed scene (returns-clause-readable c)
