use Rattle.std.proofs.Common.{◌+◌, ◌∙◌, sym, subst, arith}
use Rattle.std.specs.Prelude.{slice_set}
use Rattle.usb_prepare.specs.Bindings.{AreProbed}
use Rattle.usb_prepare.proofs.Whole.{probed_start, probed_more}
use Rattle.usb_prepare.proofs.preparing.probe_all.Goals as goal

pub loop-i-init : goal.loop-i-init
loop-i-init c = subst (AreProbed c.args.scene.now 0 c.args.bindings.now c.args.devices.now) (sym (c.of-probes.ensures ∙ c.new.ensures.items))
    (probed_start c.args.scene.now c.requires.good c.args.bindings.now c.args.devices.now c.requires.board c.requires.pool c.requires.ids c.requires.heard)

pub loop-i-preserved : goal.loop-i-preserved
loop-i-preserved c =
    subst (AreProbed c.args.scene.now (c.loop-i.i + 1) c.probe_all.new.self (slice_set c.loop-i.devices c.loop-i.i c.probe_all.new.device)) (sym c.in_ok-push.ensures.ok)
    (probed_more c.args.scene.now c.requires.good c.loop-i.i c.loop-i.bindings c.probe_all.new.self c.loop-i.devices c.index-devices-i.result c.probe_all.new.device c.loop-i.probes c.in_ok-probe_all.field-0
    (let near = c.loop-i-test.true in omega arith) c.loop-i.invariant c.in_ok-probe_all.ensures.probed)
