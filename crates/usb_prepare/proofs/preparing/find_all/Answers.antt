use Rattle.std.proofs.Common.{◌≡◌, ◌<◌, ◌∙◌, List, length, sym, ap, subst, arith}
use Rattle.std.specs.Prelude.{IfSome}
use Rattle.usb_ctrl.specs.declared.enumerator.Attached.{Attached}
use Rattle.usb_bind.specs.Board.{attached_at}
use Rattle.usb_bind.specs.Interfaces.{interfaces_of}
use Rattle.usb_prepare.specs.declared.found.Probe.{Probe}
use Rattle.usb_prepare.proofs.Lists.{any_default}
use Rattle.usb_prepare.proofs.Whole.{probe_near, fault_near, each_probe, found_more, found_all}
use Rattle.usb_prepare.proofs.preparing.find_all.Goals as goal

pub bounds-faults-i : goal.bounds-faults-i
bounds-faults-i c = let near = c.loop-i-test.true in let same = ap length c.items-i-end.ensures in
    fault_near c.args.scene.now c.requires.good c.args.board.now c.args.faults.now c.args.probes.now c.requires.board c.requires.faults c.requires.probes c.loop-i.i (omega arith)

pub bounds-probes-i : goal.bounds-probes-i
bounds-probes-i c = let near = c.loop-i-test.true in let same = ap length c.items-i-end.ensures in
    probe_near c.args.scene.now c.requires.good c.args.board.now c.args.faults.now c.args.probes.now c.requires.board c.requires.faults c.requires.probes c.loop-i.i (omega arith)

pub found_device-requires : goal.found_device-requires
found_device-requires c = let near = c.loop-i-test.true in let same = ap length c.items-i-end.ensures in
    subst (λ (q : List Probe). IfSome (attached_at c.args.board.now c.loop-i.i) (λ (a : Attached). length q ≡ length (interfaces_of a.config))) (sym c.items.ensures)
    (each_probe c.args.scene.now c.requires.good c.args.board.now c.args.faults.now c.args.probes.now c.requires.board c.requires.faults c.requires.probes c.loop-i.i (omega arith) c.index-probes-i.result c.index-probes-i.is)

pub loop-i-preserved : goal.loop-i-preserved
loop-i-preserved c =
    let near = c.loop-i-test.true in
    let same = ap length c.items-i-end.ensures in
    let close : c.loop-i.i < length c.args.scene.now.devices = omega arith in
    let within = probe_near c.args.scene.now c.requires.good c.args.board.now c.args.faults.now c.args.probes.now c.requires.board c.requires.faults c.requires.probes c.loop-i.i close in
    let known = fault_near c.args.scene.now c.requires.good c.args.board.now c.args.faults.now c.args.probes.now c.requires.board c.requires.faults c.requires.probes c.loop-i.i close in
    found_more c.args.scene.now c.requires.good c.args.board.now c.args.faults.now c.args.probes.now c.requires.board c.requires.faults c.requires.probes c.loop-i.i close c.items.result.now _
    c.in_ok-one.one c.loop-i.found c.push.new.self (c.items.ensures ∙ (c.index-probes-i.is ∙ any_default c.args.probes.now c.loop-i.i c.index-probes-i.result c.items.result.now within)) (any_default c.args.faults.now c.loop-i.i _ _ known)
    c.in_ok-one.ensures c.loop-i.invariant c.in_ok-push.ensures.ok

pub returns : goal.returns
returns c = let end = c.loop-i-test.false in let same = ap length c.items-i-end.ensures in
    found_all c.args.scene.now c.requires.good c.args.board.now c.args.probes.now c.loop-i.i c.loop-i.found c.requires.board c.requires.probes (omega arith) c.loop-i.invariant
