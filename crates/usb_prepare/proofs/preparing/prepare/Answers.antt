use Rattle.std.proofs.Common.{◌∙◌, sym, ap, subst}
use Rattle.std.proofs.lemmas.List.{with_items_is}
use Rattle.usb_bind.specs.Pool.{up_to_last}
use Rattle.usb_prepare.specs.Bindings.{HaveHeard}
use Rattle.usb_prepare.specs.Prepared.{probes_of}
use Rattle.usb_prepare.specs.Ready.{AreReady}
use Rattle.usb_prepare.specs.Layout.{homes_of}
use Rattle.usb_prepare.proofs.Whole.{devices_ready, all_heard, board_so, pool_so, ids_so, probes_so}
use Rattle.usb_prepare.proofs.preparing.prepare.Goals as goal

pub find_all-requires-clause-board : goal.find_all-requires-clause-board
find_all-requires-clause-board c = board_so c.args.scene.now c.requires c.probe_all.new.bindings c.probe_all.new.devices c.in_ok-probes.probes c.in_ok-probes.ensures

pub find_all-requires-clause-probes : goal.find_all-requires-clause-probes
find_all-requires-clause-probes c = c.items-2.ensures ∙ probes_so c.args.scene.now c.requires c.probe_all.new.bindings c.probe_all.new.devices c.in_ok-probes.probes c.in_ok-probes.ensures

pub returns : goal.returns
unfolding homes_of
returns c =
    let s = c.args.scene.now in
    let homes = c.in_ok-layout.ensures.0 ∙ ap up_to_last (pool_so s c.requires c.probe_all.new.bindings c.probe_all.new.devices c.in_ok-probes.probes c.in_ok-probes.ensures) in
    let are = c.in_ok-probes.ensures in
    let begun = c.in_ok-begun.ensures.begun.heard in
    let devices = c.in_ok-begun.begun.devices in
    let same = with_items_is devices c.probe_all.new.devices (are.count ∙ (sym begun.count ∙ sym devices.ok.0)) in
    let shapes = c.in_ok-layout.ensures.1 ∙ c.in_ok-opened.ensures.shapes in
    record {
      devices = subst (AreReady s.devices) (sym same) (devices_ready s c.requires c.probe_all.new.bindings c.probe_all.new.devices c.in_ok-probes.probes are);
      heard = subst (HaveHeard s.devices (probes_of s).heard) (sym same) (all_heard s c.requires c.probe_all.new.bindings c.probe_all.new.devices c.in_ok-probes.probes are);
      found = c.in_ok-found.ensures;
      board = board_so s c.requires c.probe_all.new.bindings c.probe_all.new.devices c.in_ok-probes.probes c.in_ok-probes.ensures;
      ids = ids_so s c.requires c.probe_all.new.bindings c.probe_all.new.devices c.in_ok-probes.probes c.in_ok-probes.ensures;
      layout = (λ i. record { homes = homes i; shapes = shapes i });
    }
