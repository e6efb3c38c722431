use Rattle.std.proofs.Common.{◌∙◌, Some, sym, ap, length, get_or, arith, subst}
use Rattle.std.specs.Prelude.{slice_get}
use Rattle.std.proofs.lemmas.Option.{slice_get-get_or}
use Rattle.usb_scene.specs.declared.scene.SceneDevice.{SceneDevice}
use Rattle.usb_prepare.specs.Bindings.{IsEnumerated}
use Rattle.usb_prepare.proofs.Short.{item_lines_fit}
use Rattle.usb_prepare.proofs.Begins.{begun_longer}
use Rattle.usb_prepare.proofs.beginning.begin_all.Goals as goal

pub begin-requires-clause-short : goal.begin-requires-clause-short
begin-requires-clause-short c = item_lines_fit c.args.scene.now c.requires.good c.items-device-items.result.now c.items-device-items.ensures c.loop-i.i c.device-item.result c.loop-i-test.true c.device-item.is

pub begin-requires-clause-given : goal.begin-requires-clause-given
begin-requires-clause-given c =
    let at = ap (λ l. slice_get l c.loop-i.i) (sym c.items-device-items.ensures) ∙ (slice_get-get_or c.items-device-items.result.now c.loop-i.i c.device-item.result c.loop-i-test.true ∙ ap Some (sym c.device-item.is)) in
    (c.requires.good.devices c.loop-i.i c.device-item.result at).own.config

pub loop-i-preserved : goal.loop-i-preserved
loop-i-preserved c = record {
  room_so = c.begin.ensures.size ∙ c.loop-i.invariant.room_so;
  begun_so = begun_longer c.args.scene.now.devices c.loop-i.i c.device-item.result c.loop-i.begun c.add.new.self c.in_ok-one.one (let near = c.loop-i-test.true in let same = ap length c.items-device-items.ensures in omega arith) c.loop-i.invariant.begun_so
      (subst (λ (d : SceneDevice). IsEnumerated c.loop-i.i d c.in_ok-one.one) (c.device-item.is ∙ ap (λ l. get_or l c.loop-i.i c.device-item.result) c.items-device-items.ensures) c.in_ok-one.ensures.begun) c.in_ok-add.ensures;
}
