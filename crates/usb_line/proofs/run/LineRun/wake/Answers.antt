use Rattle.std.proofs.Common.{◌≡◌, length, map, refl, sym, ap, ◌∙◌}
use Rattle.std.specs.Vec.{with_items}
use Rattle.std.proofs.lemmas.List.{length-map, with_items_is}
use Rattle.usb_line.specs.declared.run.LineRun.{LineRun}
use Rattle.usb_line.specs.Awake.{awake}
use Rattle.usb_line.proofs.Awake.{shows_woken}
use Rattle.usb_line.proofs.run.LineRun.wake.Goals as goal

pub returns-clause-woken : goal.returns-clause-woken
returns-clause-woken c s f old =
    let run : LineRun = c.args.self.now in
    let after : LineRun = record run { ends = with_items run.ends c.wake_all.new.ends } in
    let all : c.wake_all.new.ends ≡ map awake run.ends.items = c.wake_all.ensures ∙ ap (map awake) c.deref_mut.ensures.value in
    let long : length c.wake_all.new.ends ≡ run.ends.len = ap length all ∙ (length-map run.ends.items awake ∙ sym run.ends.ok.0) in
    shows_woken s f run after old refl (with_items_is run.ends c.wake_all.new.ends long ∙ all) refl refl refl refl refl
