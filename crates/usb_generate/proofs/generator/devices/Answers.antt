use Rattle.std.proofs.Common.{◌≡◌, ap, ap₂, ◌∙◌}
use Rattle.usb_scene.specs.declared.scene.SceneDevice.{SceneDevice}
use Rattle.usb_generate.specs.Generator.{items, device_of}
use Rattle.usb_generate.proofs.Streams.{devices_none, device_beginning_none, devices_more, device_beginning_more}
use Rattle.usb_generate.proofs.generator.devices.Goals as goal

pub loop-number-init : goal.loop-number-init
loop-number-init c = record { said = c.of-devices.ensures ∙ c.new.ensures.items ∙ devices_none c.args.draws.now; stands = device_beginning_none c.args.draws.now }

pub loop-number-preserved : goal.loop-number-preserved
loop-number-preserved c =
    let one : SceneDevice = record { name = c.in_ok-name.field-0; script = c.in_ok-script.field-0 } in
    let made : one ≡ device_of c.loop-number.number (items c.loop-number.draws 64) =
    ap₂ (λ n s. record { name = n; script = s }) c.in_ok-name.ensures
    (c.in_ok-script.ensures ∙ ap (λ said. (device_of c.loop-number.number said).script) c.in_ok-items.ensures.items) in
    record {
      said = c.in_ok-push.ensures.ok
          ∙ devices_more c.args.draws.now c.loop-number.number c.loop-number.draws c.loop-number.devices one c.loop-number.invariant.said c.loop-number.invariant.stands made;
      stands = device_beginning_more c.args.draws.now c.loop-number.number c.loop-number.draws c.items.new.draws c.loop-number.invariant.stands c.in_ok-items.ensures.draws;
    }
