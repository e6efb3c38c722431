use Rattle.std.proofs.Common.{◌++◌, ap, ◌∙◌, refl, ℕ}
use Rattle.usb_prepare.specs.declared.found.Found.{Found}
use Rattle.usb_report.specs.Names.{device_name}
use Rattle.usb_report.specs.Listing.{found_text}
use Rattle.usb_report.proofs.NumberedTexts.{text_more}
use Rattle.usb_report.proofs.listing.push_list.Goals as goal

pub loop-device-preserved : goal.loop-device-preserved
loop-device-preserved c =
    let text = λ (d : ℕ) (one : Found). found_text (device_name c.args.scene.now d) one in
    let d = c.loop-device.device in let one = c.index-found-device.result in
    c.in_ok-push_found.ensures ∙ (ap (λ before. before ++ text d one) c.loop-device.invariant
    ∙ text_more text c.args.report.now d d c.args.found.now one c.loop-device-test.true c.index-found-device.is refl)
