use Rattle.std.proofs.Common.{◌≡◌, ◌<◌, ◌≢◌, Some, length, refl, sym, ap, ◌∙◌, arith}
use Rattle.std.specs.Prelude.{slice_get}
use Rattle.std.proofs.lemmas.Option.{slice_get-get_or}
use Rattle.usb_xfer.specs.declared.script.What.TheVariants.{Ack}
use Rattle.usb_xfer.specs.Replies.{Send}
use Rattle.usb_device.specs.Acks.{is_taken}
use Rattle.usb_device.specs.Said.{packet_word}
use Rattle.usb_device.proofs.Replying.{sent, is_an_ack, is_no_ack, not_taken}
use Rattle.usb_device.proofs.scripted.ScriptedDevice.output.Goals as goal

pub returns-then-is_taken : goal.returns-then-is_taken
returns-then-is_taken c =
    let d = c.said.new.self in
    let end = c.index_mut.result.now in
    let near : c.args.address < length d.ends.items = omega (arith, d.ends.ok.0, d.all_ends, c.ranges.address.fits) in
    let there : slice_get d.ends.items c.args.address ≡ Some end = slice_get-get_or d.ends.items c.args.address end near ∙ ap Some (sym c.index_mut.ensures.value) in
    let ack : packet_word c.said.result ≡ Ack = is_an_ack (packet_word c.said.result) (ap is_taken (sym c.heard_out-heard.ensures) ∙ (sym c.is_taken.ensures ∙ c.if-is_taken.true)) in (
      packet_word c.said.result,
      sent c.args.self.now d _ c.args.address c.args.packet.now c.said.result end c.add.new.self
          (λ script calls stands. c.said.ensures.asked script calls (Send c.args.packet.now) stands) c.said.ensures.spends ack refl refl refl refl there refl c.add.ensures,
      c.heard_out-heard.ensures,
    )

pub returns-else-is_taken : goal.returns-else-is_taken
returns-else-is_taken c =
    let no : packet_word c.said.result ≢ Ack = is_no_ack (packet_word c.said.result) (ap is_taken (sym c.heard_out-heard.ensures) ∙ (sym c.is_taken.ensures ∙ c.if-is_taken.false)) in (
      packet_word c.said.result,
      not_taken c.args.self.now c.said.new.self c.args.address c.args.packet.now c.said.result (λ script calls stands. c.said.ensures.asked script calls (Send c.args.packet.now) stands) c.said.ensures.spends no,
      c.heard_out-heard.ensures,
    )
