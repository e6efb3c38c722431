use Rattle.usb_xfer.specs.Replies.{Fetch}
use Rattle.usb_device.specs.Said.{packet_word}
use Rattle.usb_device.proofs.Replying.{fetched}
use Rattle.usb_device.proofs.scripted.ScriptedDevice.input.Goals as goal

pub returns : goal.returns
returns c = (
  packet_word c.said.result,
  fetched c.args.self.now c.said.new.self c.args.address c.said.result (λ script calls stands. c.said.ensures.asked script calls Fetch stands) c.said.ensures.spends,
  c.heard_in.ensures,
)
