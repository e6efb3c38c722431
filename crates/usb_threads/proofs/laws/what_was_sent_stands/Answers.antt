use Rattle.usb_machine.proofs.SentStands.{sent_stands}
use Rattle.usb_threads.proofs.laws.what_was_sent_stands.Goals as goal

pub returns : goal.returns
returns c = λ g u seen rest legal none queued. (sent_stands g u seen rest legal none queued).0
