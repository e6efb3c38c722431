use Rattle.usb_machine.proofs.Statuses.{one_status}
use Rattle.usb_machine.proofs.laws.an_episode_has_one_status.Goals as goal

pub returns : goal.returns
returns c = one_status
