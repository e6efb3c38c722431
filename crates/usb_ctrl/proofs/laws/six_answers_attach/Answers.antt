-- Both ways.
use Rattle.usb_ctrl.proofs.Attachings.{attaching, attaches}
use Rattle.usb_ctrl.proofs.laws.six_answers_attach.Goals as goal

pub returns : goal.returns
returns c = λ address s device config. (attaching address s device config, attaches address s device config)
