use Rattle.usb_report.proofs.UrbNames.{role_named}
use Rattle.usb_report.proofs.laws.an_urb_of_a_driver_is_named_by_its_role.Goals as goal

pub returns : goal.returns
returns c = λ s device interface urb role good is. role_named s device interface urb role good is
