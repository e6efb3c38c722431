use Rattle.usb_bind.proofs.Roles.{needs_by_role}
use Rattle.usb_bind.proofs.laws.a_driver_needs_its_roles.Goals as goal

pub returns : goal.returns
returns c = needs_by_role
