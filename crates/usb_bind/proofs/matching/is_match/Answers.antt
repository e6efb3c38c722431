use Rattle.std.proofs.Common.{rules}
use Rattle.usb_bind.proofs.matching.is_match.Goals as goal

pub returns-then-fits_interface : goal.returns-then-fits_interface
returns-then-fits_interface c = search rules

pub returns-else-fits_interface : goal.returns-else-fits_interface
returns-else-fits_interface c = search rules
