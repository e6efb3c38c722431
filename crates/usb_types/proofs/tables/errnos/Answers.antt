-- The rows are compared by computing.
use Rattle.std.proofs.Common.{refl}
use Rattle.usb_types.specs.Rows.{errno_table}
use Rattle.usb_types.proofs.tables.errnos.Goals as goal

pub returns-clause-rows : goal.returns-clause-rows
unfolding errno_table
returns-clause-rows c = refl
