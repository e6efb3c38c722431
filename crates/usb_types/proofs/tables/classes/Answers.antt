-- The rows are compared by computing.
use Rattle.std.proofs.Common.{refl}
use Rattle.usb_types.specs.Rows.{class_table}
use Rattle.usb_types.proofs.tables.classes.Goals as goal

pub returns-clause-rows : goal.returns-clause-rows
unfolding class_table
returns-clause-rows c = refl
