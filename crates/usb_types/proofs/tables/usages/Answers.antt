-- The rows are compared by computing.
use Rattle.std.proofs.Common.{refl}
use Rattle.usb_types.specs.Rows.{usage_table}
use Rattle.usb_types.proofs.tables.usages.Goals as goal

pub returns-clause-rows : goal.returns-clause-rows
unfolding usage_table
returns-clause-rows c = refl
