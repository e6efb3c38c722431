-- The rows are compared by computing.
use Rattle.std.proofs.Common.{refl}
use Rattle.usb_types.specs.Rows.{call_table}
use Rattle.usb_types.proofs.tables.calls.Goals as goal

pub returns-clause-rows : goal.returns-clause-rows
unfolding call_table
returns-clause-rows c = refl
