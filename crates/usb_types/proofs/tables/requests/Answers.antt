-- The rows are compared by computing.
use Rattle.std.proofs.Common.{refl}
use Rattle.usb_types.specs.Rows.{request_table}
use Rattle.usb_types.proofs.tables.requests.Goals as goal

pub returns-clause-rows : goal.returns-clause-rows
unfolding request_table
returns-clause-rows c = refl
