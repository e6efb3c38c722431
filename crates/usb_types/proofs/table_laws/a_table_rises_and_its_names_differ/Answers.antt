-- Both ways.
use Rattle.usb_types.specs.Table.{entries}
use Rattle.usb_types.proofs.Exact.{pairs_follow, table_of_pairs}
use Rattle.usb_types.proofs.table_laws.a_table_rises_and_its_names_differ.Goals as goal

pub returns : goal.returns
returns c = (pairs_follow (entries c.args.rows.now), table_of_pairs (entries c.args.rows.now))
