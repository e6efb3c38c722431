use Rattle.std.proofs.Common.{arith}
use Rattle.usb_desc.proofs.Words.{each_byte}
use Rattle.usb_desc.proofs.Answered.{config_found, config_only, config_fault}
use Rattle.usb_desc.proofs.read.read_config.Goals as goal

pub returns-clause-found : goal.returns-clause-found
returns-clause-found c = config_found c.args.bytes.now c.tree_of.result (each_byte c.args.bytes.now (λ i. omega (arith, c.type_inv.bytes i))) c.tree_of.ensures

pub returns-clause-only : goal.returns-clause-only
returns-clause-only c = config_only c.args.bytes.now c.tree_of.result c.tree_of.ensures

pub returns-clause-fault : goal.returns-clause-fault
returns-clause-fault c = config_fault c.args.bytes.now c.tree_of.result c.tree_of.ensures
