use Rattle.usb_desc.proofs.Whole.{one_tree}
use Rattle.usb_desc.proofs.laws.a_spelling_is_of_one_tree.Goals as goal

pub returns : goal.returns
returns c = one_tree
