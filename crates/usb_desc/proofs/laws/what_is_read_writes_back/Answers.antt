use Rattle.usb_desc.proofs.Found.{tree_found}
use Rattle.usb_desc.proofs.laws.what_is_read_writes_back.Goals as goal

pub returns : goal.returns
returns c = λ bytes t fits e. tree_found bytes t fits e
