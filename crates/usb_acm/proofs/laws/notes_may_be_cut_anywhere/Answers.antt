use Rattle.usb_acm.proofs.Told.{any_bytes, cut_anywhere}
use Rattle.usb_acm.proofs.laws.notes_may_be_cut_anywhere.Goals as goal

pub returns-clause-any : goal.returns-clause-any
returns-clause-any c = any_bytes

pub returns-clause-same : goal.returns-clause-same
returns-clause-same c = cut_anywhere
