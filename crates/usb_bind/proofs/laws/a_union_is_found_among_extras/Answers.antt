use Rattle.usb_bind.proofs.UnionWalk.{first_union}
use Rattle.usb_bind.proofs.laws.a_union_is_found_among_extras.Goals as goal

pub returns : goal.returns
returns c = first_union
