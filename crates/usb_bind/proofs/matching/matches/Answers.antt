use Rattle.usb_bind.proofs.Matched.{matched}
use Rattle.usb_bind.proofs.matching.matches.Goals as goal

pub returns-clause-means : goal.returns-clause-means
returns-clause-means c = matched c.args.row.now c.args.device.now c.args.alt.now c.is_match.result c.is_match.ensures
