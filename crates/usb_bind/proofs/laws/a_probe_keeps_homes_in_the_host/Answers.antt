use Rattle.usb_bind.proofs.Below.{homes_stay_below}
use Rattle.usb_bind.proofs.laws.a_probe_keeps_homes_in_the_host.Goals as goal

pub returns : goal.returns
returns c = homes_stay_below
