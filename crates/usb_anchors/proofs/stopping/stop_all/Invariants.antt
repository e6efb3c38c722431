use Rattle.std.proofs.Common.{drop}
use Rattle.usb_cancel.specs.Flushing.{ids}
use Rattle.usb_anchors.proofs.StopSteps.{Stopping}
use Rattle.usb_anchors.proofs.stopping.stop_all.Given as goal

abbrev pub invariant-loop-urb : goal.invariant-loop-urb
invariant-loop-urb g l = g.H.Host.is_of l.host l.pass × Stopping (g.H.Host.known l.fn.pass) (g.H.Host.known l.pass) (ids l.urbs) (ids (drop l.urb-index l.urbs))
