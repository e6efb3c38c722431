use Rattle.std.proofs.Common.{drop}
use Rattle.usb_cancel.specs.Flushing.{ids}
use Rattle.usb_cancel.proofs.Reopened.{Rejecting}
use Rattle.usb_anchors.proofs.rejects.reject_all.Given as goal

abbrev pub invariant-loop-urb : goal.invariant-loop-urb
invariant-loop-urb g l = g.H.Host.is_of l.host l.pass × Rejecting (g.H.Host.known l.fn.pass) (g.H.Host.known l.pass) (ids l.urbs) (ids (drop l.urb-index l.urbs))
