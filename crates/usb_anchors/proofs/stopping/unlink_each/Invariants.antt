use Rattle.std.proofs.Common.{drop}
use Rattle.usb_types.specs.declared.urb.Why.TheVariants.{Unlink}
use Rattle.usb_cancel.specs.Flushing.{ids}
use Rattle.usb_cancel.proofs.Flushes.{Marking}
use Rattle.usb_anchors.proofs.stopping.unlink_each.Given as goal

abbrev pub invariant-loop-urb : goal.invariant-loop-urb
invariant-loop-urb g l = g.H.Host.is_of l.host l.pass × Marking Unlink (g.H.Host.known l.fn.pass) (g.H.Host.known l.pass) (ids l.urbs) (ids (drop l.urb-index l.urbs))
