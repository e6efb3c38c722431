use Rattle.std.proofs.Common.{drop}
use Rattle.usb_machine.specs.Tokens.{IsWholeHub}
use Rattle.usb_cancel.specs.Flushing.{ids}
use Rattle.usb_cancel.proofs.Reopened.{Rejecting}
use Rattle.usb_cancel.proofs.reopens.reject_all.Given as goal

abbrev pub invariant-loop-urb : goal.invariant-loop-urb
invariant-loop-urb g l =
    let known = g.H.Host.known in
    let own = g.H.Hub.Token.own in
    g.H.Host.is_of l.host (own l.hub) × IsWholeHub (g.H.Host.machine l.host) (known (own l.hub)) (g.H.Hub.HubToken.flags l.hub) (g.H.Hub.HubToken.has_room l.hub)
    × Rejecting (known (own l.fn.hub)) (known (own l.hub)) (ids l.urbs) (ids (drop l.urb-index l.urbs))
