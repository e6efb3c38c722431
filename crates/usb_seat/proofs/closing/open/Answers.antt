use Rattle.usb_seat.proofs.Dealt.{dealt_numbers}
use Rattle.usb_seat.proofs.Seated.{near_passes, dealt_seats, dealt_new}
use Rattle.usb_seat.proofs.closing.open.Goals as goal

pub deal-requires : goal.deal-requires
deal-requires g c =
    let h = g.H.Host in let hub = g.H.Hub.HubToken in let parts = c.in_ok-host.field-0 in
    near_passes (h.machine parts.host) (h.is_of parts.host) h.known g.H.Hub.Token.own hub.flags hub.has_room c.args.threads parts.passes.items parts.hub c.in_ok-host.ensures.passes c.args.hub_thread c.requires.hub

pub returns-clause-seats : goal.returns-clause-seats
returns-clause-seats g c =
    let h = g.H.Host in let hub = g.H.Hub.HubToken in let parts = c.in_ok-host.field-0 in let new = c.in_ok-host.ensures in let dealt = c.in_ok-seats.ensures in
    dealt_seats (h.machine parts.host) (h.is_of parts.host) h.known g.H.Hub.Token.own hub.flags hub.has_room c.args.threads parts.passes.items parts.hub new.passes c.args.hub_thread c.requires.hub
    new.hub.0 c.in_ok-seats.seats.threads.items c.in_ok-seats.seats.spare dealt.threads dealt.spare new.here.2 new.here.1 new.hub.1

pub returns-clause-numbers : goal.returns-clause-numbers
returns-clause-numbers g c =
    let h = g.H.Host in let hub = g.H.Hub.HubToken in let parts = c.in_ok-host.field-0 in let new = c.in_ok-host.ensures in let dealt = c.in_ok-seats.ensures in
    let both = dealt_new (h.machine parts.host) (h.is_of parts.host) h.known g.H.Hub.Token.own hub.flags hub.has_room c.args.threads parts.passes.items parts.hub new.passes c.args.hub_thread c.requires.hub
    new.hub.0 c.in_ok-seats.seats.threads.items c.in_ok-seats.seats.spare dealt.threads dealt.spare in
    dealt_numbers c.args.hub_thread c.args.threads _ _ c.requires.hub both.0 both.1

pub returns-clause-new : goal.returns-clause-new
returns-clause-new g c =
    let h = g.H.Host in let hub = g.H.Hub.HubToken in let parts = c.in_ok-host.field-0 in let new = c.in_ok-host.ensures in let dealt = c.in_ok-seats.ensures in
    dealt_new (h.machine parts.host) (h.is_of parts.host) h.known g.H.Hub.Token.own hub.flags hub.has_room c.args.threads parts.passes.items parts.hub new.passes c.args.hub_thread c.requires.hub
    new.hub.0 c.in_ok-seats.seats.threads.items c.in_ok-seats.seats.spare dealt.threads dealt.spare
