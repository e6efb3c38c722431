use Rattle.std.proofs.Common.{◌≡◌, ◌∷◌, map, true, sym, subst}
use Rattle.usb_machine.specs.History.{HasHome}
use Rattle.usb_machine.specs.Parts.{part_of, keeps}
use Rattle.usb_machine.specs.Fresh.{Known, Begins}
use Rattle.usb_machine.specs.Tokens.{OneKeeps, IsClosed}
use Rattle.usb_seat.specs.Sitting.{known_in}
use Rattle.usb_seat.proofs.Dealt.{all-threads, any-thread}
use Rattle.usb_seat.proofs.Seated.{are_own, is_the_hubs, hub_here, passes_here, all_known, all_here}
use Rattle.usb_seat.proofs.closing.close.Goals as goal

pub gather-requires-clause-own : goal.gather-requires-clause-own
gather-requires-clause-own g c =
    let h = g.H.Host in let hub = g.H.Hub.HubToken in let s = c.args.seats in
    are_own (h.machine c.args.host) (h.is_of c.args.host) h.known g.H.Hub.Token.own hub.flags hub.has_room c.args.hub_thread s.threads.items s.spare c.requires.hub c.requires.seats.0 c.requires.seats.1 c.requires.numbers

pub gather-requires-clause-hub : goal.gather-requires-clause-hub
gather-requires-clause-hub g c =
    let h = g.H.Host in let hub = g.H.Hub.HubToken in let s = c.args.seats in
    is_the_hubs (h.machine c.args.host) (h.is_of c.args.host) h.known g.H.Hub.Token.own hub.flags hub.has_room c.args.hub_thread s.threads.items s.spare c.requires.hub c.requires.seats.0 c.requires.seats.1 c.requires.numbers

pub close-requires-clause-here : goal.close-requires-clause-here
close-requires-clause-here g c =
    let h = g.H.Host in let hub = g.H.Hub.HubToken in let s = c.args.seats in let all = c.in_ok-hub.field-0 in let gathered = c.in_ok-hub.ensures in (
      c.requires.server.0,
      hub_here (h.machine c.args.host) (h.is_of c.args.host) h.known g.H.Hub.Token.own hub.flags hub.has_room c.args.hub_thread s.threads.items s.spare c.requires.hub c.requires.seats.0 c.requires.seats.1 all.passes.items all.hub gathered.passes gathered.hub,
      passes_here (h.machine c.args.host) (h.is_of c.args.host) h.known g.H.Hub.Token.own hub.flags hub.has_room c.args.hub_thread s.threads.items s.spare c.requires.hub c.requires.seats.0 c.requires.seats.1 all.passes.items all.hub gathered.passes gathered.hub,
    )

pub close-requires-clause-all : goal.close-requires-clause-all
close-requires-clause-all g c =
    let h = g.H.Host in let hub = g.H.Hub.HubToken in let s = c.args.seats in let all = c.in_ok-hub.field-0 in let gathered = c.in_ok-hub.ensures in
    all_here (h.machine c.args.host) (h.is_of c.args.host) h.known g.H.Hub.Token.own hub.flags hub.has_room c.args.hub_thread s.threads.items s.spare c.requires.hub c.requires.seats.0 c.requires.seats.1 all.passes.items all.hub gathered.passes gathered.hub
    (h.known (g.H.Server.Token.own c.args.server)) c.requires.numbers c.requires.server.1 c.requires.all

pub close-requires-clause-quiet : goal.close-requires-clause-quiet
close-requires-clause-quiet g c =
    let h = g.H.Host in let hub = g.H.Hub.HubToken in let s = c.args.seats in let all = c.in_ok-hub.field-0 in let gathered = c.in_ok-hub.ensures in
    let server = h.known (g.H.Server.Token.own c.args.server) in let knows = known_in h.known g.H.Hub.Token.own in
    let same = all_known (h.machine c.args.host) (h.is_of c.args.host) h.known g.H.Hub.Token.own hub.flags hub.has_room c.args.hub_thread s.threads.items s.spare c.requires.hub c.requires.seats.0 c.requires.seats.1 all.passes.items all.hub gathered.passes gathered.hub in
    subst (λ ks. OneKeeps (h.machine c.args.host) (server ∷ ks)) (sym same)
    (any-thread (λ (p : Known). (u : _) → HasHome (h.machine c.args.host) u → keeps p.mine u ≡ true) server c.args.hub_thread (map knows s.threads.items) (knows s.spare) c.requires.quiet)

pub returns-clause-closed : goal.returns-clause-closed
returns-clause-closed g c =
    let h = g.H.Host in let hub = g.H.Hub.HubToken in let s = c.args.seats in let all = c.in_ok-hub.field-0 in let gathered = c.in_ok-hub.ensures in
    let server = h.known (g.H.Server.Token.own c.args.server) in
    let same = all_known (h.machine c.args.host) (h.is_of c.args.host) h.known g.H.Hub.Token.own hub.flags hub.has_room c.args.hub_thread s.threads.items s.spare c.requires.hub c.requires.seats.0 c.requires.seats.1 all.passes.items all.hub gathered.passes gathered.hub in
    subst (λ ks. IsClosed (h.machine c.args.host) (g.H.Opens.history c.close.result) (server ∷ ks)) same c.close.ensures

pub returns-clause-threads : goal.returns-clause-threads
returns-clause-threads g c k d near =
    let h = g.H.Host in let hub = g.H.Hub.HubToken in let s = c.args.seats in let all = c.in_ok-hub.field-0 in let gathered = c.in_ok-hub.ensures in
    let server = h.known (g.H.Server.Token.own c.args.server) in let knows = known_in h.known g.H.Hub.Token.own in
    let same = all_known (h.machine c.args.host) (h.is_of c.args.host) h.known g.H.Hub.Token.own hub.flags hub.has_room c.args.hub_thread s.threads.items s.spare c.requires.hub c.requires.seats.0 c.requires.seats.1 all.passes.items all.hub gathered.passes gathered.hub in
    let history = g.H.Opens.history c.close.result in
    let closed = subst (λ ks. IsClosed (h.machine c.args.host) history (server ∷ ks)) same c.close.ensures in (
      all-threads (λ (p : Known). Begins history p.seen) server c.args.hub_thread (map knows s.threads.items) (knows s.spare) closed.begins k d near,
      all-threads (λ (p : Known). part_of history p.number ≡ p.mine) server c.args.hub_thread (map knows s.threads.items) (knows s.spare) closed.own k d near,
    )
