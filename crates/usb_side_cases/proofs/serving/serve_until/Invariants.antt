use Rattle.std.proofs.Common.{◌≡◌}
use Rattle.usb_serve.specs.Held.{Agrees}
use Rattle.usb_side.specs.Side.{IsWholeSide, side_knows}
use Rattle.usb_side_cases.proofs.serving.serve_until.Given as goal

abbrev pub invariant-loop-turn : goal.invariant-loop-turn
invariant-loop-turn g l =
    let h = g.H.Host in
    let host = l.side.host.now in
    let server = l.side.server in
    let token = g.H.Server.ServerToken in
    let known = h.known (g.H.Server.Token.own server) in
    (goal.iterator-loop-turn g).can_next l._turn-iterator
    × (goal.iterator-loop-turn g).is_finite l._turn-iterator
    × (host ≡ l.host)
    × Agrees (side_knows (h.machine host) known (token.given server) (IsWholeSide (h.machine host) (h.is_of host (g.H.Server.Token.own server)) known (token.pending server) (token.given server) (token.has_room server)) (g.H.Serves.is_settled host server)) l.controller
