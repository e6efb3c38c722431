use Rattle.std.proofs.Common.{◌≡◌, sym, subst}
use Rattle.usb_types.specs.declared.errno.Code.{Code}
use Rattle.usb_machine.specs.Calls.{kill_entries}
use Rattle.usb_machine.specs.Fresh.{Fresh}
use Rattle.usb_machine.specs.HostCalls.{HasClaimed, number_of}
use Rattle.usb_cancel.specs.Stops.{ClaimedSince}
use Rattle.usb_seat.proofs.stops.kill_hub.Goals as goal

pub returns-clause-fresh : goal.returns-clause-fresh
returns-clause-fresh g c =
    let h = g.H.Host in let host = c.args.host.now in let token = g.H.Hub.Token in let t = c.args.hub.now in let p = c.kill.new.pass in let u = c.args.urb.0 in let n = number_of c.kill.result in
    let puts : token.own (token.with_own t p) ≡ p = (g.met.H.Hub.Token g.world.𝓛 g.world.𝓜 g.world.𝓡 ((λ s x. x), (λ x. x), (λ x. x), λ x. x)).puts t p in
    subst (λ q. (a : Code) × Fresh (h.machine host) (h.known (token.own t)) (h.known q) (kill_entries (h.known (token.own t)).number u a n)) (sym puts)
    (subst (λ q. (a : Code) × Fresh (h.machine host) (h.known q) (h.known p) (kill_entries (h.known q).number u a n)) c.pass.ensures.value c.kill.ensures.fresh)

pub returns-clause-claimed : goal.returns-clause-claimed
returns-clause-claimed g c =
    let h = g.H.Host in let token = g.H.Hub.Token in let t = c.args.hub.now in let p = c.kill.new.pass in
    let puts : token.own (token.with_own t p) ≡ p = (g.met.H.Hub.Token g.world.𝓛 g.world.𝓜 g.world.𝓡 ((λ s x. x), (λ x. x), (λ x. x), λ x. x)).puts t p in
    subst (λ q. HasClaimed (h.known q).seen (h.known q).number c.args.urb.0 c.kill.result) (sym puts) c.kill.ensures.claimed

pub returns-clause-since : goal.returns-clause-since
returns-clause-since g c =
    let h = g.H.Host in let token = g.H.Hub.Token in let t = c.args.hub.now in let p = c.kill.new.pass in
    let puts : token.own (token.with_own t p) ≡ p = (g.met.H.Hub.Token g.world.𝓛 g.world.𝓜 g.world.𝓡 ((λ s x. x), (λ x. x), (λ x. x), λ x. x)).puts t p in
    subst (λ q. ClaimedSince (h.known (token.own t)).seen (h.known q).seen (h.known q).number c.args.urb.0 c.kill.result) (sym puts)
    (subst (λ q. ClaimedSince (h.known q).seen (h.known p).seen (h.known p).number c.args.urb.0 c.kill.result) c.pass.ensures.value c.kill.ensures.since)
