use Rattle.std.proofs.Common.{◌≡◌, true, sym, subst}
use Rattle.usb_types.specs.declared.errno.Code.{Code}
use Rattle.usb_machine.specs.Parts.{keeps}
use Rattle.usb_machine.specs.Calls.{poison_entries}
use Rattle.usb_machine.specs.Fresh.{Fresh}
use Rattle.usb_machine.specs.HostCalls.{number_of}
use Rattle.usb_machine.proofs.Rooms.{home_below}
use Rattle.usb_side_cases.specs.Rounds.{Made}
use Rattle.usb_side_cases.specs.Crowd.{AreLastCalls}
use Rattle.usb_side_cases.proofs.Crowds.{poisoned_last}
use Rattle.usb_side_cases.proofs.crowd.call_and_poison.Goals as goal

pub poison-rest-requires-clause-urb : goal.poison-rest-requires-clause-urb
poison-rest-requires-clause-urb g c κs within = home_below (g.H.Host.machine c.args.host.now) c.args.urb.0 c.requires.hub.home

pub returns-clause-hub : goal.returns-clause-hub
returns-clause-hub g c =
    let h = g.H.Host in let m = h.machine c.args.host.now in let token = g.H.Hub.Token in let t = c.call_beside_hub-hub.result.0 in let p = c.poison-rest.new.pass in let u = c.args.urb.0 in let n = number_of c.poison-rest.result in
    let puts : token.own (token.with_own t p) ≡ p = (g.met.H.Hub.Token g.world.𝓛 g.world.𝓜 g.world.𝓡 ((λ s x. x), (λ x. x), (λ x. x), λ x. x)).puts t p in
    let fresh : (a : Code) × Fresh m (h.known (token.own t)) (h.known p) (poison_entries (h.known (token.own t)).number u a n) = subst (λ q. (a : Code) × Fresh m (h.known q) (h.known p) (poison_entries (h.known q).number u a n)) c.pass.ensures.value c.poison-rest.ensures.fresh in
    let from = h.known (token.own c.args.hub) in
    subst (λ q. Made (AreLastCalls m u from.number) from (h.known q)) (sym puts) (poisoned_last m from (h.known (token.own t)) (h.known p) u n c.call_beside_hub-hub.ensures.hub.made fresh)

pub returns-clause-kept : goal.returns-clause-kept
returns-clause-kept g c =
    let h = g.H.Host in let token = g.H.Hub.Token in let t = c.call_beside_hub-hub.result.0 in let p = c.poison-rest.new.pass in
    let puts : token.own (token.with_own t p) ≡ p = (g.met.H.Hub.Token g.world.𝓛 g.world.𝓜 g.world.𝓡 ((λ s x. x), (λ x. x), (λ x. x), λ x. x)).puts t p in
    subst (λ q. keeps (h.known q).mine c.args.urb.0 ≡ true) (sym puts) c.poison-rest.ensures.kept
