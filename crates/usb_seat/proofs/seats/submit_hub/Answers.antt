use Rattle.std.proofs.Common.{ℕ, ◌≡◌, ◌∙◌, sym, ap, subst}
use Rattle.usb_machine.specs.declared.pass_row.Held.{Held}
use Rattle.usb_machine.specs.Parts.{held_of}
use Rattle.usb_machine.specs.Fresh.{Known}
use Rattle.usb_machine.specs.Tokens.{IsWholeHub}
use Rattle.usb_machine.specs.HostCalls.{Submitted, fault_at, shape_of}
use Rattle.usb_seat.proofs.Submitting.{submitted_number, submitted_held}
use Rattle.usb_seat.proofs.seats.submit_hub.Goals as goal

pub returns-clause-whole : goal.returns-clause-whole
returns-clause-whole g c =
    let h = g.H.Host in let host = c.args.host.now in let hub = g.H.Hub.HubToken in let token = g.H.Hub.Token in let t = c.args.hub.now in let p = c.submit.new.pass in
    let puts : token.own (token.with_own t p) ≡ p = (g.met.H.Hub.Token g.world.𝓛 g.world.𝓜 g.world.𝓡 ((λ s x. x), (λ x. x), (λ x. x), λ x. x)).puts t p in
    let whole = c.requires.whole in
    let keeps_room : hub.has_room (token.with_own t p) (h.machine host) = (g.met.H.Hub.HubToken g.world.𝓛 g.world.𝓜 g.world.𝓡 ((λ s x. x), (λ x. x), (λ x. x), λ x. x)).keeps_room t p (h.machine host) whole.room in
    let keeps_flags : (u : ℕ) → hub.flags (token.with_own t p) u ≡ hub.flags t u = (g.met.H.Hub.HubToken g.world.𝓛 g.world.𝓜 g.world.𝓡 ((λ s x. x), (λ x. x), (λ x. x), λ x. x)).keeps_flags t p in
    let before = ap (λ q. h.known q) c.pass.ensures.value in
    let fault = fault_at (shape_of (h.machine host) c.args.urb.0) c.args.t in
    subst (λ q. IsWholeHub (h.machine host) (h.known q) (hub.flags (token.with_own t p)) (hub.has_room (token.with_own t p))) (sym puts) record {
      room = keeps_room;
      number = submitted_number (h.machine host) (h.known c.pass.result.now) (h.known p) c.args.urb.0 c.args.t fault c.submit.result c.submit.ensures.fresh ∙ (ap (λ (k : Known). k.number) before ∙ whole.number);
      flags_are = λ u l. keeps_flags u ∙ (whole.flags_are u l ∙ (ap (λ (k : Known). (held_of k.mine u).flags) (sym before)
          ∙ ap (λ (d : Held). d.flags) (sym (submitted_held (h.machine host) (h.known c.pass.result.now) (h.known p) c.args.urb.0 c.args.t fault c.submit.result c.submit.ensures.fresh u))));
    }

pub returns-clause-fresh : goal.returns-clause-fresh
returns-clause-fresh g c =
    let h = g.H.Host in let host = c.args.host.now in let token = g.H.Hub.Token in let t = c.args.hub.now in let p = c.submit.new.pass in
    let fault = fault_at (shape_of (h.machine host) c.args.urb.0) c.args.t in
    let puts : token.own (token.with_own t p) ≡ p = (g.met.H.Hub.Token g.world.𝓛 g.world.𝓜 g.world.𝓡 ((λ s x. x), (λ x. x), (λ x. x), λ x. x)).puts t p in
    subst (λ q. Submitted (h.machine host) (h.known (token.own t)) (h.known q) c.args.urb.0 c.args.t fault c.submit.result) (sym puts)
    (subst (λ q. Submitted (h.machine host) (h.known q) (h.known p) c.args.urb.0 c.args.t fault c.submit.result) c.pass.ensures.value c.submit.ensures.fresh)
