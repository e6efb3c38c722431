use Rattle.std.proofs.Common.{◌≡◌, Option, sym, subst}
use Rattle.usb_types.specs.declared.errno.Errno.{Errno}
use Rattle.usb_machine.specs.History.{Machine}
use Rattle.usb_machine.specs.Fresh.{Known}
use Rattle.usb_machine.specs.HostCalls.{Submitted, fault_at, shape_of}
use Rattle.usb_side.specs.Side.{machine_in}
use Rattle.usb_side.proofs.Over.{submit_still, submit_whole, submit_told}
use Rattle.usb_side.proofs.handlers.ServerSideHandlerSide.submit.Goals as goal

pub returns-clause-still : goal.returns-clause-still
returns-clause-still g c =
    let m : Machine = g.H.Host.machine c.args.self.now.host.now in
    let t = c.args.self.now.server.now in
    let n = c.submit.new.pass in
    let token = g.H.Server.Token in
    let s = token.with_own t n in
    let p : Known = g.H.Host.known (token.own t) in
    let q : Known = g.H.Host.known (token.own s) in
    let fault : Option Errno = fault_at (shape_of m c.args.urb.0) c.args.t in
    let puts : token.own (token.with_own t n) ≡ n = g.met.H.Server.Token.puts t n in
    let laws = g.met.H.Server.ServerToken in
    let fresh : Submitted m p q c.args.urb.0 c.args.t fault c.submit.result =
    subst (λ x. Submitted m p (g.H.Host.known x) c.args.urb.0 c.args.t fault c.submit.result) (sym puts)
    (subst (λ x. Submitted m (g.H.Host.known x) (g.H.Host.known n) c.args.urb.0 c.args.t fault c.submit.result) c.pass.ensures.value c.submit.ensures.fresh) in
    submit_still m p q _ _ c.requires.whole.whole.number c.requires.whole.whole.bottom c.requires.whole.sound
    (submit_whole m _ _ p q _ _ _ _ _ _ c.args.urb.0 c.args.t fault c.submit.result c.requires.whole (subst (λ x. g.H.Host.is_of c.args.self.now.host.now x) (sym puts) c.submit.ensures.here) fresh
    (λ e. laws.keeps_pending t n e) (laws.keeps_given t n) (laws.keeps_room t n m)) c.args.urb.0 c.args.t fault c.submit.result fresh

pub returns-clause-submits : goal.returns-clause-submits
returns-clause-submits g c =
    let m : Machine = g.H.Host.machine c.args.self.now.host.now in
    let t = c.args.self.now.server.now in
    let n = c.submit.new.pass in
    let token = g.H.Server.Token in
    let s = token.with_own t n in
    let p : Known = g.H.Host.known (token.own t) in
    let q : Known = g.H.Host.known (token.own s) in
    let fault : Option Errno = fault_at (shape_of m c.args.urb.0) c.args.t in
    let puts : token.own (token.with_own t n) ≡ n = g.met.H.Server.Token.puts t n in
    let laws = g.met.H.Server.ServerToken in
    let fresh : Submitted m p q c.args.urb.0 c.args.t fault c.submit.result =
    subst (λ x. Submitted m p (g.H.Host.known x) c.args.urb.0 c.args.t fault c.submit.result) (sym puts)
    (subst (λ x. Submitted m (g.H.Host.known x) (g.H.Host.known n) c.args.urb.0 c.args.t fault c.submit.result) c.pass.ensures.value c.submit.ensures.fresh) in
    submit_told (machine_in g.H.Host.machine) (c.args.self.now.host.now, c.args.self.now.server.ghost_name) p q c.args.urb c.args.t c.submit.result fresh
