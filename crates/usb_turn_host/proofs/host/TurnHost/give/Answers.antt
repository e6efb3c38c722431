use Rattle.std.proofs.Common.{◌<◌, None, get_or, length, ap, ◌∙◌, sym, subst}
use Rattle.usb_machine.specs.declared.layout.Layout.{Layout}
use Rattle.usb_machine.specs.History.{or_zero}
use Rattle.usb_turn_host.specs.Setup.{setup_of}
use Rattle.usb_machine.specs.Fresh.{Known}
use Rattle.usb_machine.specs.Tokens.{IsWholeServer}
use Rattle.usb_turn_host.specs.Stock.{machine_of}
use Rattle.usb_turn_host.specs.Turning.{known_of}
use Rattle.usb_turn_host.specs.Server.{pending_at, HasRooms}
use Rattle.usb_turn_host.proofs.Homes.{home_at}
use Rattle.usb_turn_host.proofs.Later.{pending_has_home}
use Rattle.usb_turn_host.proofs.Serving.{whole_remove}
use Rattle.usb_turn_host.proofs.host.TurnHost.give.Goals as goal

pub unreachable-requires : goal.unreachable-requires
unreachable-requires g c =
    let host = c.args.self.now in
    let u = c.args.urb.0 in
    let home = pending_has_home (machine_of (setup_of host.turns)) (known_of c.args.server.now.pass) u c.requires.whole.number c.requires.here.legal c.requires.here.own c.requires.pending in
    c.in_default.not-Some home.0 (ap (λ l. get_or l u None) c.items.ensures ∙ (sym (ap (λ (l : Layout). get_or l.homes u None) host.laid) ∙ home.1))

pub remove-requires-clause-ep : goal.remove-requires-clause-ep
remove-requires-clause-ep g c =
    let host = c.args.self.now in
    let u = c.args.urb.0 in
    let is = ap (λ l. get_or l u None) (sym c.items.ensures) ∙ c.in-Some.is in
    let below = host.homed u c.in-Some.ep (home_at host.layout.homes u c.in-Some.ep is) in
    subst (λ n. c.in-Some.ep < n) (sym (c.requires.whole.room.ends ∙ ap (λ (l : Layout). length l.shapes) host.laid)) below

pub returns-clause-whole : goal.returns-clause-whole
returns-clause-whole g c =
    let host = c.args.self.now in
    let machine = machine_of (setup_of host.turns) in
    let u = c.args.urb.0 in
    let ep = c.in-Some.ep in
    let old = c.args.server.now in
    let new = c.remove.new.self in
    let q = known_of c.hand_back-code.new.pass in
    let is = ap (λ l. get_or l u None) (sym c.items.ensures) ∙ c.in-Some.is in
    let below = subst (λ n. ep < n) (sym (ap (λ (l : Layout). length l.shapes) host.laid)) (host.homed u ep (home_at host.layout.homes u ep is)) in
    let home = ap or_zero (ap (λ (l : Layout). get_or l.homes u None) host.laid ∙ is) in
    let same = ap known_of c.remove.ensures.pass in
    let whole = whole_remove machine (known_of old.pass) q ep c.args.urb c.hand_back-code.result old.pending.items new.pending.items old.given c.hand_back-code.ensures.fresh home below c.requires.whole c.remove.ensures.removed in
    subst (λ (k : Known). IsWholeServer machine k (pending_at new.pending.items) new.given (λ m. HasRooms m new.pending.items)) (sym same)
    (subst (λ n. IsWholeServer machine q (pending_at new.pending.items) n (λ m. HasRooms m new.pending.items)) (sym c.remove.ensures.given) whole)
