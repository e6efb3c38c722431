use Rattle.std.proofs.Common.{◌≡◌, ◌<◌, ◌≤◌, ◌+◌, [], All, length, sym, refl, ap, ◌∙◌, subst, arith, map}
use Rattle.std.specs.Prelude.{replicate}
use Rattle.circular_buffer.specs.Buffer.{buffer}
use Rattle.usb_machine.specs.History.{Machine}
use Rattle.usb_machine.specs.declared.entry.TheConstants.{SERVER}
use Rattle.usb_machine.specs.Tokens.{IsWholeServer, unused}
use Rattle.usb_turn.specs.Shown.{id_of}
use Rattle.usb_turn_host.specs.Setup.{setup_of}
use Rattle.usb_turn_host.specs.Stock.{machine_of}
use Rattle.usb_turn_host.specs.Turning.{IsOf, known_of}
use Rattle.usb_turn_host.specs.Server.{pending_at, HasRooms}
use Rattle.usb_turn_host.proofs.Beginning.{fresh_is, fresh_all, known_fresh, server_first}
use Rattle.usb_turn_host.proofs.opens.TurnHostOpens.new.Goals as goal

pub returns-clause-here : goal.returns-clause-here
returns-clause-here g c =
    let e = c.in_ok-parts.ensures in
    let turns = c.in_ok-parts.parts.host.turns in
    let id = id_of turns in
    let key = setup_of turns in
    let count : c.args.passes + 2 ≡ (machine_of key).passes = sym (ap (λ (m : Machine). m.passes) e.machine) in (
      subst (IsOf id key) (sym e.server.0) (fresh_is id key 0 (subst (λ n. 0 < n) count (omega arith))),
      subst (IsOf id key) (sym e.hub.0) (fresh_is id key 1 (subst (λ n. 1 < n) count (omega arith))),
      subst (All (IsOf id key)) (sym e.passes) (fresh_all id key 2 c.args.passes (subst (λ n. 2 + c.args.passes ≤ n) count (omega arith))),
    )

pub returns-clause-server : goal.returns-clause-server
returns-clause-server g c =
    let e = c.in_ok-parts.ensures in
    let s = c.in_ok-parts.parts.server in
    let machine = machine_of (setup_of c.in_ok-parts.parts.host.turns) in
    let pending = e.server.1 ∙ ap (λ (m : Machine). replicate (length m.layout.shapes) (buffer [] (length m.layout.homes))) (sym e.machine) in (
      ap known_of e.server.0,
      subst (λ n. IsWholeServer machine (unused SERVER) (pending_at s.pending.items) n (λ m. HasRooms m s.pending.items)) (sym e.server.2) (server_first machine s.pending.items refl pending),
    )

pub returns-clause-passes : goal.returns-clause-passes
returns-clause-passes g c =
    let e = c.in_ok-parts.ensures in
    ap (λ l. map known_of l) e.passes ∙ known_fresh (id_of c.in_ok-parts.parts.host.turns) 2 c.args.passes
