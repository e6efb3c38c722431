use Rattle.std.proofs.Common.{subst}
use Rattle.usb_machine.specs.Legal.{IsLegal}
use Rattle.usb_turn.specs.Shown.{id_of, passes_of}
use Rattle.usb_turn_host.specs.Setup.{setup_of}
use Rattle.usb_turn_host.specs.Stock.{machine_of}
use Rattle.usb_turn_host.proofs.Closing.{all_of, closed}
use Rattle.usb_turn_host.proofs.host.TurnHost.end_all.Goals as goal

pub end-requires : goal.end-requires
end-requires c =
    let turns = c.args.self.turns in
    all_of (id_of turns) (setup_of turns) (passes_of turns) c.args.server.pass c.args.hub.pass c.args.passes.items c.args.self.counted c.requires.server c.requires.hub c.requires.passes c.requires.all

pub returns : goal.returns
returns c =
    let turns = c.args.self.turns in
    let s = c.end.ensures.stands in
    closed (id_of turns) (setup_of turns) (passes_of turns) c.args.server.pass c.args.hub.pass c.args.passes.items c.end.result
    (subst (λ k. IsLegal (machine_of k) c.end.result) s.2 s.1.plain.legal) c.end.ensures.closes
