use Rattle.std.proofs.Common.{sym, ◌∙◌}
use Rattle.usb_machine.specs.History.{state_of}
use Rattle.usb_turn_host.specs.Setup.{setup_of}
use Rattle.usb_turn_host.specs.Stock.{machine_of}
use Rattle.usb_turn_host.specs.Turning.{known_of}
use Rattle.usb_turn_host.proofs.Later.{looked_open, clear_of}
use Rattle.usb_turn_host.proofs.Settled.{why_settles}
use Rattle.usb_turn_host.proofs.host.TurnHost.look.Goals as goal

pub returns-in-None-clause-finds : goal.returns-in-None-clause-finds
returns-in-None-clause-finds g c =
    let u = c.args.urb.0 in
    clear_of (state_of c.find.new.pass.seen u).mark (sym c.find.ensures.why ∙ c.in-None.is)
    (looked_open (machine_of (setup_of c.args.self.now.turns)) (known_of c.args.server.now.pass) (known_of c.find.new.pass) u c.requires.whole.number c.requires.here.own c.find.ensures.looked c.requires.unfinished)

pub returns-in-Some-clause-settled : goal.returns-in-Some-clause-settled
returns-in-Some-clause-settled g c = why_settles (state_of c.find.new.pass.seen c.args.urb.0).mark c.in-Some.why (sym c.find.ensures.why ∙ c.in-Some.is)
