use Rattle.std.proofs.Common.{refl}
use Rattle.usb_turn_host.specs.Setup.{setup_of}
use Rattle.usb_turn_host.specs.Stock.{machine_of}
use Rattle.usb_turn_host.specs.Turning.{known_of}
use Rattle.usb_turn_host.proofs.Later.{runs_later}
use Rattle.usb_turn_host.proofs.host.TurnHost.end.Goals as goal

pub make-requires-clause-may : goal.make-requires-clause-may
make-requires-clause-may g c h later =
    let machine = machine_of (setup_of c.args.self.now.turns) in
    let number = c.requires.whole.number in
    ((number, runs_later machine (known_of c.args.server.now.pass) h number later c.args.urb.0 refl c.requires.here.own c.requires.runs), tt)
