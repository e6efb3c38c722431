use Rattle.std.proofs.Common.{subst, sym}
use Rattle.usb_machine.specs.History.{home_of}
use Rattle.usb_machine.specs.Legal.{IsFirst}
use Rattle.usb_turn_host.specs.Setup.{setup_of}
use Rattle.usb_turn_host.specs.Stock.{machine_of}
use Rattle.usb_turn_host.specs.Turning.{known_of}
use Rattle.usb_turn_host.proofs.Later.{pending_later}
use Rattle.usb_turn_host.proofs.host.TurnHost.finish.Goals as goal

pub make-requires-clause-may : goal.make-requires-clause-may
make-requires-clause-may g c h later =
    let machine = machine_of (setup_of c.args.self.now.turns) in
    let u = c.args.urb.0 in
    let number = c.requires.whole.number in
    ((number, subst (IsFirst u) (sym (pending_later machine (known_of c.args.server.now.pass) h number later (home_of machine u))) c.requires.first), tt)
