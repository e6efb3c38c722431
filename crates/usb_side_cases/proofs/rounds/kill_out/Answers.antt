use Rattle.usb_machine.specs.HostCalls.{number_of}
use Rattle.usb_machine.proofs.Rooms.{home_below}
use Rattle.usb_side_cases.proofs.Counting.{killed_out}
use Rattle.usb_side_cases.proofs.rounds.kill_out.Goals as goal

pub kill_times-pass-requires-clause-urb : goal.kill_times-pass-requires-clause-urb
kill_times-pass-requires-clause-urb g c κs within = home_below (g.H.Host.machine c.args.host.now) c.args.urb.0 c.requires.urb

pub poison-rest-requires-clause-urb : goal.poison-rest-requires-clause-urb
poison-rest-requires-clause-urb g c κs within = home_below (g.H.Host.machine c.args.host.now) c.args.urb.0 c.requires.urb

pub returns-clause-made : goal.returns-clause-made
returns-clause-made g c =
    let known = g.H.Host.known in
    killed_out (g.H.Host.machine c.args.host.now) c.args.times c.args.urb.0 (known c.args.pass) (known c.kill_times-pass.result) (known c.poison-rest.new.pass) (number_of c.poison-rest.result) c.kill_times-pass.ensures.made c.poison-rest.ensures.fresh
