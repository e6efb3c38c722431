use Rattle.usb_types.specs.declared.errno.Code.TheVariants.{Fault}
use Rattle.usb_machine.specs.HostCalls.{number_of}
use Rattle.usb_machine.proofs.Rooms.{home_below}
use Rattle.usb_side_cases.proofs.Counting.{may_reject}
use Rattle.usb_side_cases.proofs.Crowds.{room_left, calls_made}
use Rattle.usb_side_cases.proofs.crowd.call_once.Goals as goal

pub unlink-requires-clause-urb : goal.unlink-requires-clause-urb
unlink-requires-clause-urb g c = home_below (g.H.Host.machine c.args.host.now) c.args.urb.0 c.requires.home

pub kill-rest-requires-clause-urb : goal.kill-rest-requires-clause-urb
kill-rest-requires-clause-urb g c κs within = home_below (g.H.Host.machine c.args.host.now) c.args.urb.0 c.requires.home

pub kill-rest-requires-clause-room : goal.kill-rest-requires-clause-room
kill-rest-requires-clause-room g c κs within =
    let known = g.H.Host.known in
    room_left (g.H.Host.machine c.args.host.now) (known c.args.pass.now) (known c.submit-answer.new.pass) (known c.unlink.new.pass) c.args.urb.0 _ (Fault c.unlink.result) c.submit-answer.result c.submit-answer.ensures.fresh c.unlink.ensures.fresh c.requires.room

pub returns-clause-made : goal.returns-clause-made
returns-clause-made g c =
    let known = g.H.Host.known in
    calls_made (g.H.Host.machine c.args.host.now) (known c.args.pass.now) (known c.submit-answer.new.pass) (known c.unlink.new.pass) (known c.kill-rest.new.pass) c.args.urb.0 _ (Fault c.unlink.result) c.submit-answer.result (number_of c.kill-rest.result) c.submit-answer.ensures.fresh c.unlink.ensures.fresh c.kill-rest.ensures.fresh

pub returns-clause-room : goal.returns-clause-room
returns-clause-room g c =
    let known = g.H.Host.known in
    let m = g.H.Host.machine c.args.host.now in
    may_reject m c.args.urb.0 (known c.unlink.new.pass) (known c.kill-rest.new.pass) (number_of c.kill-rest.result) c.kill-rest.ensures.fresh
    (room_left m (known c.args.pass.now) (known c.submit-answer.new.pass) (known c.unlink.new.pass) c.args.urb.0 _ (Fault c.unlink.result) c.submit-answer.result c.submit-answer.ensures.fresh c.unlink.ensures.fresh c.requires.room)
