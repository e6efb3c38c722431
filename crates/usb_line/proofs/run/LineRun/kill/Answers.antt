use Rattle.std.proofs.Common.{refl}
use Rattle.usb_trace.specs.declared.rows.HostCall.TheVariants as host_call
use Rattle.usb_line.proofs.Calling.{is_there, may_kill, made_kill}
use Rattle.usb_line.proofs.run.LineRun.kill.Goals as goal

pub kill_urb-requires : goal.kill_urb-requires
kill_urb-requires c =
    let s = c.requires.scene in let f = c.requires.far in let d = host_call.Kill c.args.urb.0 in
    record {
      scene = s;
      far = f;
      may = may_kill s f c.requires.thread c.requires.call c.args.self.now c.args.pass d c.requires.may c.args.urb.0
          (is_there s f c.requires.thread c.requires.call c.args.self.now c.args.pass d c.requires.may);
    }

pub returns : goal.returns
returns c s f i k may =
    let run = c.args.self.now in let p = c.args.pass in let u = c.args.urb.0 in let d = host_call.Kill u in
    made_kill s f i k run p d may u c.in_ok-rest.rest c.kill_urb.new.self refl (c.in_ok-rest.ensures s f (may_kill s f i k run p d may u (is_there s f i k run p d may)))
