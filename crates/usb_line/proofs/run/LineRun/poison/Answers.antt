use Rattle.std.proofs.Common.{refl}
use Rattle.usb_trace.specs.declared.rows.HostCall.TheVariants as host_call
use Rattle.usb_line.proofs.Calling.{is_there, may_kill, made_poison}
use Rattle.usb_line.proofs.run.LineRun.poison.Goals as goal

pub poison_urb-requires : goal.poison_urb-requires
poison_urb-requires c =
    let s = c.requires.scene in let f = c.requires.far in let d = host_call.Poison c.args.urb.0 in
    record {
      scene = s;
      far = f;
      may = may_kill s f c.requires.thread c.requires.call c.args.self.now c.args.pass d c.requires.may c.args.urb.0
          (is_there s f c.requires.thread c.requires.call c.args.self.now c.args.pass d c.requires.may);
    }

pub returns : goal.returns
returns c s f i k may =
    let run = c.args.self.now in let p = c.args.pass in let u = c.args.urb.0 in let d = host_call.Poison u in
    made_poison s f i k run p d may u c.in_ok-rest.rest c.poison_urb.new.self refl (c.in_ok-rest.ensures s f (may_kill s f i k run p d may u (is_there s f i k run p d may)))
