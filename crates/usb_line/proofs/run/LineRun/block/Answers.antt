use Rattle.std.proofs.Common.{refl, arith}
use Rattle.usb_trace.specs.declared.rows.HostCall.TheVariants as host_call
use Rattle.usb_trace.specs.declared.rows.CallAnswer.TheVariants as told
use Rattle.usb_line.proofs.Calling.{there, is_there, near_plain, few, made_now}
use Rattle.usb_line.proofs.run.LineRun.block.Goals as goal

pub reject-requires : goal.reject-requires
reject-requires c =
    let may = c.requires.may in let d = host_call.Block c.args.urb.0 in let s = c.requires.scene in
    near_plain s c.requires.far c.requires.thread c.requires.call c.args.self.now c.args.pass d may c.args.urb.0 (is_there s c.requires.far c.requires.thread c.requires.call c.args.self.now c.args.pass d may)

pub returns : goal.returns
returns c s f i k may =
    let run = c.args.self.now in let p = c.args.pass in let d = host_call.Block c.args.urb.0 in
    let room = few s f i k run p d may c.args.urb.0 in
    let done = c.reject.ensures.raised s f.history may.shows.stands (there s f i k run p d may) (omega arith) in
    made_now s f i k run p d may told.Done c.reject.new.plain run.down refl (tt, tt) done may.shows.host
