use Rattle.std.proofs.Common.{Some, sym, ap}
use Rattle.usb_trace.specs.declared.rows.HostCall.TheVariants as host_call
use Rattle.usb_trace.specs.declared.rows.CallAnswer.TheVariants as told
use Rattle.usb_line.proofs.Calling.{there, is_there, near_plain, made_now}
use Rattle.usb_line.proofs.run.LineRun.unlink.Goals as goal

pub mark-requires : goal.mark-requires
mark-requires c =
    let may = c.requires.may in let d = host_call.Unlink c.args.urb.0 in let s = c.requires.scene in
    near_plain s c.requires.far c.requires.thread c.requires.call c.args.self.now c.args.pass d may c.args.urb.0 (is_there s c.requires.far c.requires.thread c.requires.call c.args.self.now c.args.pass d may)

pub returns : goal.returns
returns c s f i k may =
    let run = c.args.self.now in let p = c.args.pass in let d = host_call.Unlink c.args.urb.0 in
    let done = c.mark.ensures.marked s f.history may.shows.stands (there s f i k run p d may) in
    made_now s f i k run p d may (told.Code c.mark.result) c.mark.new.plain run.down (ap (λ a. Some (told.Code a)) (sym done.0)) (tt, tt) done.1 may.shows.host
