use Rattle.std.proofs.Common.{ℕ, cond, refl, ap, eq-eqb}
use Rattle.usb_trace.specs.declared.rows.HostCall.TheVariants as host_call
use Rattle.usb_trace.specs.declared.rows.CallAnswer.TheVariants as told
use Rattle.usb_line.proofs.Calling.{there, is_there, near_plain, backed, made_now}
use Rattle.usb_line.proofs.run.LineRun.unpoison.Goals as goal

pub withdraw-requires : goal.withdraw-requires
withdraw-requires c =
    let may = c.requires.may in let d = host_call.Unpoison c.args.urb.0 in let s = c.requires.scene in
    near_plain s c.requires.far c.requires.thread c.requires.call c.args.self.now c.args.pass d may c.args.urb.0 (is_there s c.requires.far c.requires.thread c.requires.call c.args.self.now c.args.pass d may)

pub returns : goal.returns
returns c s f i k may =
    let run = c.args.self.now in let p = c.args.pass in let u = c.args.urb.0 in let d = host_call.Unpoison u in
    let held = backed s f i k run p d may u (ap (λ b. cond {A = ℕ} b 1 0) (eq-eqb u u refl)) in
    let done = c.withdraw.ensures.withdrawn s f.history may.shows.stands (there s f i k run p d may) held in
    made_now s f i k run p d may told.Done c.withdraw.new.plain run.down refl (tt, tt) done may.shows.host
