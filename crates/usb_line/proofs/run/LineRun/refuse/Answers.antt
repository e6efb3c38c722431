use Rattle.std.proofs.Common.{refl, sym, subst, append-nil}
use Rattle.usb_types.specs.declared.errno.Errno.TheVariants.{ENODEV}
use Rattle.usb_types.specs.declared.errno.Code.TheVariants.{Fault}
use Rattle.usb_machine.specs.Plain.{Stands}
use Rattle.usb_trace.specs.declared.rows.HostCall.TheVariants as host_call
use Rattle.usb_trace.specs.declared.rows.CallAnswer.TheVariants as told
use Rattle.usb_trace.specs.Plan.{machine_of}
use Rattle.usb_line.proofs.Calling.{made_now}
use Rattle.usb_line.proofs.run.LineRun.refuse.Goals as goal

pub returns : goal.returns
returns c s f i k p may =
    let run = c.args.self.now in
    made_now s f i k run p host_call.Absent may (told.Code (Fault ENODEV)) run.plain run.down refl tt (subst (Stands run.plain (machine_of s)) (sym (append-nil f.history)) may.shows.stands) may.shows.host
