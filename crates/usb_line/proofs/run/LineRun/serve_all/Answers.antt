use Rattle.std.proofs.Common.{refl}
use Rattle.usb_trace.specs.declared.rows.HostCall.TheVariants as host_call
use Rattle.usb_line.proofs.Calling.{made_serve}
use Rattle.usb_line.proofs.run.LineRun.serve_all.Goals as goal

pub returns : goal.returns
returns c s f i k p may = made_serve s f i k c.args.self.now p host_call.Serve may c.serve.new.self refl (c.in_ok-serve.ensures.served s f may.good may.shows)
