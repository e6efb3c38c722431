use Rattle.std.proofs.Common.{refl}
use Rattle.usb_line.proofs.Stepping.{is_zero_code}
use Rattle.usb_line.proofs.Submitting.{sent_refused, sent_accepted}
use Rattle.usb_line.proofs.run.LineRun.send.Goals as goal

pub returns-in-Fault : goal.returns-in-Fault
returns-in-Fault c = λ s f may.
    let got = c.submit_and_link-code.ensures.asked s f.history c.args.t may.shows.stands may.ask refl in
    sent_refused s f c.args.self.now c.args.pass c.args.urb.0 c.args.t may c.submit_and_link-code.result got.0 c.submit_and_link-code.new.plain got.1 c.in-Fault.field-0 c.in-Fault.is

pub returns : goal.returns
returns c = λ s f may.
    let got = c.submit_and_link-code.ensures.asked s f.history c.args.t may.shows.stands may.ask refl in
    sent_accepted s f c.args.self.now c.args.pass c.args.urb.0 c.args.t may c.submit_and_link-code.result got.0 c.submit_and_link-code.new.plain got.1 c.keep.new.self (is_zero_code c.submit_and_link-code.result c.in_default.not-Fault) c.keep.ensures
