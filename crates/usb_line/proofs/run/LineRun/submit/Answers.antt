use Rattle.std.proofs.Common.{◌≡◌, None, Some, sym, ◌∙◌}
use Rattle.usb_line.proofs.Lookups.{none_of}
use Rattle.usb_line.proofs.Submitted.{row_near, end_near, known, fault_is, made_fault, may_send, made_sent}
use Rattle.usb_line.proofs.run.LineRun.submit.Goals as goal

pub fault-requires-clause-there : goal.fault-requires-clause-there
fault-requires-clause-there c = row_near c.requires.scene c.requires.far c.requires.thread c.requires.call c.args.self.now c.args.pass c.args.urb.0 c.requires.may

pub fault-requires-clause-home : goal.fault-requires-clause-home
fault-requires-clause-home c = end_near c.requires.scene c.requires.far c.requires.thread c.requires.call c.args.self.now c.args.pass c.args.urb.0 c.requires.may

pub send-requires-clause-known : goal.send-requires-clause-known
send-requires-clause-known c = known c.requires.scene c.requires.far c.requires.thread c.requires.call c.args.self.now c.args.pass c.args.urb.0 c.requires.may

pub send-requires-clause-there : goal.send-requires-clause-there
send-requires-clause-there c = row_near c.requires.scene c.requires.far c.requires.thread c.requires.call c.args.self.now c.args.pass c.args.urb.0 c.requires.may

pub returns-in-Some : goal.returns-in-Some
returns-in-Some c = λ s f i call may is.
    let u = c.args.urb.0 in
    made_fault s f i call c.args.self.now c.args.pass u may c.in-Some.errno
    (fault_is s f i call c.args.self.now c.args.pass u may c.args.t (Some c.in-Some.errno) is (sym c.in-Some.is ∙ c.fault.ensures.shown s f may.shows))

pub returns : goal.returns
returns c = λ s f i call may is.
    let u = c.args.urb.0 in
    let none : c.fault.result ≡ None = none_of c.fault.result c.in_default.not-Some in
    let fault = fault_is s f i call c.args.self.now c.args.pass u may c.args.t None is (sym none ∙ c.fault.ensures.shown s f may.shows) in
    made_sent s f i call c.args.self.now c.args.pass u may c.args.t is fault c.send.result c.send.new.self
    (c.send.ensures s f (may_send s f i call c.args.self.now c.args.pass u may c.args.t is fault))
