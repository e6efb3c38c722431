use Rattle.std.proofs.Common.{sym, ◌∙◌}
use Rattle.usb_line.specs.Reads.{read_below}
use Rattle.usb_line.proofs.Reading.{row_near, end_near, known, shows_none, shows_fault, may_send, shows_read}
use Rattle.usb_line.proofs.run.LineRun.submit_read.Goals as goal

pub fault-requires-clause-there : goal.fault-requires-clause-there
fault-requires-clause-there c = row_near c.requires.scene c.args.self.now c.args.pass c.args.urb c.args.owner c.args.number c.requires.may

pub fault-requires-clause-home : goal.fault-requires-clause-home
fault-requires-clause-home c = end_near c.requires.scene c.args.self.now c.args.pass c.args.urb c.args.owner c.args.number c.requires.may

pub send-requires-clause-known : goal.send-requires-clause-known
send-requires-clause-known c = known c.requires.scene c.args.self.now c.args.pass c.args.urb c.args.owner c.args.number c.requires.may

pub send-requires-clause-there : goal.send-requires-clause-there
send-requires-clause-there c = row_near c.requires.scene c.args.self.now c.args.pass c.args.urb c.args.owner c.args.number c.requires.may

pub returns-in_default : goal.returns-in_default
returns-in_default c = λ s may. shows_none s c.args.self.now c.args.pass c.args.urb c.args.owner c.args.number may c.in_ok-t.field-0 c.in_ok-t.ensures c.in_default.is

pub returns-in-Some-fault : goal.returns-in-Some-fault
returns-in-Some-fault c = λ s may.
    shows_fault s c.args.self.now c.args.pass c.args.urb c.args.owner c.args.number may c.in-Some.t (sym c.in-Some.is ∙ c.in_ok-t.ensures) _
    (sym (c.fault.ensures.shown s (read_below s c.args.urb) may.shows) ∙ c.in-Some-fault.is)

pub returns : goal.returns
returns c = λ s may.
    let is = sym c.in-Some.is ∙ c.in_ok-t.ensures in
    let none = sym (c.fault.ensures.shown s (read_below s c.args.urb) may.shows) ∙ c.in_default-fault.is in
    shows_read s c.args.self.now c.args.pass c.args.urb c.args.owner c.args.number may c.in-Some.t is none c.send.result c.send.new.self
    (c.send.ensures s (read_below s c.args.urb) (may_send s c.args.self.now c.args.pass c.args.urb c.args.owner c.args.number may c.in-Some.t is none))
