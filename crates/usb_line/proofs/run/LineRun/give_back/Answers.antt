use Rattle.std.proofs.Common.{ap}
use Rattle.usb_line.specs.declared.run.LineRun.{LineRun}
use Rattle.usb_line.proofs.GivingBack.{gave_up, there_still, known_still, kept_one, poses, asks, whole}
use Rattle.usb_line.proofs.run.LineRun.give_back.Goals as goal

pub run_handler-requires-clause-there : goal.run_handler-requires-clause-there
run_handler-requires-clause-there c = there_still c.args.self.now c.note.new.self c.give-status.new.plain c.args.urb c.give-status.result c.args.t c.in-Ok.action c.note.ensures.rest c.give-status.ensures.counts.urbs c.requires.can c.in-Ok.ensures.noted

pub run_handler-requires-clause-known : goal.run_handler-requires-clause-known
run_handler-requires-clause-known c = known_still c.args.self.now c.note.new.self c.give-status.new.plain c.args.urb c.give-status.result c.args.t c.in-Ok.action c.note.ensures.rest c.give-status.ensures.counts.urbs c.requires.can c.in-Ok.ensures.noted

pub run_handler-requires-clause-kept : goal.run_handler-requires-clause-kept
run_handler-requires-clause-kept c = kept_one c.args.self.now c.note.new.self c.give-status.new.plain c.args.urb c.give-status.result c.args.t c.in-Ok.action c.note.ensures.rest c.give-status.ensures.counts.urbs c.requires.can c.in-Ok.ensures.noted

pub run_handler-requires-clause-core : goal.run_handler-requires-clause-core
run_handler-requires-clause-core c = poses c.args.self.now c.note.new.self c.give-status.new.plain c.args.urb c.give-status.result c.args.t c.in-Ok.action c.note.ensures.rest c.give-status.ensures.counts.urbs c.requires.can c.in-Ok.ensures.noted

pub run_handler-requires-clause-asks : goal.run_handler-requires-clause-asks
run_handler-requires-clause-asks c = asks c.args.self.now c.note.new.self c.give-status.new.plain c.args.urb c.give-status.result c.args.t c.in-Ok.action c.note.ensures.rest c.give-status.ensures.counts.urbs c.requires.can c.in-Ok.ensures.noted

pub returns-in-Ok-clause-back : goal.returns-in-Ok-clause-back
returns-in-Ok-clause-back c =
    whole c.args.self.now c.note.new.self c.give-status.new.plain c.args.urb c.give-status.result c.args.t c.in-Ok.action c.note.ensures.rest c.give-status.ensures.counts.urbs c.requires.can c.in-Ok.ensures.noted
    c.args.ended c.give-status.ensures.given c.run_handler.new.self c.run_handler.ensures.ran

pub returns-in-Err-clause-lacking : goal.returns-in-Err-clause-lacking
returns-in-Err-clause-lacking c =
    gave_up c.args.self.now (record c.note.new.self { plain = c.handle.new.plain }) c.give-status.new.plain c.note.new.self.plain c.args.urb c.args.ended c.args.t c.give-status.result c.handle.result c.give-status.ensures.given
    (ap (λ (r : LineRun). r.plain) c.note.ensures.rest) c.handle.ensures.handled
