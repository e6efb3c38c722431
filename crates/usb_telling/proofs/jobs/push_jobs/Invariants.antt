use Rattle.std.proofs.Common.{◌≡◌, ◌++◌, take}
use Rattle.std.specs.List.{flat_map}
use Rattle.usb_telling.specs.Jobs.{job_text}
use Rattle.usb_telling.proofs.jobs.push_jobs.Given as goal

abbrev pub invariant-loop-event : goal.invariant-loop-event
invariant-loop-event l = l.report ≡ l.initial.report ++ flat_map job_text (take l.event-index l.events)
