-- What a completion over a host says of its handlers, in the words of a run.
use Rattle.std.specs.Prelude.{Option, Some, None}
use Rattle.usb_types.specs.declared.urb.UrbId.{UrbId}
use Rattle.usb_machine.specs.declared.transfer.Transfer.{Transfer}
use Rattle.usb_serve.specs.declared.handler.Outcome.{Outcome as ServedOutcome}
use Rattle.usb_serve.specs.declared.handler.Outcome.TheVariants as served
use Rattle.usb_trace.specs.declared.rows.Outcome.{Outcome}
use Rattle.usb_trace.specs.declared.rows.Outcome.TheVariants as outcome
use Rattle.usb_trace.specs.Plan.{DriverQuestion}
use Rattle.usb_trace.specs.Handlers.{asked_with}

-- what became of the transfer
abbrev pub outcome_in_run : ServedOutcome → Outcome
outcome_in_run served.Rested = outcome.Rest
outcome_in_run (served.Again code) = outcome.Again code
outcome_in_run (served.Asked code) = outcome.Asked code

-- the question that was asked
abbrev pub question_in_run : Option (UrbId × Transfer) → Option DriverQuestion
question_in_run None = None
question_in_run (Some q) = Some (asked_with q.0 q.1)
