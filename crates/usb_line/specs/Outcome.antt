-- What the run in line order leaves for its report.
use Rattle.std.specs.Prelude.{◌≡◌}
use Rattle.usb_scene.specs.declared.scene.Scene.{Scene}
use Rattle.usb_line.specs.declared.run.EndRow.{EndRow}
use Rattle.usb_trace.specs.declared.received.EndReceived.{EndReceived}
use Rattle.usb_trace.specs.declared.rows.RunOutcome.{RunOutcome}
use Rattle.usb_trace.specs.Rows.{outcome_of}
use Rattle.usb_line.specs.Line.{Progress, IsLineRun}

-- what the object keeps of that
abbrev pub received_at : EndRow → EndReceived
received_at end = record { shape = end.shape; received = end.received }

-- the outcome is that of the scene's run in line order
pub record IsOutcome (s : Scene) (o : RunOutcome) : Type 0 where
  pub far : Progress
  pub line : IsLineRun s far
  pub is : o ≡ outcome_of s far.call_records far.rounds
