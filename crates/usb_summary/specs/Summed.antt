-- What is added of a number.
use Rattle.std.specs.Prelude.{ℕ, ◌≡◌, List, ◌++◌, map}
use Rattle.usb_generate.specs.Generator.{generated}
use Rattle.usb_generate.specs.Summary.{summary_of}
use Rattle.usb_trace.specs.Run.{Giveback, IsRun, moved_in}
use Rattle.usb_line.specs.Line.{Progress, IsLineRun}

-- the line of a number was added: what the history of its scene's run in line order counts. That run is a run of the scene
pub record IsSummed (number : ℕ) (old new : List ℕ) : Type 0 where
  pub far : Progress
  pub line : IsLineRun (generated number) far
  pub run : IsRun (generated number) far.history far.call_records far.rounds
  pub added : new ≡ old ++ summary_of number far.history (map (λ (r : Giveback). (moved_in (generated number) r).actual) far.rounds)
