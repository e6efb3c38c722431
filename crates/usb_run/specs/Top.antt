-- What the program's call does, status by status.
use Rattle.std.specs.Prelude.{◌≡◌, ℕ, Bool, true, false, List, [], ◌++◌, Option, Some, Ok, Err}
use Rattle.std.specs.Io.KnownBytes.{Appends}
use Rattle.usb_types.specs.Causes.{Rose}
use Rattle.usb_scene.specs.declared.scene.Scene.{Scene}
use Rattle.usb_scene.specs.declared.cause.Cause.{Cause}
use Rattle.usb_scene.specs.Read.{scene_of}
use Rattle.usb_prepare.specs.Prepared.{found_of}
use Rattle.usb_trace.specs.Run.{CallRecord, Giveback, IsRun}
use Rattle.usb_line.specs.Line.{Progress, IsLineRun}
use Rattle.usb_trace.specs.Rows.{outcome_of}
use Rattle.usb_summary.specs.Summed.{IsSummed}
use Rattle.usb_report.specs.Listing.{list_text}
use Rattle.usb_report.specs.Report.{text_of}
use Rattle.usb_run.specs.declared.command.Command.{Command}
use Rattle.usb_run.specs.declared.command.Command.TheVariants as ask
use Rattle.usb_run.specs.declared.command.SceneCommand.{SceneCommand}
use Rattle.usb_run.specs.declared.command.SceneCommand.TheVariants as of_scene
use Rattle.usb_run.specs.declared.status.Status.{Status}
use Rattle.usb_run.specs.declared.status.Status.TheVariants as status
use Rattle.usb_run.specs.Words.{command_of}
use Rattle.usb_run.specs.Io.{ReadsAll, ReadsTooMany, WritesSome}

-- the list of what a scene's devices are found to be
abbrev pub list_of : Scene → List ℕ
list_of s = list_text s (found_of s)

-- the report of a run: what its devices are found to be, its calls with their answers, its givebacks, what its drivers report,
-- and what its endpoints received
abbrev pub report_of : Scene → List CallRecord → List Giveback → List ℕ
report_of s call_records rounds = text_of s (outcome_of s call_records rounds)

-- the text is the report of the scene's run in line order. That run is a run of the scene
pub record IsReport (s : Scene) (text : List ℕ) : Type 0 where
  pub far : Progress
  pub line : IsLineRun s far
  pub run : IsRun s far.history far.call_records far.rounds
  pub report : text ≡ report_of s far.call_records far.rounds

-- the report of the scene's run in line order was added
pub record AddsReport (s : Scene) (old new : List ℕ) : Type 0 where
  pub text : List ℕ
  pub reported : IsReport s text
  pub added : new ≡ old ++ text

-- whether a command reads a scene
abbrev pub reads : Command → Bool
reads (ask.Scene command) = true
reads (ask.Gen number) = false

-- a scene was read to its end
pub record ReadsScene (left_old left_new : Option (List ℕ)) (s : Scene) : Type 0 where
  pub bytes : List ℕ
  pub input : ReadsAll left_old left_new bytes
  pub is_scene : scene_of bytes ≡ Ok s

-- what was read to its end is no scene: this is its first bad line, and the first cause against it
pub record ReadsNoScene (left_old left_new : Option (List ℕ)) (line : ℕ) (cause : Cause) : Type 0 where
  pub bytes : List ℕ
  pub input : ReadsAll left_old left_new bytes
  pub no_scene : scene_of bytes ≡ Err (line, cause)

-- the text is what a command prints of a scene
abbrev pub IsSceneText : SceneCommand → Scene → List ℕ → Type 0
IsSceneText of_scene.Serial s text = IsReport s text
IsSceneText of_scene.List s text = text ≡ list_of s

-- the text is what a command prints: of the scene that was read, or of a number
abbrev pub IsTextOf : Command → Option (List ℕ) → Option (List ℕ) → List ℕ → Type 0
IsTextOf (ask.Scene command) left_old left_new text = (s : Scene) × ReadsScene left_old left_new s × IsSceneText command s text
IsTextOf (ask.Gen number) left_old left_new text = IsSummed number [] text

-- why no text was made: the source failed, what was read is too long or no scene, or memory ran out
abbrev pub IsStop : ℕ → ℕ → Option (List ℕ) → Option (List ℕ) → Status → Type 0
IsStop faults_old faults_new left_old left_new status.ReadFault = Rose faults_old faults_new
IsStop faults_old faults_new left_old left_new (status.BadScene line cause) = ReadsNoScene left_old left_new line cause
IsStop faults_old faults_new left_old left_new status.TooLong = (bytes : List ℕ) × ReadsTooMany left_old left_new bytes
IsStop faults_old faults_new left_old left_new status.Memory = Unit
IsStop faults_old faults_new left_old left_new _ = ⊥

-- what the words' command prints was made, and written whole
pub record Ran (words : List (List ℕ)) (left_old left_new held_old held_new : Option (List ℕ)) : Type 0 where
  pub command : Command
  pub asked : command_of words ≡ Some command
  pub text : List ℕ
  pub made : IsTextOf command left_old left_new text
  pub written : Appends held_old held_new text

-- what the words' command prints was made, and written in part
pub record RanInPart (words : List (List ℕ)) (left_old left_new held_old held_new : Option (List ℕ)) : Type 0 where
  pub command : Command
  pub asked : command_of words ≡ Some command
  pub text : List ℕ
  pub made : IsTextOf command left_old left_new text
  pub written : WritesSome held_old held_new text
