-- What main promises: it submits the drivers' reads, it meets the threads' passes, and it closes.
use Rattle.std.specs.Prelude.{ℕ, suc, ◌≡◌, List, [], ◌++◌, length, Option, Some, None}
use Rattle.std.specs.List.{zip}
use Rattle.usb_types.specs.declared.errno.Code.{Code}
use Rattle.usb_machine.specs.declared.transfer.Transfer.{Transfer}
use Rattle.usb_machine.specs.declared.entry.Entry.{Entry}
use Rattle.usb_machine.specs.Shapes.{shape_fault}
use Rattle.usb_machine.specs.Fresh.{Known, Sound, Looked}
use Rattle.usb_scene.specs.declared.scene.Scene.{Scene}
use Rattle.usb_prepare.specs.Ends.{shape_at}
use Rattle.usb_prepare.specs.Layout.{urb_count, home}
use Rattle.usb_trace.specs.Plan.{machine_of, read_of, main_pass}
use Rattle.usb_trace.specs.Claims.{claimed_by, numbers_of}
use Rattle.usb_trace.specs.Run.{urbs_of, submit_of, closing}
use Rattle.usb_threads.specs.Passes.{WentOn}

-- main submits the read that a driver keeps with URB u, where its endpoint takes it, and is answered this
abbrev pub read_answered : Scene → ℕ → Option Transfer → Code → List Entry
read_answered s u None answer = []
read_answered s u (Some t) answer = submit_of (shape_fault (shape_at s (home s u)) t) (main_pass s) u t answer

-- these entries are the reads of the URBs below n, whatever was answered
pub data HasRead (s : Scene) : ℕ → List Entry → Type 0 where
  none : HasRead s 0 []
  one : (n : ℕ) (xs : List Entry) (answer : Code) → HasRead s n xs → HasRead s (suc n) (xs ++ read_answered s n (read_of s n) answer)

-- these entries kill each URB in rising number, and then see each quiet under a reject. What main has claimed, in the history that
-- it has seen, is what rested with each URB
pub record HasClosed (s : Scene) (seen xs : List Entry) : Type 0 where
  pub marks : List Code
  pub rests : List (Option Transfer)
  pub each : (length marks ≡ urb_count s) × (length rests ≡ urb_count s)
  pub entries : xs ≡ closing s marks (numbers_of rests)
  pub claims : claimed_by (main_pass s) seen ≡ zip (urbs_of s) rests

-- main's pass: first it submitted the reads, then it met the threads' passes, and last it closed
pub record IsMain (s : Scene) (read met last : Known) : Type 0 where
  pub number : read.number ≡ main_pass s
  pub sound : Sound (machine_of s) read
  pub reads : HasRead s (urb_count s) read.mine
  pub meets : Looked (machine_of s) read met
  pub more : List Entry
  pub went : WentOn (machine_of s) met last more
  pub closes : HasClosed s last.seen more
