-- What waits and calls do to the run's object.
use Rattle.std.specs.Prelude.{ℕ, ◌≡◌, ◌≢◌, ◌<◌, ◌++◌, true, List, ◌∷◌, length, map, Option}
use Rattle.usb_machine.specs.declared.entry.TheConstants.{SERVER, HUB}
use Rattle.usb_machine.specs.declared.transfer.Transfer.{Transfer}
use Rattle.usb_machine.specs.History.{state_of}
use Rattle.usb_machine.specs.Parts.{part_of, held_of}
use Rattle.usb_machine.specs.Calls.{claim_entries, unblock_entries}
use Rattle.usb_scene.specs.declared.scene.Scene.{Scene}
use Rattle.usb_scene.specs.declared.scene.Call.{Call}
use Rattle.usb_scene.specs.WellFormed.{IsWellFormed}
use Rattle.usb_trace.specs.declared.rows.HostCall.{HostCall}
use Rattle.usb_trace.specs.declared.rows.CallAnswer.{CallAnswer}
use Rattle.usb_trace.specs.declared.rows.CallMade.{CallMade}
use Rattle.usb_line.specs.declared.run.LineRun.{LineRun}
use Rattle.usb_trace.specs.Plan.{host_call_of, pass_of, main_pass, calls_of}
use Rattle.usb_prepare.specs.Below.{below}
use Rattle.usb_prepare.specs.Layout.{urb_count}
use Rattle.usb_trace.specs.Run.{CallRecord}
use Rattle.usb_line.specs.Line.{Progress, adds, Gives, StaysLoud, WaitsFor, ClaimsEach, is_quiet, killing, Makes, with_call_record, IsLine, Closes, IsLineRun}
use Rattle.usb_line.specs.Shows.{Shows}
use Rattle.usb_trace.specs.Rows.{made_of}
use Rattle.usb_line.specs.Steps.{passes_of, IsStopping}

-- turns left the URB quiet, and none but the last did
pub record TurnedUntil (s : Scene) (f : Progress) (u : ℕ) (run : LineRun) : Type 0 where
  pub before : Progress
  pub far : Progress
  pub loud : StaysLoud s u f before
  pub last : Gives s before far
  pub quiet : is_quiet (state_of far.history u) ≡ true
  pub shows : Shows s far run

-- the wait until the URB was quiet
pub record Waited (s : Scene) (f : Progress) (u : ℕ) (run : LineRun) : Type 0 where
  pub far : Progress
  pub waits : WaitsFor s u f far
  pub shows : Shows s far run

-- the pass may begin to kill the URB: both are there, and it holds few rejects on it
pub record MayKill (s : Scene) (f : Progress) (run : LineRun) (p u : ℕ) : Type 0 where
  pub good : IsWellFormed s
  pub shows : Shows s f run
  pub there : p < passes_of s
  pub other : p ≢ SERVER
  pub near : u < urb_count s
  pub room : (held_of (part_of f.history p) u).rejects < 255

pub record CanKill (run : LineRun) (p u : ℕ) : Type 0 where
  pub scene : Scene
  pub far : Progress
  pub may : MayKill scene far run p u

-- the URB was rejected, unlinked and waited for, and what rested with it was claimed
pub record Stopped (s : Scene) (f : Progress) (p u : ℕ) (rest : Option ℕ) (run : LineRun) : Type 0 where
  pub far : Progress
  pub waits : WaitsFor s u (killing p u f) far
  pub told : rest ≡ (state_of far.history u).rest
  pub shows : Shows s (adds far (claim_entries p u (state_of far.history u).rest)) run

-- and the reject was withdrawn
pub record Killed (s : Scene) (f : Progress) (p u : ℕ) (rest : Option ℕ) (run : LineRun) : Type 0 where
  pub far : Progress
  pub waits : WaitsFor s u (killing p u f) far
  pub told : rest ≡ (state_of far.history u).rest
  pub shows : Shows s (adds far (claim_entries p u (state_of far.history u).rest ++ unblock_entries p u)) run

-- call c of thread i is the next one of the line
pub record IsNext (s : Scene) (f : Progress) (i : ℕ) (c : Call) : Type 0 where
  pub in_line : IsLine s f
  pub near : i < length s.threads
  pub rest : List (ℕ × Call)
  pub all : map (λ d. (d.thread, d.call)) f.call_records ++ (i, c) ∷ rest ≡ calls_of s

-- this pass makes that call, which does this, and the object shows the run before it
pub record MayMake (s : Scene) (f : Progress) (i : ℕ) (c : Call) (run : LineRun) (p : ℕ) (host_call : HostCall) : Type 0 where
  pub good : IsWellFormed s
  pub next : IsNext s f i c
  pub shows : Shows s f run
  pub does : host_call_of s c ≡ host_call
  pub pass : pass_of s i ≡ p

pub record CanMake (run : LineRun) (p : ℕ) (host_call : HostCall) : Type 0 where
  pub scene : Scene
  pub far : Progress
  pub thread : ℕ
  pub call : Call
  pub may : MayMake scene far thread call run p host_call

-- what the call did, with its answer
pub record Made (s : Scene) (f : Progress) (i : ℕ) (c : Call) (answer : CallAnswer) (run : LineRun) : Type 0 where
  pub did : CallRecord
  pub far : Progress
  pub makes : Makes s f i c did far
  pub told : did.answer ≡ answer
  pub shows : Shows s (with_call_record s far did) run

-- all URBs are stopping, and the hub holds its flag on each
pub record IsShut (s : Scene) (f : Progress) (run : LineRun) : Type 0 where
  pub good : IsWellFormed s
  pub shows : Shows s f run
  pub stops : (u : ℕ) → u < urb_count s → IsStopping (state_of f.history u)
  pub flagged : (u : ℕ) → u < urb_count s → (held_of (part_of f.history HUB) u).flags.down ≡ true

pub record CanClaim (run : LineRun) (n : ℕ) : Type 0 where
  pub scene : Scene
  pub far : Progress
  pub is : IsShut scene far run
  pub all : n ≡ urb_count scene

-- the hub waited for each of the first n URBs, and claimed what rested with it
pub record Claimed (s : Scene) (f : Progress) (n : ℕ) (run : LineRun) : Type 0 where
  pub rests : List (Option Transfer)
  pub far : Progress
  pub claims : ClaimsEach s HUB f (below n) rests far
  pub is : IsShut s far run

-- the object shows the run before this call
pub record MayBeMade (s : Scene) (f : Progress) (i : ℕ) (c : Call) (run : LineRun) : Type 0 where
  pub good : IsWellFormed s
  pub next : IsNext s f i c
  pub shows : Shows s f run

pub record CanBeMade (s : Scene) (i : ℕ) (c : Call) (run : LineRun) : Type 0 where
  pub far : Progress
  pub may : MayBeMade s far i c run

-- these calls of the scene were made, and the object shows how far the run is then
pub record IsUnderway (s : Scene) (calls : List (ℕ × Call)) (run : LineRun) (made : List CallMade) : Type 0 where
  pub far : Progress
  pub in_line : IsLine s far
  pub all : map (λ d. (d.thread, d.call)) far.call_records ≡ calls
  pub told : made ≡ map made_of far.call_records
  pub shows : Shows s far run

-- all calls of the scene were made
pub record IsCalled (s : Scene) (f : Progress) (run : LineRun) : Type 0 where
  pub good : IsWellFormed s
  pub in_line : IsLine s f
  pub all : map (λ d. (d.thread, d.call)) f.call_records ≡ calls_of s
  pub shows : Shows s f run

pub record CanEnd (run : LineRun) (p : ℕ) : Type 0 where
  pub scene : Scene
  pub far : Progress
  pub is : IsCalled scene far run
  pub pass : p ≡ main_pass scene

-- main may kill so many URBs
pub record CanClose (run : LineRun) (p n : ℕ) : Type 0 where
  pub scene : Scene
  pub far : Progress
  pub is : IsCalled scene far run
  pub pass : p ≡ main_pass scene
  pub all : n ≡ urb_count scene

-- main killed the first n URBs
pub record KilledEach (s : Scene) (f : Progress) (n : ℕ) (run : LineRun) : Type 0 where
  pub far : Progress
  pub closes : Closes s f (below n) far
  pub shows : Shows s far run

-- main closed the run
pub record Closed (s : Scene) (f : Progress) (run : LineRun) : Type 0 where
  pub far : Progress
  pub line : IsLineRun s far
  pub same : far.call_records ≡ f.call_records
  pub shows : Shows s far run
