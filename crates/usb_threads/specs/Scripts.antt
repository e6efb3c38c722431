-- What a thread promises: it makes the calls of its script.
use Rattle.std.specs.Prelude.{ℕ, ◌≡◌, Bool, false, List, [], ◌∷◌, map, slice_get, Some, All, Contains}
use Rattle.std.specs.List.{flat_map}
use Rattle.usb_machine.specs.Fresh.{Known, Begins, Looked}
use Rattle.usb_scene.specs.declared.scene.Scene.{Scene}
use Rattle.usb_scene.specs.declared.scene.SceneThread.{SceneThread}
use Rattle.usb_scene.specs.declared.scene.Call.{Call}
use Rattle.usb_trace.specs.Plan.{machine_of, host_call_of, pass_of}
use Rattle.usb_trace.specs.Claims.{claimed_by}
use Rattle.usb_trace.specs.Run.{CallRecord, call_entries, claims_in, IsMade, down_after, AreFound}
use Rattle.usb_threads.specs.Passes.{WentOn, IsReady}

-- whether the host is down after these calls
abbrev pub down_by : Scene → Bool → List CallRecord → Bool
down_by s b [] = b
down_by s b (d ∷ ds) = down_by s (down_after b (host_call_of s d.call) d.answer) ds

-- thread i made the calls of a script, each once and in order. Each has an answer of its kind, and found the host as the calls
-- before had left it
pub record HasMade (s : Scene) (i : ℕ) (script : List Call) (call_records : List CallRecord) : Type 0 where
  pub calls : map (λ d. d.call) call_records ≡ script
  pub whose : All (λ d. d.thread ≡ i) call_records
  pub told : All (IsMade s) call_records
  pub downs : AreFound s false call_records

-- and its pass made the entries of these calls, and no others. What it has claimed, in the history that it has seen, is what the
-- calls say
pub record Worked (s : Scene) (i : ℕ) (script : List Call) (from to : Known) (call_records : List CallRecord) : Type 0 where
  pub went : WentOn (machine_of s) from to (flat_map (call_entries s) call_records)
  pub made : HasMade s i script call_records
  pub claims : claimed_by (pass_of s i) to.seen ≡ flat_map (claims_in s) call_records

-- thread i: its pass met main before its script, it made its calls, and main met its pass before the close. Meeting main its pass
-- may have seen more, and so it came to the close
pub record IsJoined (s : Scene) (passes : List Known) (read met : Known) (i : ℕ) (call_records : List CallRecord) : Type 0 where
  pub from : Known
  pub to : Known
  pub thread : SceneThread
  pub at : slice_get s.threads i ≡ Some thread
  pub ready : IsReady s read (pass_of s i) from
  pub worked : Worked s i thread.calls from to call_records
  pub told : Begins met.seen to.seen
  pub last : Known
  pub ends : Looked (machine_of s) to last
  pub closed : Contains passes last
