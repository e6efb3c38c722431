-- A call of a thread, and what the calls of a script came to.
use Rattle.std.specs.Prelude.{ℕ, ◌≡◌, ◌<◌, Bool, List, [], ◌++◌, length, map, slice_get, Some}
use Rattle.usb_machine.specs.Fresh.{Known, Sound}
use Rattle.usb_scene.specs.declared.scene.Scene.{Scene}
use Rattle.usb_scene.specs.declared.scene.SceneThread.{SceneThread}
use Rattle.usb_scene.specs.declared.scene.Call.{Call}
use Rattle.usb_trace.specs.declared.rows.CallAnswer.{CallAnswer}
use Rattle.usb_trace.specs.declared.rows.CallMade.{CallMade}
use Rattle.usb_trace.specs.Plan.{machine_of, pass_of}
use Rattle.usb_trace.specs.Claims.{claimed_by}
use Rattle.usb_trace.specs.Run.{CallRecord, IsMade, call_entries, claims_in}
use Rattle.usb_trace.specs.Rows.{made_of}
use Rattle.usb_threads.specs.Passes.{WentOn}
use Rattle.usb_threads.specs.Scripts.{Worked}

-- the pass of thread i, which made nothing yet
pub record IsNew (s : Scene) (i : ℕ) (p : Known) : Type 0 where
  pub near : i < length s.threads
  pub number : p.number ≡ pass_of s i
  pub new : p.mine ≡ []
  pub sound : Sound (machine_of s) p

-- thread i made this call and was answered this. Its pass went on with the entries of the call, and claimed what the call says
pub record HasCalled (s : Scene) (p q : Known) (i : ℕ) (c : Call) (down : Bool) (answer : CallAnswer) : Type 0 where
  pub did : CallRecord
  pub thread : did.thread ≡ i
  pub call : did.call ≡ c
  pub told : did.answer ≡ answer
  pub found : did.down ≡ down
  pub made : IsMade s did
  pub went : WentOn (machine_of s) p q (call_entries s did)
  pub claims : claimed_by p.number q.seen ≡ claimed_by p.number p.seen ++ claims_in s did

-- thread i made the calls of a script, and this is kept of them
pub record WorkedSo (s : Scene) (i : ℕ) (script : List Call) (from to : Known) (made : List CallMade) : Type 0 where
  pub call_records : List CallRecord
  pub worked : Worked s i script from to call_records
  pub kept : made ≡ map made_of call_records

-- the script is that of the thread
pub record WorkedAs (s : Scene) (i : ℕ) (from to : Known) (made : List CallMade) : Type 0 where
  pub thread : SceneThread
  pub at : slice_get s.threads i ≡ Some thread
  pub so : WorkedSo s i thread.calls from to made
