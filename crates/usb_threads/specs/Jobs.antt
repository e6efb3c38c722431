-- The jobs of the threads, and their results.
use Rattle.std.specs.Prelude.{ℕ, ◌≡◌, ◌+◌, ◌<◌, List, [], length, map, slice_get, slice_index_or, Some, IfOk}
use Rattle.std.specs.List.{flat_map}
use Rattle.usb_machine.specs.Fresh.{Known, Begins, Looked}
use Rattle.usb_scene.specs.declared.scene.Scene.{Scene}
use Rattle.usb_scene.specs.declared.scene.SceneThread.{SceneThread}
use Rattle.usb_prepare.specs.Below.{below}
use Rattle.usb_trace.specs.declared.rows.CallMade.{CallMade}
use Rattle.usb_trace.specs.Plan.{machine_of, pass_of}
use Rattle.usb_trace.specs.Run.{CallRecord}
use Rattle.usb_trace.specs.Rows.{made_of}
use Rattle.usb_threads.specs.declared.worker.Job.{Job}
use Rattle.usb_threads.specs.declared.worker.Work.{Work}
use Rattle.usb_threads.specs.Passes.{IsReady}
use Rattle.usb_threads.specs.Scripts.{Worked}
use Rattle.usb_threads.specs.Calling.{IsNew, WorkedAs}

-- this holds of each item, by its place
abbrev pub Each : {X : Type 0} → (ℕ → X → Type 0) → List X → Type 0
Each {X} P xs = (m : ℕ) (x : X) → slice_get xs m ≡ Some x → P m x

module _ {S : Type 0} (of : S → Type 0) (known : S → Known) (s : Scene) where
  -- the seats of the threads, by their places
  pub record IsSeatFor (i : ℕ) (seat : S) : Type 0 where
    pub near : i < length s.threads
    pub here : of seat
    pub number : (known seat).number ≡ pass_of s i
    pub new : (known seat).mine ≡ []

  -- the m-th job is that of the thread that is the m-th from the end of n. Its seat knows what main had seen
  pub record IsJob (read : Known) (n m : ℕ) (job : Job S) : Type 0 where
    pub place : job.thread + m + 1 ≡ n
    pub here : of job.seat
    pub new : IsNew s job.thread (known job.seat)
    pub knows : Begins (known job.seat).seen read.seen

  -- what a job came to
  pub record HasWorkedOn (job : Job S) (work : Work S) : Type 0 where
    pub here : of work.seat
    pub worked : IfOk work.made (WorkedAs s job.thread (known job.seat) (known work.seat))

  pub record HaveWorked (jobs : List (Job S)) (works : List (Work S)) : Type 0 where
    pub count : length works ≡ length jobs
    pub each : (m : ℕ) (d : Job S) (e : Work S) → m < length jobs → HasWorkedOn (slice_index_or jobs m d) (slice_index_or works m e)

  -- the m-th result is that of the thread that is the m-th from the end of n
  pub record IsWork (read : Known) (n m : ℕ) (work : Work S) : Type 0 where
    pub thread : ℕ
    pub place : thread + m + 1 ≡ n
    pub here : of work.seat
    pub from : Known
    pub ready : IsReady s read (pass_of s thread) from
    pub worked : IfOk work.made (WorkedAs s thread from (known work.seat))

-- thread i has made these calls, and main has met its pass, which may have seen more since
pub record IsDone (s : Scene) (read main : Known) (i : ℕ) (call_records : List CallRecord) (last : Known) : Type 0 where
  pub from : Known
  pub thread : SceneThread
  pub at : slice_get s.threads i ≡ Some thread
  pub ready : IsReady s read (pass_of s i) from
  pub to : Known
  pub worked : Worked s i thread.calls from to call_records
  pub told : Begins main.seen to.seen
  pub ends : Looked (machine_of s) to last

-- the results of the first threads, in order, with the calls that each made
pub record Collected {S : Type 0} (of : S → Type 0) (known : S → Known) (s : Scene) (read main : Known) (seats : List S) (made : List CallMade) : Type 0 where
  pub works : ℕ → List CallRecord
  pub each : Each (λ i seat. of seat × IsDone s read main i (works i) (known seat)) seats
  pub kept : made ≡ map made_of (flat_map works (below (length seats)))
