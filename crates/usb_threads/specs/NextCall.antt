-- What a thread knows before its next call.
use Rattle.std.specs.Prelude.{ℕ, ◌≡◌, ◌<◌, ◌≤◌, ◌⊎◌, Bool, false, List, ◌∷◌, ◌++◌, map, slice_get, Some}
use Rattle.std.specs.List.{flat_map}
use Rattle.usb_machine.specs.declared.entry.TheConstants.{HUB}
use Rattle.usb_machine.specs.Parts.{held_of}
use Rattle.usb_machine.specs.Fresh.{Known}
use Rattle.usb_scene.specs.declared.scene.Scene.{Scene}
use Rattle.usb_scene.specs.declared.scene.SceneThread.{SceneThread}
use Rattle.usb_scene.specs.declared.scene.Call.{Call}
use Rattle.usb_scene.specs.WellFormed.{IsCall}
use Rattle.usb_prepare.specs.Layout.{urb_count}
use Rattle.usb_trace.specs.declared.rows.HostCall.TheVariants as host_call
use Rattle.usb_trace.specs.Plan.{host_call_of, pass_of}
use Rattle.usb_trace.specs.Run.{CallRecord, call_entries}
use Rattle.usb_threads.specs.Scripts.{HasMade, down_by}

-- the next call of thread i, whose pass made those before it, and whether the host is down by them
pub record MayCall (s : Scene) (p : Known) (i : ℕ) (c : Call) (down : Bool) : Type 0 where
  pub thread : SceneThread
  pub at : slice_get s.threads i ≡ Some thread
  pub before : List CallRecord
  pub later : List Call
  pub script : thread.calls ≡ map (λ d. d.call) before ++ c ∷ later
  pub made : HasMade s i (map (λ d. d.call) before) before
  pub number : p.number ≡ pass_of s i
  pub mine : p.mine ≡ flat_map (call_entries s) before
  pub found : down ≡ down_by s false before

-- what the next call may count on, by the thread's own calls: it holds few rejects, and each that it withdraws. Only the hub takes
-- the host down and up, and it has its flag on each URB exactly where the host is down
pub record MayGoOn (s : Scene) (p : Known) (c : Call) (down : Bool) : Type 0 where
  pub is : IsCall s c
  pub few : (u : ℕ) → (held_of p.mine u).rejects ≤ 100
  pub backed : (u : ℕ) → (host_call_of s c ≡ host_call.Unpoison u) ⊎ (host_call_of s c ≡ host_call.Unblock u) → 0 < (held_of p.mine u).rejects
  pub hub : (host_call_of s c ≡ host_call.Down) ⊎ (host_call_of s c ≡ host_call.Up) → p.number ≡ HUB
  pub flags : p.number ≡ HUB → (u : ℕ) → u < urb_count s → (held_of p.mine u).flags.down ≡ down
