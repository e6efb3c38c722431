-- The completion handlers of a scene, as far as its givebacks have come.
use Rattle.std.specs.Prelude.{ℕ, ◌≡◌, ◌-◌, false, List, [], length, map, slice_get, Option, Some, None, Ok, IfSome}
use Rattle.usb_types.specs.declared.errno.Errno.{Errno}
use Rattle.usb_types.specs.declared.errno.Code.{Code}
use Rattle.usb_types.specs.declared.errno.Code.TheVariants.{Zero, Fault}
use Rattle.usb_types.specs.declared.urb.UrbId.{UrbId}
use Rattle.usb_types.specs.declared.urb.Action.TheVariants as action
use Rattle.usb_machine.specs.declared.transfer.Transfer.{Transfer}
use Rattle.usb_bind.specs.declared.bound.Bound.{Bound}
use Rattle.usb_class.specs.declared.class_core.Core.{Core}
use Rattle.usb_class.specs.declared.handlers.HandledUrb.{HandledUrb}
use Rattle.usb_class.specs.declared.handlers.Handlers.{Handlers}
use Rattle.usb_class.specs.Core.{IsCore, is_asking}
use Rattle.usb_class.specs.Handlers.{Completes, Asks, Unasks}
use Rattle.usb_scene.specs.declared.scene.Scene.{Scene}
use Rattle.usb_prepare.specs.Below.{below}
use Rattle.usb_prepare.specs.Prepared.{bindings_of}
use Rattle.usb_prepare.specs.Layout.{urb_count}
use Rattle.usb_trace.specs.declared.rows.Outcome.{Outcome}
use Rattle.usb_trace.specs.declared.rows.Outcome.TheVariants as outcome
use Rattle.usb_trace.specs.Plan.{owner_of, again_of, origin_of, DriverQuestion, question_at}
use Rattle.usb_trace.specs.Run.{Giveback, times_back, done_at, is_out}

-- the core of each binding has seen what came back of its URBs, and knows whether its question is out
pub record ShowsCores (s : Scene) (rounds : List Giveback) (cores : List Core) : Type 0 where
  pub all : length cores ≡ length (bindings_of s)
  pub each : (k : ℕ) (core : Core) (b : Bound) → slice_get cores k ≡ Some core → slice_get (bindings_of s) k ≡ Some b → IsCore b.driver (origin_of s k) (done_at s k rounds) core
  pub out : (k : ℕ) (core : Core) → slice_get cores k ≡ Some core → is_asking core ≡ is_out s k rounds

-- URB u as its handler knows it: who has it, and how often the scene lets it go again since
abbrev pub handled_urb : Scene → List Giveback → ℕ → HandledUrb
handled_urb s rounds u = record { owner = owner_of s u; again = again_of s u - times_back u rounds }

-- the handlers have come as far as these givebacks of a scene
pub record AreHandlersOf (s : Scene) (rounds : List Giveback) (h : Handlers) : Type 0 where
  pub cores : ShowsCores s rounds h.cores.items
  pub all : length h.urbs.items ≡ urb_count s
  pub each : (u : ℕ) (row : HandledUrb) → slice_get h.urbs.items u ≡ Some row → row ≡ handled_urb s rounds u

-- before any came back
abbrev pub new_handled : Scene → ℕ → HandledUrb
new_handled s u = record { owner = owner_of s u; again = again_of s u }

-- the handlers that a scene begins with: no core has seen anything, and each URB goes again as often as the scene says
pub record AreNewHandlers (s : Scene) (h : Handlers) : Type 0 where
  pub all : length h.cores.items ≡ length (bindings_of s)
  pub each : (k : ℕ) (core : Core) (b : Bound) → slice_get h.cores.items k ≡ Some core → slice_get (bindings_of s) k ≡ Some b → IsCore b.driver (origin_of s k) [] core
  pub quiet : (k : ℕ) (core : Core) → slice_get h.cores.items k ≡ Some core → is_asking core ≡ false
  pub urbs : h.urbs.items ≡ map (new_handled s) (below (urb_count s))

abbrev pub asked_with : UrbId → Transfer → DriverQuestion
asked_with urb t = record { urb = urb.0; transfer = t }

-- what the handlers did with an URB that came back, by what its submits were answered: the transfer rests or goes again, or it
-- rests and the driver's question is asked, and taken back where that is refused
pub data Handles (old : Handlers) (urb : UrbId) (status : Code) (t : Transfer) : Option DriverQuestion → Outcome → Handlers → Type 0 where
  rested : (new : Handlers) → Completes old urb status t (Ok action.Rest) new → Handles old urb status t None outcome.Rest new
  again : (from len : ℕ) (code : Code) (new : Handlers) → Completes old urb status t (Ok (action.Again from len)) new → Handles old urb status t None (outcome.Again code) new
  silent : (mid new : Handlers) → Completes old urb status t (Ok action.Ask) mid → Asks mid None new → Handles old urb status t None outcome.Rest new
  asked : (mid new : Handlers) (v : UrbId) (q : Transfer) → Completes old urb status t (Ok action.Ask) mid → Asks mid (Some (v, q)) new → Handles old urb status t (Some (asked_with v q)) (outcome.Asked Zero) new
  refused : (mid asking new : Handlers) (v : UrbId) (q : Transfer) (errno : Errno) → Completes old urb status t (Ok action.Ask) mid → Asks mid (Some (v, q)) asking → Unasks asking q new
      → Handles old urb status t (Some (asked_with v q)) (outcome.Asked (Fault errno)) new

-- a question that is asked after URB u is the scene's
abbrev pub IsAskedAfter : Scene → ℕ → Option DriverQuestion → Type 0
IsAskedAfter s u question = IfSome question (λ a. question_at s u ≡ Some a)
