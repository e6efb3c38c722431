-- What a handler sends again has its window in its buffer, and its home takes it as it took what came back.
use Rattle.std.proofs.Common.{ℕ, ◌≡◌, Bool, true, false, Option, Some, None, List, [], refl, sym, ap, ◌∙◌, subst, arith}
use Rattle.usb_types.specs.declared.errno.Errno.{Errno}
use Rattle.usb_types.specs.declared.errno.Code.{Code}
use Rattle.usb_types.specs.declared.urb.Action.{Action}
use Rattle.usb_types.specs.declared.urb.Action.TheVariants.{Rest, Again, Ask}
use Rattle.usb_machine.specs.declared.layout.EndKind.{EndKind}
use Rattle.usb_machine.specs.declared.layout.EndKind.TheVariants.{Control, Bulk, Interrupt, Iso}
use Rattle.usb_machine.specs.declared.layout.Shape.{Shape}
use Rattle.usb_machine.specs.declared.transfer.Transfer.{Transfer}
use Rattle.usb_machine.specs.Shapes.{HasWindow, Accepts, setup_fault, else_fault, shape_fault}
use Rattle.usb_xfer.specs.Direction.{Direction, In, Out, ControlIn, ControlOut, direction_of, setup_in}
use Rattle.usb_xfer.specs.Replies.{Reply, Ask as Asked}
use Rattle.usb_xfer.specs.Moved.{moved, question_by, question_of}
use Rattle.usb_xfer.proofs.Windows.{moved_window}
use Rattle.usb_device.specs.Laws.{sets_halt}
use Rattle.usb_class.specs.Handler.{action_of, goes_again, window_by}
use Rattle.usb_class.proofs.Facts.{again_packets, window_kept}
use Rattle.usb_scene.specs.declared.scene.Scene.{Scene}
use Rattle.usb_prepare.specs.Ends.{shape_at}
use Rattle.usb_prepare.specs.Layout.{home}
use Rattle.usb_class.specs.declared.owner.Owner.{Owner}
use Rattle.usb_trace.specs.Plan.{owner_of}
use Rattle.usb_trace.specs.Run.{resent_as}
use Rattle.usb_class.specs.Handlers.{action_by}
use Rattle.usb_trace.specs.Devices.{IsBare, IsApt}
use Rattle.usb_trace.proofs.Moves.{moved_same}

-- without a setup packet an endpoint that takes one length takes every length
bare_fits : (kind : EndKind) (len more : ℕ) (other : Option Errno) → else_fault (setup_fault kind None len) other ≡ None → else_fault (setup_fault kind None more) other ≡ None
bare_fits Control len more other fits = cc
bare_fits Bulk len more other fits = fits
bare_fits Interrupt len more other fits = fits
bare_fits Iso len more other fits = fits

-- no action touches the setup packet
pub resent_setup : (o : Option Owner) (status : Code) (t : Transfer) → (resent_as o status t).setup ≡ t.setup
resent_setup o status t = go (action_by o true status t)
  where
    go : (action : Action) → (window_by action t).setup ≡ t.setup
    go Rest = refl
    go Ask = refl
    go (Again from len) = refl

module _ (shape : Shape) (start t : Transfer) (status : Code) (takes : shape_fault shape start ≡ None) (setup : t.setup ≡ start.setup) where
  -- the same length
  same_takes : (r : Transfer) → r.setup ≡ t.setup → r.len ≡ start.len → shape_fault shape r ≡ None
  same_takes r is long = (λ i. fault ((is ∙ setup) i) (long i)) ∙ takes
    where
      fault : Option (List ℕ) → ℕ → Option Errno
      fault packet len = shape_fault shape record start { setup = packet; len = len }

  -- another length, without a setup packet
  bare_takes : (r : Transfer) → r.setup ≡ t.setup → start.setup ≡ None → shape_fault shape r ≡ None
  bare_takes r is none = ap fault (is ∙ (setup ∙ none)) ∙ bare_fits shape.kind start.len r.len _ (ap with_start (sym none) ∙ takes)
    where
      fault : Option (List ℕ) → Option Errno
      fault packet = shape_fault shape record r { setup = packet }

      with_start : Option (List ℕ) → Option Errno
      with_start packet = shape_fault shape record start { setup = packet }

-- what is sent again has a window, and an endpoint that took what was sent takes it
pub resent_fits : (o : Option Owner) (shape : Shape) (start t : Transfer) (status : Code) → shape_fault shape start ≡ None → IsBare o start.setup → HasWindow t → t.setup ≡ start.setup
    → t.len ≡ start.len → HasWindow (resent_as o status t) × (shape_fault shape (resent_as o status t) ≡ None)
resent_fits None shape start t status takes bare has setup len =
    (record { window = has.window; buffer = has.buffer; within = omega arith }, same_takes shape start t status takes setup (resent_as None status t) refl len)
resent_fits (Some o) shape start t status takes bare has setup len = (window_kept o.driver o.role status t has, go (action_of o.driver o.role status t) refl)
  where
    go : (action : Action) → action_of o.driver o.role status t ≡ action → shape_fault shape (window_by action t) ≡ None
    go Rest e = same_takes shape start t status takes setup (window_by Rest t) refl len
    go Ask e = same_takes shape start t status takes setup (window_by Ask t) refl len
    go (Again from size) e = bare_takes shape start t status takes setup (window_by (Again from size) t) refl (bare (again_packets o.driver o.role status t from size e))

-- the same of what came back of a transfer that was sent
pub moved_fits : (o : Option Owner) (home : Option Shape) (shape : Shape) (start : Transfer) (replies : List Reply) (status : Code) → Accepts home start → IsBare o start.setup → HasWindow start
    → HasWindow (resent_as o status (moved shape start replies)) × Accepts home (resent_as o status (moved shape start replies))
moved_fits o None shape start replies status takes bare has = absurd takes
moved_fits o (Some at) shape start replies status takes bare has = let same = moved_same shape start replies in
    resent_fits o at start (moved shape start replies) status takes bare (moved_window shape start replies has) same.setup same.len

-- where a handler goes on, its action is the one that says what is sent again
pub resent_action : (o : Option Owner) (may : Bool) (status : Code) (t : Transfer) → goes_again (action_by o may status t) ≡ true → action_by o may status t ≡ action_by o true status t
resent_action None true status t is = refl
resent_action None false status t is = cc
resent_action (Some o) may status t is = refl

-- whether a transfer halts an endpoint its setup packet says alone
halts_by : (d : Direction) (max : ℕ) (t r : Transfer) → r.setup ≡ t.setup → sets_halt (question_by d max r) ≡ sets_halt (question_by d max t)
halts_by In max t r same = refl
halts_by Out max t r same = refl
halts_by ControlIn max t r same = ap (λ (packet : Option (List ℕ)). sets_halt (Asked (setup_in packet) [])) same
halts_by ControlOut max t r same = ap (λ (packet : Option (List ℕ)). sets_halt (Asked (setup_in packet) [])) same

pub same_halt : (shape : Shape) (t r : Transfer) → r.setup ≡ t.setup → sets_halt (question_of shape r) ≡ sets_halt (question_of shape t)
same_halt shape t r same = ap (λ d. sets_halt (question_by d shape.max r)) (ap (λ (packet : Option (List ℕ)). direction_of shape record t { setup = packet }) same)
    ∙ halts_by (direction_of shape t) shape.max t r same

-- an URB that may have a transfer may have what is sent again of it
pub resent_apt : (s : Scene) (u : ℕ) (start : Transfer) (replies : List Reply) (status : Code) → IsApt s u start
    → IsApt s u (resent_as (owner_of s u) status (moved (shape_at s (home s u)) start replies))
resent_apt s u start replies status apt =
    let shape : Shape = shape_at s (home s u) in
    let again : Transfer = resent_as (owner_of s u) status (moved shape start replies) in
    let same : again.setup ≡ start.setup = resent_setup (owner_of s u) status (moved shape start replies) ∙ (moved_same shape start replies).setup in
    record {
      near = apt.near;
      asked = apt.asked;
      tame = λ e. same_halt shape start again same ∙ apt.tame e;
      bare = subst (IsBare (owner_of s u)) (sym same) apt.bare;
    }
