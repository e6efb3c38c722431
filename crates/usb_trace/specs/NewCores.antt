-- Which drivers have the URBs of a scene, and the cores that a run begins with.
use Rattle.std.specs.Prelude.{ℕ, ◌≡◌, ◌+◌, false, List, [], length, map, take, count_by, slice_get, unwrap_or, Option, Some, None}
use Rattle.usb_types.specs.declared.urb.UrbId.{UrbId}
use Rattle.usb_types.specs.declared.urb.Role.TheVariants.{Ctl}
use Rattle.usb_bind.specs.declared.bound.Bound.{Bound}
use Rattle.usb_bind.specs.Board.{urb_of_role}
use Rattle.usb_class.specs.declared.class_core.Core.{Core}
use Rattle.usb_class.specs.declared.owner.Owner.{Owner}
use Rattle.usb_class.specs.Origin.{Origin}
use Rattle.usb_class.specs.Core.{IsCore, is_asking}
use Rattle.usb_scene.specs.declared.scene.Scene.{Scene}
use Rattle.usb_prepare.specs.Below.{below}
use Rattle.usb_prepare.specs.Layout.{urb_count}
use Rattle.usb_trace.specs.Plan.{is_numbered_by, owner_of}

-- the owner of each URB of a scene, by its number
abbrev pub owners_of : Scene → List (Option Owner)
owners_of s = map (owner_of s) (below (urb_count s))

-- the number of the transfer that is a driver's own with an URB, by the owners of all
abbrev pub number_among : List (Option Owner) → Option UrbId → ℕ
number_among owners None = 0
number_among owners (Some urb) = 2000000 + count_by is_numbered_by (take urb.0 owners)

-- what the core of a binding begins with
abbrev pub origin_among : List (Option Owner) → Bound → Option (List ℕ) → Origin
origin_among owners b id = record { number = number_among owners (urb_of_role b Ctl); interface = b.interface; id = unwrap_or id [] }

-- a core that has seen nothing
pub record IsNewCore (origin : Origin) (b : Bound) (core : Core) : Type 0 where
  pub is : IsCore b.driver origin [] core
  pub quiet : is_asking core ≡ false

-- one for each of these bindings
pub record AreNewCores (owners : List (Option Owner)) (bindings : List Bound) (ids : List (List ℕ)) (cores : List Core) : Type 0 where
  pub count : length cores ≡ length bindings
  pub each : (k : ℕ) (b : Bound) (core : Core) → slice_get bindings k ≡ Some b → slice_get cores k ≡ Some core → IsNewCore (origin_among owners b (slice_get ids k)) b core
