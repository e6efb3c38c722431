-- What anchors are at first.
use Rattle.std.specs.Prelude.{◌≡◌, ℕ, List, slice_index_or}
use Rattle.usb_turn.specs.Pass.{Pass}
use Rattle.usb_turn.specs.Shown.{first_of}
use Rattle.usb_turn.specs.declared.turns.Turns.{Turns}
use Rattle.usb_anchor.specs.declared.log.LogRow.{LogRow}
use Rattle.usb_anchors.specs.declared.anchors.AnchorPass.{AnchorPass}
use Rattle.usb_anchors.specs.declared.rack.Plan.{Plan}
use Rattle.usb_anchors.specs.declared.rack.Rack.{Rack}

-- the plan of the rack that lies in these turns
abbrev pub key_of : {H P U R K : Type 0} → Turns (Rack H P U) R K → Plan H P
key_of t = (first_of t).plan

-- the plan says these numbers, these calls, this host and this pass
pub record IsPlan {H P : Type 0} (plan : Plan H P) (anchors urbs : ℕ) (calls : List ℕ) (host : H) (pass : P) : Type 0 where
  pub anchors_are : plan.anchors ≡ anchors
  pub urbs_are : plan.urbs ≡ urbs
  pub calls_are : plan.calls.value.items ≡ calls
  pub host_is : plan.host.value ≡ host
  pub first_is : plan.first.value ≡ pass

abbrev pub turn_of : {V R U : Type 0} → AnchorPass V R U → Pass LogRow
turn_of p = p.turn

-- its caller may make as many calls as the list says at its number
abbrev pub HasLeft : {V R U : Type 0} → List ℕ → AnchorPass V R U → Type 0
HasLeft calls p = p.left ≡ slice_index_or calls p.turn.number 0
