-- What a rack stands for.
use Rattle.std.specs.Prelude.{◌≡◌, ℕ, ◌+◌, ◌-◌, ◌<◌, ◌≤◌, cond, List, [], length, drop, slice_index_or}
use Rattle.usb_machine.specs.History.{Machine}
use Rattle.usb_machine.specs.Fresh.{Known}
use Rattle.usb_turn.specs.Rows.{part}
use Rattle.usb_anchor.specs.declared.log.LogRow.{LogRow}
use Rattle.usb_anchor.specs.Log.{Size, IsLog}
use Rattle.usb_anchor.specs.Core.{size_of}
use Rattle.usb_anchors.specs.Host.{rejects_by}
use Rattle.usb_anchors.specs.declared.rack.Rack.{Rack}
use Rattle.usb_anchors.specs.declared.rack.Plan.{Plan}

abbrev pub by_of : LogRow → ℕ
by_of x = x.by

-- the last row
abbrev pub lasts : List LogRow → List LogRow
lasts rows = drop (length rows - 1) rows

-- the row that the last call wrote, where it wrote one
abbrev pub newest_of : {H P U : Type 0} → Rack H P U → List LogRow
newest_of r = cond r.grew (lasts r.core.rows) []

-- how many anchors, URBs and callers there are
abbrev pub sized : {H P : Type 0} → Plan H P → Size
sized plan = record { anchors = plan.anchors; urbs = plan.urbs; callers = length plan.calls.value.items }

-- the anchors are few enough for the rejects that one pass may hold, and their URBs are the host's
pub record Fits (anchors urbs : ℕ) (g : Machine) : Type 0 where
  pub few : anchors ≤ 255
  pub inside : urbs ≤ length g.layout.homes

-- the core's log is these rows, each caller has so many calls left as its rows leave of those that it may make, and the pass
-- is one of the plan's host. The pass's own entries are the rejects of the log, in order
pub record Stands {H P U : Type 0} (machine : H → Machine) (is_of : H → P → Type 0) (known : P → Known) (r : Rack H P U) (rows : List LogRow) : Type 0 where
  pub rows_are : r.core.rows ≡ rows
  pub legal : IsLog (sized r.plan) rows r.core.victims
  pub size : size_of r.core ≡ sized r.plan
  pub left : (i : ℕ) → i < length r.plan.calls.value.items → slice_index_or r.core.left i 0 + length (part by_of i rows) ≡ slice_index_or r.plan.calls.value.items i 0
  pub host : is_of r.plan.host.value r.pass
  pub number : (known r.pass).number ≡ (known r.plan.first.value).number
  pub rejects : (known r.pass).mine ≡ rejects_by (known r.plan.first.value).number r.plan.urbs rows
  pub room : r.plan.urbs ≤ r.raised.room
  pub fits : Fits r.plan.anchors r.plan.urbs (machine r.plan.host.value)
