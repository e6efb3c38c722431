-- What one call does to the pass of its caller.
use Rattle.std.specs.Prelude.{◌≡◌, ℕ, ◌+◌, ◌<◌, false, List, [], ◌∷◌, ◌++◌, length, map, slice_index_or, Option, Some, None}
use Rattle.atomic_table.specs.Seated.{TableId}
use Rattle.usb_types.specs.declared.urb.UrbId.{UrbId}
use Rattle.usb_turn.specs.Rows.{Begins}
use Rattle.usb_turn.specs.Pass.{Pass}
use Rattle.usb_anchor.specs.declared.log.LogRow.{LogRow}
use Rattle.usb_anchor.specs.declared.log.TheConstants.{OFF}
use Rattle.usb_anchor.specs.Log.{Size, IsLog, IsOn, list_of, named, row}
use Rattle.usb_anchors.specs.declared.rack.Plan.{Plan}

-- a caller's pass of these turns, which may still make this many calls
pub record IsCaller {H P : Type 0} (id : TableId) (plan : Plan H P) (p : Pass LogRow) (left : ℕ) : Type 0 where
  pub table : p.table ≡ id
  pub idle : p.has ≡ false
  pub number : p.number < length plan.calls.value.items
  pub left_is : left + length p.mine ≡ slice_index_or plan.calls.value.items p.number 0

-- the log that the pass has then seen ends with this row, which is the last of its own. It begins with what the pass had
-- seen before, and is one that the anchors may have: so the row has the answer that they give after the rows before it
pub record Told (g : Size) (p q : Pass LogRow) (x : LogRow) : Type 0 where
  pub before : List LogRow
  pub seen : q.seen ≡ before ++ x ∷ []
  pub begins : Begins before p.seen
  pub mine : q.mine ≡ p.mine ++ x ∷ []
  pub victims : List UrbId
  pub legal : IsLog g q.seen victims

-- the same of a call that takes a list whole: its victims are the list that the anchor had before the row, in this order
pub record Takes (g : Size) (p q : Pass LogRow) (x : LogRow) (anchor : ℕ) (order : List ℕ → List ℕ) (victims : List UrbId) : Type 0 where
  pub told : Told g p q x
  pub whole : victims ≡ map named (order (list_of told.before anchor))

-- the URB is on no anchor, in the log that the pass has then seen
pub record IsNowhere (g : Size) (p q : Pass LogRow) (u : ℕ) : Type 0 where
  pub begins : Begins q.seen p.seen
  pub mine : q.mine ≡ p.mine
  pub nowhere : (a : ℕ) → IsOn q.seen a u → ⊥

-- an URB was given back: the row of that, where it was on an anchor
abbrev pub Gives : Size → Pass LogRow → Pass LogRow → ℕ → Option ℕ → Type 0
Gives g p q u None = IsNowhere g p q u
Gives g p q u (Some a) = (from : ℕ) × Told g p q (row p.number OFF (Some a) (Some (named u)) None from 0)

-- the server's pass of these turns
pub record IsServer {H P : Type 0} (id : TableId) (plan : Plan H P) (p : Pass LogRow) : Type 0 where
  pub table : p.table ≡ id
  pub idle : p.has ≡ false
  pub number : p.number ≡ length plan.calls.value.items
