-- The endpoints are gone through in their order: the first pending transfer of each is moved, up to one that comes back.
use Rattle.std.specs.Prelude.{ℕ, suc, ◌≡◌, ◌<◌, ◌⊎◌, Bool, true, false, not, ◌==◌, ◌&&◌, ◌||◌, List, ◌∷◌, [], ◌++◌, length, slice_get, slice_set, Option, Some, None}
use Rattle.usb_types.specs.declared.urb.UrbId.{UrbId}
use Rattle.usb_types.specs.declared.errno.Code.{Code}
use Rattle.usb_machine.specs.declared.transfer.Transfer.{Transfer}
use Rattle.usb_machine.specs.declared.layout.Shape.{Shape}
use Rattle.usb_xfer.specs.Replies.{Question, Reply}
use Rattle.usb_xfer.specs.On.{Gave, RunsOn}
use Rattle.usb_xfer.specs.declared.packet.Step.{Step}
use Rattle.usb_xfer.specs.declared.packet.Step.TheVariants.{More, Waiting, Ended}
use Rattle.usb_serve.specs.declared.controller.Held.{Held}
use Rattle.usb_serve.specs.declared.controller.EndRow.{EndRow}
use Rattle.usb_serve.specs.declared.serve.MovedFirst.{MovedFirst}
use Rattle.usb_serve.specs.Held.{Serving, with_side, with_end, with_held}

-- the code that a transfer ended with
abbrev pub code_of : Step → Option Code
code_of (Ended c) = Some c
code_of More = None
code_of Waiting = None

-- the endpoint sleeps, has nothing pending, or its first URB isn't clean
abbrev pub IsSkipped : EndRow → Type 0
IsSkipped row = (row.asleep ≡ true) ⊎ (row.held.items ≡ []) ⊎ (row.clean ≡ false)

-- the first pending transfer of endpoint e, which is awake and clean, was moved as far as it goes: what the device replied, and how
-- the transfer is then
pub record Moves {D : Type 0} (replies : D → ℕ → Question → Reply → D → Type 0) (e : ℕ) (devices : List D) (ends : List EndRow) (step : Step) : Type 0 where
  pub row : EndRow
  pub at : slice_get ends e ≡ Some row
  pub awake : row.asleep ≡ false
  pub clean : row.clean ≡ true
  pub first : Held
  pub others : List Held
  pub held : row.held.items ≡ first ∷ others
  pub device : D
  pub asked : slice_get devices row.shape.device ≡ Some device
  pub more : List Reply
  pub now : Transfer
  pub after : D
  pub gave : Gave replies row.shape first.transfer device more now after
  pub runs : RunsOn row.shape first.transfer now more step

module _ {S D : Type 0} where
  -- the device has replied, and these are pending at endpoint e, which sleeps or not
  abbrev pub moved_on : ℕ → EndRow → D → List Held → Bool → Serving S D → Serving S D
  moved_on e row device hs asleep x = record x { devices = slice_set x.devices row.shape.device device; ends = slice_set x.ends e (record (with_held hs row) { asleep = asleep }) }

  -- the device has replied, and the others are pending at endpoint e
  abbrev pub left_with : ℕ → EndRow → D → List Held → Serving S D → Serving S D
  left_with e row device hs x = record x { devices = slice_set x.devices row.shape.device device; ends = slice_set x.ends e (with_held hs row) }

-- whether moving the transfer moved bytes, or used an item of the device's script
abbrev pub has_changed : ℕ → ℕ → ℕ → ℕ → Bool
has_changed actual now used after = not ((actual == now) && (used == after))

abbrev pub changes : {D : Type 0} {replies : D → ℕ → Question → Reply → D → Type 0} {e : ℕ} {devices : List D} {ends : List EndRow} {step : Step} → (D → ℕ) → Moves replies e devices ends step → Bool
changes items_used v = has_changed v.first.transfer.actual v.now.actual (items_used v.device) (items_used v.after)

-- nothing of endpoint e came back: it was skipped, its first transfer waits now, or that ended where a mark stood already. Whether
-- that changed something
pub data PassesEnd {S D : Type 0} (finishes : S → UrbId → Code → Bool → S → Type 0) (replies : D → ℕ → Question → Reply → D → Type 0) (items_used : D → ℕ) (e : ℕ) (x : Serving S D) : Bool → Serving S D → Type 0 where
  skips : (row : EndRow) → slice_get x.ends e ≡ Some row → IsSkipped row → PassesEnd finishes replies items_used e x false x
  waits : (v : Moves replies e x.devices x.ends Waiting)
      → PassesEnd finishes replies items_used e x (changes items_used v) (moved_on e v.row v.after (record v.first { transfer = v.now } ∷ v.others) true x)
  late : (code : Code) (s : S) (v : Moves replies e x.devices x.ends (Ended code)) → finishes x.side v.first.urb code false s
      → PassesEnd finishes replies items_used e x (changes items_used v) (moved_on e v.row v.after (record v.first { transfer = v.now } ∷ v.others) false (with_side s x))

-- nothing of the endpoints below the number came back. Whether that changed something
pub data Passes {S D : Type 0} (finishes : S → UrbId → Code → Bool → S → Type 0) (replies : D → ℕ → Question → Reply → D → Type 0) (items_used : D → ℕ) (x : Serving S D) : ℕ → Bool → Serving S D → Type 0 where
  none : Passes finishes replies items_used x 0 false x
  end : (e : ℕ) (b c : Bool) (m y : Serving S D) → Passes finishes replies items_used x e b m → PassesEnd finishes replies items_used e m c y → Passes finishes replies items_used x (suc e) (b || c) y

-- the first pending transfer of endpoint e ended, and its URB was given back
pub record Ends {S D G : Type 0} (finishes : S → UrbId → Code → Bool → S → Type 0) (gives : S → UrbId → Transfer → G → S → Type 0) (replies : D → ℕ → Question → Reply → D → Type 0) (e : ℕ) (x : Serving S D) (given : G) (y : Serving S D) : Type 0 where
  pub code : Code
  pub moves : Moves replies e x.devices x.ends (Ended code)
  pub middle : S
  pub finished : finishes x.side moves.first.urb code true middle
  pub gave : gives middle moves.first.urb moves.now given y.side
  pub is : y ≡ left_with e moves.row moves.after moves.others (with_side y.side x)

-- the URB at this place of endpoint e was given back
pub record GivesMarked {S D G : Type 0} (gives : S → UrbId → Transfer → G → S → Type 0) (e place : ℕ) (x : Serving S D) (given : G) (y : Serving S D) : Type 0 where
  pub row : EndRow
  pub at : slice_get x.ends e ≡ Some row
  pub before : List Held
  pub held : Held
  pub after : List Held
  pub parts : row.held.items ≡ before ++ held ∷ after
  pub long : length before ≡ place
  pub gave : gives x.side held.urb held.transfer given y.side
  pub is : y ≡ with_end e (with_held (before ++ after) row) (with_side y.side x)

-- a transfer of an endpoint of this shape was moved as far as it goes, and whether that changed something
pub record MovedOn {D : Type 0} (replies : D → ℕ → Question → Reply → D → Type 0) (items_used : D → ℕ) (shape : Shape) (t now : Transfer) (devices after : List D) (step : Step) (changed : Bool) : Type 0 where
  pub device : D
  pub asked : slice_get devices shape.device ≡ Some device
  pub more : List Reply
  pub then_is : D
  pub gave : Gave replies shape t device more now then_is
  pub runs : RunsOn shape t now more step
  pub devices_so : after ≡ slice_set devices shape.device then_is
  pub says : changed ≡ has_changed t.actual now.actual (items_used device) (items_used then_is)

-- the first pending transfer was taken out of a row, where its endpoint isn't skipped
abbrev pub RowFirst : EndRow → EndRow → Option Held → Type 0
RowFirst old new None = (new ≡ old) × IsSkipped old
RowFirst old new (Some h) = (old.asleep ≡ false) × (old.clean ≡ true) × (others : List Held) × (old.held.items ≡ h ∷ others) × (new ≡ with_held others old)

-- and of endpoint e, whose row this is
abbrev pub FirstOut : List EndRow → List EndRow → ℕ → EndRow → Option Held → Type 0
FirstOut old new e row None = (new ≡ old) × IsSkipped row
FirstOut old new e row (Some h) = (row.asleep ≡ false) × (row.clean ≡ true) × (others : List Held) × (row.held.items ≡ h ∷ others) × (new ≡ slice_set old e (with_held others row))

-- the first pending transfer of endpoint e was taken out and moved
pub record TakesOut {D : Type 0} (replies : D → ℕ → Question → Reply → D → Type 0) (items_used : D → ℕ) (e : ℕ) (devices after : List D) (ends rest : List EndRow) (m : MovedFirst) : Type 0 where
  pub moves : Moves replies e devices ends m.step
  pub held_so : m.held ≡ record moves.first { transfer = moves.now }
  pub devices_so : after ≡ slice_set devices moves.row.shape.device moves.after
  pub ends_so : rest ≡ slice_set ends e (with_held moves.others moves.row)
  pub says : m.changed ≡ changes items_used moves

-- or its endpoint is skipped
pub record Skips {D : Type 0} (e : ℕ) (devices after : List D) (ends rest : List EndRow) : Type 0 where
  pub row : EndRow
  pub at : slice_get ends e ≡ Some row
  pub skipped : IsSkipped row
  pub same_devices : after ≡ devices
  pub same_ends : rest ≡ ends

abbrev pub FirstMoves : {D : Type 0} → (D → ℕ → Question → Reply → D → Type 0) → (D → ℕ) → ℕ → List D → List D → List EndRow → List EndRow → Option MovedFirst → Type 0
FirstMoves replies items_used e devices after ends rest None = Skips e devices after ends rest
FirstMoves replies items_used e devices after ends rest (Some m) = TakesOut replies items_used e devices after ends rest m
