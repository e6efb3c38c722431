-- The replies that have moved the first pending transfers so far, before a turn and after it.
use Rattle.std.specs.Prelude.{ℕ, ◌≡◌, ◌<◌, ◌≤◌, ◌==◌, if◌then◌else◌, Bool, true, List, [], ◌∷◌, ◌++◌, length, slice_get, Option, Some, None}
use Rattle.usb_types.specs.declared.urb.UrbId.{UrbId}
use Rattle.usb_types.specs.declared.errno.Code.{Code}
use Rattle.usb_machine.specs.declared.transfer.Transfer.{Transfer}
use Rattle.usb_machine.specs.declared.layout.Shape.{Shape}
use Rattle.usb_machine.specs.declared.host_answers.Look.{Look}
use Rattle.usb_xfer.specs.Replies.{Question, Reply}
use Rattle.usb_xfer.specs.Moved.{IsOpen}
use Rattle.usb_serve.specs.declared.controller.Held.{Held}
use Rattle.usb_serve.specs.declared.controller.EndRow.{EndRow}
use Rattle.usb_serve.specs.Knows.{Knows}
use Rattle.usb_serve.specs.Held.{Serving, IsHeld}
use Rattle.usb_serve.specs.Serving.{PassesEnd, Passes, Ends, skips, waits, late, none, end}
use Rattle.usb_serve.specs.Turn.{Turned, marked, ended, idle}

-- the transfer is as it was taken, moved by just these replies; and where that is asked they have not ended it
pub record IsMovedBy (k : Knows) (shape : Shape) (h : Held) (replies : List Reply) (open_asked : Type 0) : Type 0 where
  pub held : IsHeld k shape h
  pub is : held.before ≡ replies
  pub open_so : open_asked → IsOpen shape held.start held.before

-- per endpoint, these replies have moved the first pending transfer, and where none is pending there are none. At some endpoints
-- that look clean they have not ended it
pub record AreSoFar (k : Knows) (opens : ℕ → Type 0) (so : ℕ → List Reply) (ends : List EndRow) : Type 0 where
  pub first : (e : ℕ) (row : EndRow) (h : Held) (others : List Held) → slice_get ends e ≡ Some row → row.held.items ≡ h ∷ others → IsMovedBy k row.shape h (so e) (opens e × (row.clean ≡ true))
  pub nothing : (e : ℕ) (row : EndRow) → slice_get ends e ≡ Some row → row.held.items ≡ [] → so e ≡ []

-- per endpoint, the replies so far to the first pending transfer
abbrev pub IsSoFar : Knows → (ℕ → List Reply) → List EndRow → Type 0
IsSoFar k so ends = AreSoFar k (λ e. ⊥) so ends

-- the replies go on: what looks clean was open from endpoint e on, and is then from endpoint d on
abbrev pub GoesOn : Knows → List EndRow → ℕ → Knows → List EndRow → ℕ → (ℕ → List Reply) → (ℕ → List Reply) → Type 0
GoesOn old before e new after d so now = AreSoFar old (λ f. e ≤ f) so before → AreSoFar new (λ f. d ≤ f) now after

-- with these replies at endpoint e
abbrev pub with_replies : ℕ → List Reply → (ℕ → List Reply) → ℕ → List Reply
with_replies e replies so d = if d == e then replies else so d

-- and where the URB at a place of endpoint e was given back: the one after the first was not moved
abbrev pub without_place : ℕ → ℕ → (ℕ → List Reply) → ℕ → List Reply
without_place e place so d = if place == 0 then with_replies e [] so d else so d

module _ {S D : Type 0} (finishes : S → UrbId → Code → Bool → S → Type 0) (replies : D → ℕ → Question → Reply → D → Type 0) (items_used : D → ℕ) where
  -- endpoint e was gone through: the replies to its first transfer went on
  abbrev pub after_end : (e : ℕ) (x : Serving S D) (changed : Bool) (y : Serving S D) → PassesEnd finishes replies items_used e x changed y → (ℕ → List Reply) → ℕ → List Reply
  after_end e x _ _ (skips row at skipped) so = so
  after_end e x _ _ (waits v) so = with_replies e (so e ++ v.more) so
  after_end e x _ _ (late code s v f) so = with_replies e (so e ++ v.more) so

  -- and so were the endpoints below the number
  abbrev pub after_below : (x : Serving S D) (n : ℕ) (changed : Bool) (y : Serving S D) → Passes finishes replies items_used x n changed y → (ℕ → List Reply) → ℕ → List Reply
  after_below x _ _ _ Passes.none so = so
  after_below x _ _ _ (Passes.end e b c m y below more) so = after_end e m c y more (after_below x e b m below so)

  -- what serving an endpoint did, by what came back, and what holds of the replies before and after
  abbrev pub ServesEnd : {G : Type 0} → (S → UrbId → Transfer → G → S → Type 0) → ((ℕ → List Reply) → (ℕ → List Reply) → Type 0) → ℕ → Serving S D → Option G → Bool → Serving S D → Type 0
  ServesEnd gives holds e x None changed y = (p : PassesEnd finishes replies items_used e x changed y) × ((so : ℕ → List Reply) → holds so (after_end e x changed y p so))
  ServesEnd gives holds e x (Some given) changed y = Ends finishes gives replies e x given y × (changed ≡ true) × ((so : ℕ → List Reply) → holds so (with_replies e [] so))

  -- the endpoints below n were gone through, up to one whose URB came back
  pub record GivesEnded {G : Type 0} (gives : S → UrbId → Transfer → G → S → Type 0) (n : ℕ) (x : Serving S D) (given : G) (y : Serving S D) : Type 0 where
    pub place : ℕ
    pub moved : Bool
    pub middle : Serving S D
    pub near : place < n
    pub passes : Passes finishes replies items_used x place moved middle
    pub ends : Ends finishes gives replies place middle given y

  -- what serving the endpoints below n did, likewise
  abbrev pub ServesAll : {G : Type 0} → (S → UrbId → Transfer → G → S → Type 0) → ((ℕ → List Reply) → (ℕ → List Reply) → Type 0) → ℕ → Serving S D → Option G → Bool → Serving S D → Type 0
  ServesAll gives holds n x None changed y = (p : Passes finishes replies items_used x n changed y) × ((so : ℕ → List Reply) → holds so (after_below x n changed y p so))
  ServesAll gives holds n x (Some given) changed y = (g : GivesEnded gives n x given y) × (changed ≡ true) × ((so : ℕ → List Reply) → holds so (with_replies g.place [] (after_below x g.place g.moved g.middle g.passes so)))

module _ {S D G : Type 0} (knows : S → Knows) (takes : S → ℕ → Option (UrbId × Transfer) → S → Type 0) (looks : S → UrbId → Look → S → Type 0) (finishes : S → UrbId → Code → Bool → S → Type 0) (gives : S → UrbId → Transfer → G → S → Type 0)
    (replies : D → ℕ → Question → Reply → D → Type 0) (items_used : D → ℕ) (x : Serving S D) where
  -- the replies so far after a turn, by what it did
  abbrev pub after_turn : (r : Option G) (changed : Bool) (y : Serving S D) → Turned knows takes looks finishes gives replies items_used x r changed y → (ℕ → List Reply) → ℕ → List Reply
  after_turn _ _ _ (marked taken e place t m l y given below holds near looked found gave) so = without_place e place so
  after_turn _ _ _ (ended taken e moved t l m y given below holds looked held near passes ends) so = with_replies e [] (after_below finishes replies items_used l e moved m passes so)
  after_turn _ _ _ (idle taken moved t l y below holds looked held passes) so = after_below finishes replies items_used l (length x.ends) moved y passes so

  -- the replies so far before any transfer is moved or given back: after the takes where an URB is marked, and else after the looks
  abbrev pub WhileSoFar : (r : Option G) (changed : Bool) (y : Serving S D) → Turned knows takes looks finishes gives replies items_used x r changed y → (ℕ → List Reply) → Type 0
  WhileSoFar _ _ _ (marked taken e place t m l y given below holds near looked found gave) so = IsSoFar (knows t.side) so t.ends
  WhileSoFar _ _ _ (ended taken e moved t l m y given below holds looked held near passes ends) so = IsSoFar (knows l.side) so l.ends
  WhileSoFar _ _ _ (idle taken moved t l y below holds looked held passes) so = IsSoFar (knows l.side) so l.ends

  -- a turn, with what holds of the replies so far before it, in it and after it
  abbrev pub TurnHolds : ((ℕ → List Reply) → Type 0) → ((ℕ → List Reply) → Type 0) → Option G → Bool → Serving S D → Type 0
  TurnHolds before after r changed y = (t : Turned knows takes looks finishes gives replies items_used x r changed y) × ((so : ℕ → List Reply) → before so → WhileSoFar r changed y t so × after (after_turn r changed y t so))

-- a turn, of which the replies so far are known: those before the turn are those while it takes and looks, and they go on by what it did
abbrev pub TurnedOn : {S D G : Type 0} → (S → Knows) → (S → ℕ → Option (UrbId × Transfer) → S → Type 0) → (S → UrbId → Look → S → Type 0) → (S → UrbId → Code → Bool → S → Type 0) → (S → UrbId → Transfer → G → S → Type 0)
    → (D → ℕ → Question → Reply → D → Type 0) → (D → ℕ) → Serving S D → Option G → Bool → Serving S D → Type 0
TurnedOn knows takes looks finishes gives replies items_used x r changed y =
    TurnHolds knows takes looks finishes gives replies items_used x (λ so. IsSoFar (knows x.side) so x.ends) (λ now. IsSoFar (knows y.side) now y.ends) r changed y
