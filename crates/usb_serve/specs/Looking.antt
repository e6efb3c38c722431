-- The looks at the pending URBs, in endpoint order and pending order, up to the first that is marked.
use Rattle.std.specs.Prelude.{ℕ, suc, ◌≡◌, ◌<◌, Bool, true, false, List, ◌∷◌, [], ◌++◌, take, slice_get, Option, Some, None}
use Rattle.usb_types.specs.declared.urb.UrbId.{UrbId}
use Rattle.usb_types.specs.declared.urb.Why.{Why}
use Rattle.usb_machine.specs.declared.host_answers.Look.{Look}
use Rattle.usb_machine.specs.declared.host_answers.Look.TheVariants.{Clean, Marked, MarkedSoon}
use Rattle.usb_serve.specs.declared.controller.Held.{Held}
use Rattle.usb_serve.specs.declared.controller.EndRow.{EndRow}
use Rattle.usb_serve.specs.Knows.{Knows, SamePending, Keeps, FinishesNone}
use Rattle.usb_serve.specs.Held.{Serving, with_side, with_end}

abbrev pub is_clean : Look → Bool
is_clean Clean = true
is_clean (Marked why) = false
is_clean MarkedSoon = false

abbrev pub has_reason : Look → Bool
has_reason Clean = false
has_reason (Marked why) = true
has_reason MarkedSoon = false

-- whether the first of the looks found no mark
abbrev pub first_clean : List Look → Bool
first_clean [] = false
first_clean (a ∷ answers) = is_clean a

-- what is pending stays, with what the side knows of it
pub record Stays (old new : Knows) : Type 0 where
  pub pending : SamePending old new
  pub keeps : Keeps old new
  pub none : FinishesNone old new
  pub room : old.may_give → new.may_give

-- these URBs were looked at one after another, with these answers, and none was marked
pub data PassesOver {S : Type 0} (looks : S → UrbId → Look → S → Type 0) (start : S) : List Held → List Look → S → Type 0 where
  none : PassesOver looks start [] [] start
  one : (hs : List Held) (answers : List Look) (s : S) (h : Held) (a : Look) (t : S) → PassesOver looks start hs answers s → looks s h.urb a t → has_reason a ≡ false → PassesOver looks start (hs ++ h ∷ []) (answers ++ a ∷ []) t

-- the URB at this place of the list is the first that looked marked
pub record FindsIn {S : Type 0} (looks : S → UrbId → Look → S → Type 0) (start : S) (hs : List Held) (place : ℕ) (s : S) : Type 0 where
  pub held : Held
  pub at : slice_get hs place ≡ Some held
  pub answers : List Look
  pub middle : S
  pub passed : PassesOver looks start (take place hs) answers middle
  pub why : Why
  pub marked : looks middle held.urb (Marked why) s

-- all were looked at, and none is marked
pub record FindsNone {S : Type 0} (looks : S → UrbId → Look → S → Type 0) (start : S) (hs : List Held) (clean : Bool) (s : S) : Type 0 where
  pub answers : List Look
  pub passed : PassesOver looks start hs answers s
  pub is : clean ≡ first_clean answers

-- what looking through the list did, by the place of the first marked URB and by whether the first URB was clean
abbrev pub LooksThrough : {S : Type 0} → (S → UrbId → Look → S → Type 0) → S → List Held → Option ℕ → Bool → S → Type 0
LooksThrough looks start hs None clean s = FindsNone looks start hs clean s
LooksThrough looks start hs (Some place) clean s = FindsIn looks start hs place s

abbrev pub with_clean : Bool → EndRow → EndRow
with_clean clean row = record row { clean = clean }

-- no pending URB of endpoint e is marked
pub record LooksAtEnd {S D : Type 0} (looks : S → UrbId → Look → S → Type 0) (e : ℕ) (x y : Serving S D) : Type 0 where
  pub row : EndRow
  pub at : slice_get x.ends e ≡ Some row
  pub clean : Bool
  pub finds : FindsNone looks x.side row.held.items clean y.side
  pub is : y ≡ with_end e (with_clean clean row) (with_side y.side x)

-- the pending URB at this place of endpoint e is the first that is marked
pub record FindsMarked {S D : Type 0} (looks : S → UrbId → Look → S → Type 0) (e place : ℕ) (x y : Serving S D) : Type 0 where
  pub row : EndRow
  pub at : slice_get x.ends e ≡ Some row
  pub finds : FindsIn looks x.side row.held.items place y.side
  pub is : y ≡ with_side y.side x

-- no pending URB of the endpoints below the number is marked
pub data LooksBelow {S D : Type 0} (looks : S → UrbId → Look → S → Type 0) (x : Serving S D) : ℕ → Serving S D → Type 0 where
  none : LooksBelow looks x 0 x
  end : (e : ℕ) (m y : Serving S D) → LooksBelow looks x e m → LooksAtEnd looks e m y → LooksBelow looks x (suc e) y

-- what looking at an endpoint did, by the place of the first marked URB
abbrev pub LooksEnd : {S D : Type 0} → (S → UrbId → Look → S → Type 0) → ℕ → Option ℕ → Serving S D → Serving S D → Type 0
LooksEnd looks e None x y = LooksAtEnd looks e x y
LooksEnd looks e (Some place) x y = FindsMarked looks e place x y

-- and what looking at all of the first n did, by the endpoint and the place of the first marked URB
abbrev pub LooksAll : {S D : Type 0} → (S → UrbId → Look → S → Type 0) → ℕ → Option (ℕ × ℕ) → Serving S D → Serving S D → Type 0
LooksAll looks n None x y = LooksBelow looks x n y
LooksAll {S} {D} looks n (Some p) x y = (m : Serving S D) × (p.0 < n) × LooksBelow looks x p.0 m × FindsMarked looks p.0 p.1 m y

-- the status of the URB at this place is settled
abbrev pub SettledAt : Knows → List EndRow → ℕ → ℕ → Type 0
SettledAt k ends e place = (row : EndRow) (h : Held) → slice_get ends e ≡ Some row → slice_get row.held.items place ≡ Some h → k.is_settled h.urb.0
