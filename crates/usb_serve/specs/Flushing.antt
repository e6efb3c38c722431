-- A shutdown of some URBs under a flag, on a host for one caller.
use Rattle.std.specs.Prelude.{ℕ, ◌≡◌, ◌<◌, ◌⊎◌, true, false, map, List, [], ◌∷◌, ◌++◌, length, take, slice_get, Option, Some, Result, Ok, Err}
use Rattle.usb_types.specs.declared.urb.UrbId.{UrbId}
use Rattle.usb_types.specs.declared.urb.Flag.{Flag as FlagName}
use Rattle.usb_types.specs.declared.urb.Why.TheVariants.{Shutdown}
use Rattle.usb_types.specs.declared.errno.Code.{Code}
use Rattle.usb_types.specs.declared.outside.Memory.{Memory}
use Rattle.usb_machine.specs.declared.entry.TheConstants.{HUB}
use Rattle.usb_machine.specs.declared.entry.Entry.{Entry}
use Rattle.usb_machine.specs.declared.event.Event.TheVariants.{Flag}
use Rattle.usb_machine.specs.History.{Machine, state_of}
use Rattle.usb_machine.specs.State.{has_flag}
use Rattle.usb_machine.specs.Parts.{part_of, held_of, any_flag}
use Rattle.usb_machine.specs.Calls.{plain_entry, marks_of, claim_entries, flush_entries}
use Rattle.usb_serve.specs.declared.solo.Solo.{Solo}
use Rattle.usb_serve.specs.declared.solo.Waited.{Waited}
use Rattle.usb_serve.specs.declared.solo.Waited.TheVariants.{Quiet, Idle, Busy}
use Rattle.usb_serve.specs.Growing.{Rounds}
use Rattle.usb_serve.specs.Solo.{IsSoloAt, IsQuiet, WaitsBy}

-- the URBs' numbers
abbrev pub ids : List UrbId → List ℕ
ids us = map (λ (u : UrbId). u.0) us

-- v is one of these
abbrev pub Has : List ℕ → ℕ → Type 0
Has [] v = ⊥
Has (u ∷ us) v = (u ≡ v) ⊎ Has us v

-- none of them comes twice
abbrev pub AreApart : List ℕ → Type 0
AreApart [] = Unit {0}
AreApart (u ∷ us) = (Has us u → ⊥) × AreApart us

-- the hub has a pass, no URB comes twice, and the flag stands on none
pub record MayFlush (g : Machine) (h : List Entry) (f : FlagName) (us : List ℕ) : Type 0 where
  pub hub : HUB < g.passes
  pub apart : AreApart us
  pub unset : (v : ℕ) → Has us v → has_flag f (state_of h v).flags ≡ false

abbrev pub CanFlush : {D H : Type 0} → (H → List ℕ) → Solo D H → FlagName → List ℕ → Type 0
CanFlush asks_with s f us = (g : Machine) × (h : List Entry) × IsSoloAt asks_with s g h × MayFlush g h f us

-- the hub has set a flag on each
pub record MaySettle (g : Machine) (h : List Entry) (us : List ℕ) : Type 0 where
  pub hub : HUB < g.passes
  pub flagged : (v : ℕ) → Has us v → any_flag (held_of (part_of h HUB) v).flags ≡ true

abbrev pub CanSettle : {D H : Type 0} → (H → List ℕ) → Solo D H → List ℕ → Type 0
CanSettle asks_with s us = (g : Machine) × (h : List Entry) × IsSoloAt asks_with s g h × MaySettle g h us

-- a Flag of each by the hub
abbrev pub flags_of : FlagName → List ℕ → List Entry
flags_of f us = map (λ u. plain_entry HUB (Flag record { 0 = u } f)) us

-- each was quiet after some rounds, and what rested with it was claimed
pub data Settles (g : Machine) (h : List Entry) : List ℕ → List (Option ℕ) → List Entry → Type 0 where
  none : Settles g h [] [] []
  one : (us : List ℕ) (rests : List (Option ℕ)) (es ws : List Entry) (u : ℕ) (rest : Option ℕ) → Settles g h us rests es → Rounds g (h ++ es) ws → IsQuiet (state_of ((h ++ es) ++ ws) u) → rest ≡ (state_of ((h ++ es) ++ ws) u).rest
      → Settles g h (us ++ u ∷ []) (rests ++ rest ∷ []) (es ++ (ws ++ claim_entries HUB u rest))

-- the wait for the URB at this place ended early: those before it were claimed
pub record LeftAt (g : Machine) (h : List Entry) (us : List ℕ) (came : Result Waited Memory) (rests : List (Option ℕ)) (es : List Entry) : Type 0 where
  pub place : ℕ
  pub urb : ℕ
  pub at : slice_get us place ≡ Some urb
  pub done : List Entry
  pub settled : Settles g h (take place us) (take place rests) done
  pub waited : List Entry
  pub adds : WaitsBy g (h ++ done) urb came waited
  pub is : es ≡ done ++ waited

-- what the waits and the claims add, by how the last wait ended
abbrev pub SettlesBy : Machine → List Entry → List ℕ → Result Waited Memory → List (Option ℕ) → List Entry → Type 0
SettlesBy g h us (Ok Quiet) rests es = Settles g h us rests es
SettlesBy g h us (Ok Idle) rests es = LeftAt g h us (Ok Idle) rests es
SettlesBy g h us (Ok Busy) rests es = LeftAt g h us (Ok Busy) rests es
SettlesBy g h us (Err m) rests es = LeftAt g h us (Err m) rests es

-- a shutdown: all are flagged and marked, and then each in order is waited for and claimed. The hub's own entries are those of a
-- flush, where all became quiet
pub record Flushed (g : Machine) (h : List Entry) (f : FlagName) (us : List ℕ) (came : Result Waited Memory) (rests : List (Option ℕ)) (es : List Entry) : Type 0 where
  pub answers : List Code
  pub long : length answers ≡ length us
  pub settled : List Entry
  pub adds : SettlesBy g (h ++ (flags_of f us ++ marks_of HUB Shutdown us answers)) us came rests settled
  pub is : es ≡ (flags_of f us ++ marks_of HUB Shutdown us answers) ++ settled
  pub own : came ≡ Ok Quiet → part_of es HUB ≡ flush_entries HUB f us answers rests
