-- What a call does after its turn: it stops or unlinks the URBs that it took.
use Rattle.std.specs.Prelude.{◌≡◌, ℕ, List, [], ◌∷◌, ◌++◌, length}
use Rattle.usb_types.specs.declared.errno.Code.{Code}
use Rattle.usb_types.specs.declared.urb.Why.TheVariants.{Unlink}
use Rattle.usb_machine.specs.declared.entry.Entry.{Entry}
use Rattle.usb_machine.specs.Fresh.{Known, Grown}
use Rattle.usb_cancel.specs.Stops.{stop_entries}
use Rattle.usb_cancel.specs.Flushing.{Marked}
use Rattle.usb_anchors.specs.Host.{Sees}

-- a stop of each, in order
abbrev pub stops_of : ℕ → List ℕ → List Code → List Entry
stops_of n [] answers = []
stops_of n (u ∷ us) [] = []
stops_of n (u ∷ us) (a ∷ answers) = stop_entries n u a ++ stops_of n us answers

-- a stop of each was added, with some answers
pub record Stopped (p q : Known) (us : List ℕ) : Type 0 where
  pub answers : List Code
  pub each : length answers ≡ length us
  pub grown : Grown p q (stops_of p.number us answers)

-- the pass has seen the rejects of the log in the turn, and after it has stopped these
pub record Stops (n : ℕ) (p q : Known) (entries : List Entry) (us : List ℕ) : Type 0 where
  pub middle : Known
  pub sees : Sees n p middle entries
  pub stopped : Stopped middle q us

-- the same, and it has unlinked these
pub record Unlinks (n : ℕ) (p q : Known) (entries : List Entry) (us : List ℕ) : Type 0 where
  pub middle : Known
  pub sees : Sees n p middle entries
  pub unlinked : Marked Unlink middle q us
