-- What a stock stands for.
use Rattle.std.specs.Prelude.{◌≡◌, ℕ, ◌%◌, ◌^◌, ◌<◌, Bool, true, false, List, [], ◌∷◌, length, slice_get, Option, Some, None, option_map}
use Rattle.usb_machine.specs.declared.entry.Entry.{Entry}
use Rattle.usb_machine.specs.declared.event.Event.{Event}
use Rattle.usb_machine.specs.declared.event.Event.TheVariants.{Submit, Take, Give, Rest, Claim}
use Rattle.usb_machine.specs.declared.event.Answer.TheVariants.{Nothing, Urb}
use Rattle.usb_types.specs.declared.urb.UrbId.{UrbId}
use Rattle.usb_machine.specs.declared.transfer.Transfer.{Transfer}
use Rattle.usb_machine.specs.declared.layout.Layout.{Layout}
use Rattle.usb_machine.specs.History.{Machine, home_of, state_of, pending_of, sent_of}
use Rattle.usb_machine.specs.Legal.{times}
use Rattle.usb_machine.specs.Plain.{Stands, urbs_of}
use Rattle.usb_machine.specs.Replay.{machine_for}
use Rattle.usb_machine.specs.HostCalls.{rested_of}
use Rattle.usb_turn_host.specs.declared.stock.Setup.{Setup}
use Rattle.usb_turn_host.specs.declared.stock.Made.{Made}
use Rattle.usb_turn_host.specs.declared.stock.Stock.{Stock}

abbrev pub machine_of : Setup → Machine
machine_of s = machine_for s.layout.value s.passes

abbrev pub pass_of : Entry → ℕ
pass_of x = x.pass

-- the entry of the event that was made last, by the pass of this number
abbrev pub entry_of : ℕ → Option Made → List Entry
entry_of p None = []
entry_of p (Some m) = record { pass = p; event = m.event; answer = m.answer; carried = option_map (λ c. c.value) m.carried } ∷ []

abbrev pub made_by : ℕ → Stock → List Entry
made_by p s = entry_of p s.made

-- the machine stands for the history; a queued URB that was not taken has its transfer in flight; and each URB has the
-- transfer that rests with it
pub record IsStock (s : Stock) (h : List Entry) : Type 0 where
  pub plain : Stands s.plain (machine_of s.setup) h
  pub count : s.rows ≡ length h % 2 ^ 64
  pub flights : (u : ℕ) → u < urbs_of s.plain → (state_of h u).queued ≡ true → times u (pending_of (machine_of s.setup) h (home_of (machine_of s.setup) u)) ≡ 0 → slice_get s.flight.items u ≡ Some (sent_of h u)
  pub rests : (u : ℕ) → u < urbs_of s.plain → slice_get s.resting.items u ≡ Some (rested_of h u)
  pub sizes : (length s.flight.items ≡ urbs_of s.plain) × (length s.resting.items ≡ urbs_of s.plain)

-- the event moves no transfer
abbrev pub IsStill : Event → Type 0
IsStill (Submit u n) = ⊥
IsStill (Take e) = ⊥
IsStill (Give u) = ⊥
IsStill (Rest u n) = ⊥
IsStill (Claim u) = ⊥
IsStill _ = Unit {0}

-- u is queued, or a handler of it runs
abbrev pub IsBusy : List Entry → ℕ → Type 0
IsBusy h u = ((state_of h u).queued ≡ false) × ((state_of h u).handlers ≡ 0) → ⊥

-- the event was made, with no answer and nothing carried, or none was
abbrev pub made_if : Bool → Event → Option Made
made_if true e = Some record { event = e; answer = Nothing; carried = None }
made_if false e = None

abbrev pub made_take : ℕ → Option (UrbId × Transfer) → Option Made
made_take e None = None
made_take e (Some r) = Some record { event = Take e; answer = Urb r.0; carried = None }

-- `Snapshot` has a marker beside its value
abbrev pub IsSetup : Layout → ℕ → Setup → Type 0
IsSetup layout passes s = (s.layout.value ≡ layout) × (s.passes ≡ passes)
