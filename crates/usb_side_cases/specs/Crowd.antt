-- What a thread of the crowd does to the pass that it calls with.
use Rattle.std.specs.Prelude.{◌≡◌, ℕ, ◌<◌, List, [], ◌++◌, length, slice_index_or, Option, Some, None}
use Rattle.usb_types.specs.declared.errno.Code.{Code}
use Rattle.usb_types.specs.declared.errno.Errno.{Errno}
use Rattle.usb_machine.specs.declared.entry.Entry.{Entry}
use Rattle.usb_machine.specs.declared.transfer.Transfer.{Transfer}
use Rattle.usb_machine.specs.History.{Machine, HasHome}
use Rattle.usb_machine.specs.Calls.{submit_entries, unlink_entries, kill_entries, poison_entries}
use Rattle.usb_machine.specs.Fresh.{Known}
use Rattle.usb_machine.specs.HostCalls.{fault_at, shape_of}
use Rattle.usb_host_cases.specs.Ran.{MayReject}
use Rattle.usb_side_cases.specs.Rounds.{Made}

-- what a submit adds: nothing where the endpoint does not take the transfer
abbrev pub sent_entries : Option Errno → ℕ → ℕ → Transfer → Code → List Entry
sent_entries (Some errno) p u t a = []
sent_entries None p u t a = submit_entries p u t a

-- the entries of a submit, an unlink and a kill of u by pass p, whatever they answered
abbrev pub AreCalls : Machine → ℕ → ℕ → List Entry → Type 0
AreCalls g u p m = (t : Transfer) × (a : Code) × (b : Code) × (k : Code) × (rest : Option ℕ) × (m ≡ sent_entries (fault_at (shape_of g u) t) p u t a ++ (unlink_entries p u b ++ kill_entries p u k rest))

-- such calls, and then a poison
abbrev pub AreLastCalls : Machine → ℕ → ℕ → List Entry → Type 0
AreLastCalls g u p m = (calls : List Entry) × AreCalls g u p calls × (a : Code) × (rest : Option ℕ) × (m ≡ calls ++ poison_entries p u a rest)

-- a pass of the host may call: the URB has a home, and the pass may reject it
pub record MayCall {P : Type 0} (g : Machine) (known : P → Known) (is_of : P → Type 0) (u : ℕ) (p : P) : Type 0 where
  pub here : is_of p
  pub home : HasHome g u
  pub room : MayReject (known p) u

-- a pass of the host made the calls, and may reject the URB still
pub record Called {P : Type 0} (g : Machine) (known : P → Known) (is_of : P → Type 0) (u : ℕ) (p q : P) : Type 0 where
  pub here : is_of q
  pub made : Made (AreCalls g u (known p).number) (known p) (known q)
  pub room : MayReject (known q) u

-- each of these passes did
pub record CalledAll {P : Type 0} (g : Machine) (known : P → Known) (is_of : P → Type 0) (u : ℕ) (ps qs : List P) : Type 0 where
  pub len : length qs ≡ length ps
  pub each : (i : ℕ) (d e : P) → i < length ps → Called g known is_of u (slice_index_or ps i d) (slice_index_or qs i e)
