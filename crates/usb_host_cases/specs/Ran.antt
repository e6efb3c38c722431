-- What the calls of these cases do to the passes that make them.
use Rattle.std.specs.Prelude.{◌≡◌, ℕ, ◌<◌, List, length, slice_index_or, true, Option}
use Rattle.usb_types.specs.declared.errno.Code.{Code}
use Rattle.usb_machine.specs.History.{Machine}
use Rattle.usb_machine.specs.Parts.{held_of, keeps}
use Rattle.usb_machine.specs.Calls.{kill_entries, poison_entries}
use Rattle.usb_machine.specs.Fresh.{Known, Fresh}

-- the pass may raise one reject of the URB more
abbrev pub MayReject : Known → ℕ → Type 0
MayReject p u = (held_of p.mine u).rejects < 255

-- a kill of the URB, which answered a transfer of this number
abbrev pub Killed : Machine → ℕ → Known → Known → Option ℕ → Type 0
Killed g u p q rest = (a : Code) × Fresh g p q (kill_entries p.number u a rest)

-- a poison of the URB, which answered a transfer of this number
abbrev pub Poisoned : Machine → ℕ → Known → Known → Option ℕ → Type 0
Poisoned g u p q rest = (a : Code) × Fresh g p q (poison_entries p.number u a rest)

-- a pass of the host poisoned the URB, and keeps it
pub record Poisons {P : Type 0} (g : Machine) (known : P → Known) (is_of : P → Type 0) (u : ℕ) (p q : P) : Type 0 where
  pub here : is_of q
  pub rest : Option ℕ
  pub poisoned : Poisoned g u (known p) (known q) rest
  pub kept : keeps (known q).mine u ≡ true

-- each of these passes did
pub record PoisonedAll {P : Type 0} (g : Machine) (known : P → Known) (is_of : P → Type 0) (u : ℕ) (ps qs : List P) : Type 0 where
  pub len : length qs ≡ length ps
  pub each : (i : ℕ) (d e : P) → i < length ps → Poisons g known is_of u (slice_index_or ps i d) (slice_index_or qs i e)
