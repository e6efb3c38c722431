-- Many calls of one kind by one pass.
use Rattle.std.specs.Prelude.{◌≡◌, ℕ, ◌+◌, List, [], ◌++◌, Option, None}
use Rattle.usb_types.specs.declared.errno.Code.{Code}
use Rattle.usb_machine.specs.declared.entry.Entry.{Entry}
use Rattle.usb_machine.specs.declared.transfer.Transfer.{Transfer}
use Rattle.usb_machine.specs.History.{Machine}
use Rattle.usb_machine.specs.Calls.{submit_entries, kill_entries, poison_entries}
use Rattle.usb_machine.specs.Fresh.{Known, Grown}
use Rattle.usb_machine.specs.HostCalls.{fault_at, shape_of}

-- the URB's endpoint takes each transfer, whatever it holds
abbrev pub TakesAll : Machine → ℕ → Type 0
TakesAll g u = (t : Transfer) → fault_at (shape_of g u) t ≡ None

-- the entries of one submit of u by pass p, whatever it answered, and of one kill
abbrev pub IsSubmit : ℕ → ℕ → List Entry → Type 0
IsSubmit p u m = (t : Transfer) × (a : Code) × (m ≡ submit_entries p u t a)

abbrev pub IsKill : ℕ → ℕ → List Entry → Type 0
IsKill p u m = (a : Code) × (rest : Option ℕ) × (m ≡ kill_entries p u a rest)

-- the entries of n such calls, one after another
pub data Times (One : List Entry → Type 0) : ℕ → List Entry → Type 0 where
  none : Times One 0 []
  more : (n : ℕ) (m one : List Entry) → Times One n m → One one → Times One (n + 1) (m ++ one)

-- n kills, and then a poison
abbrev pub KilledOut : ℕ → ℕ → ℕ → List Entry → Type 0
KilledOut p u n m = (kills : List Entry) × Times (IsKill p u) n kills × ((a : Code) × (rest : Option ℕ) × (m ≡ kills ++ poison_entries p u a rest))

-- the pass made such entries
abbrev pub Made : (List Entry → Type 0) → Known → Known → Type 0
Made These p q = (m : List Entry) × These m × Grown p q m
