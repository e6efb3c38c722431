-- The entries of a reset of some URBs.
use Rattle.std.specs.Prelude.{ℕ, ◌<◌, List, ◌++◌, map, Option}
use Rattle.usb_types.specs.declared.errno.Code.{Code}
use Rattle.usb_types.specs.declared.urb.Why.TheVariants.{Kill}
use Rattle.usb_machine.specs.declared.event.Event.TheVariants.{Reject, Withdraw}
use Rattle.usb_machine.specs.declared.entry.Entry.{Entry}
use Rattle.usb_machine.specs.Parts.{held_of}
use Rattle.usb_machine.specs.Calls.{plain_entry, marks_of, claims_of}
use Rattle.usb_cancel.specs.Flushing.{Has}

-- a Reject of each
abbrev pub rejects_of : ℕ → List ℕ → List Entry
rejects_of n us = map (λ u. plain_entry n (Reject record { 0 = u })) us

-- a Withdraw of each
abbrev pub withdraws_of : ℕ → List ℕ → List Entry
withdraws_of n us = map (λ u. plain_entry n (Withdraw record { 0 = u })) us

-- a reset of some URBs: all are rejected and unlinked before one is waited for, and none is let go before all were claimed
abbrev pub reopen_entries : ℕ → List ℕ → List Code → List (Option ℕ) → List Entry
reopen_entries n us answers rests = rejects_of n us ++ (marks_of n Kill us answers ++ (claims_of n us rests ++ withdraws_of n us))

-- the pass may raise one reject more of each of them
abbrev pub MayRejectAll : List Entry → List ℕ → Type 0
MayRejectAll m us = (v : ℕ) → Has us v → (held_of m v).rejects < 255

-- the pass holds a reject of each of them
abbrev pub AreRejected : List Entry → List ℕ → Type 0
AreRejected m us = (v : ℕ) → Has us v → 0 < (held_of m v).rejects
