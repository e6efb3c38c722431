-- What the Claims of a history found.
use Rattle.std.specs.Prelude.{ℕ, ◌==◌, if◌then◌else◌, List, [], ◌∷◌, ◌++◌, map, Option}
use Rattle.usb_machine.specs.declared.event.Event.{Event}
use Rattle.usb_machine.specs.declared.event.Event.TheVariants.{Claim}
use Rattle.usb_machine.specs.declared.transfer.Transfer.{Transfer}
use Rattle.usb_machine.specs.declared.entry.Entry.{Entry}
use Rattle.usb_machine.specs.HostCalls.{rested_of, number_of}

-- what a Claim after this history finds: its URB, with the transfer that last rested there, if one still does
abbrev pub claim_at : List Entry → Event → List (ℕ × Option Transfer)
claim_at before (Claim u) = (u.0, rested_of before u.0) ∷ []
claim_at before _ = []

-- what pass p claims in these entries after a history
abbrev pub claimed_after : ℕ → List Entry → List Entry → List (ℕ × Option Transfer)
claimed_after p before [] = []
claimed_after p before (x ∷ xs) = (if x.pass == p then claim_at before x.event else []) ++ claimed_after p (before ++ x ∷ []) xs

-- what pass p claimed in a history, Claim by Claim
abbrev pub claimed_by : ℕ → List Entry → List (ℕ × Option Transfer)
claimed_by p h = claimed_after p [] h

-- the numbers that Claims answer which found these
abbrev pub numbers_of : List (Option Transfer) → List (Option ℕ)
numbers_of rests = map number_of rests
