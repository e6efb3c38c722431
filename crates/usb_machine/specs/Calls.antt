-- The entries of a call: what its caller's part of a history gains, as a function of the call and its answers.
-- Each list of answers stands beside the URBs that it is of.
use Rattle.std.specs.Prelude.{ℕ, if◌then◌else◌, List, [], ◌∷◌, ◌++◌, map, Option, Some, None}
use Rattle.usb_types.specs.declared.errno.Code.{Code}
use Rattle.usb_types.specs.declared.urb.Why.{Why}
use Rattle.usb_types.specs.declared.urb.Why.TheVariants.{Unlink, Kill, Shutdown}
use Rattle.usb_types.specs.declared.urb.Flag.{Flag as FlagName}
use Rattle.usb_machine.specs.declared.event.Event.{Event}
use Rattle.usb_machine.specs.declared.event.Event.TheVariants.{Submit, Link, Mark, Reject, Withdraw, Quiet, Claim, Flag, Unflag}
use Rattle.usb_machine.specs.declared.event.Answer.{Answer}
use Rattle.usb_machine.specs.declared.event.Answer.TheVariants.{Nothing, Code as Status, Number}
use Rattle.usb_machine.specs.declared.transfer.Transfer.{Transfer}
use Rattle.usb_machine.specs.declared.entry.Entry.{Entry}
use Rattle.usb_machine.specs.State.{is_zero}

abbrev pub entry : ℕ → Event → Answer → Option Transfer → Entry
entry p e a t = record { pass = p; event = e; answer = a; carried = t }

-- an event that answers nothing and carries nothing
abbrev pub plain_entry : ℕ → Event → Entry
plain_entry p e = entry p e Nothing None

-- submit: it asks the URB's gate, which accepts or refuses it, and links where it was accepted (the kernel's `usb_submit_urb`)
abbrev pub submit_entries : ℕ → ℕ → Transfer → Code → List Entry
submit_entries p u t a =
    entry p (Submit record { 0 = u } t.number) (Status a) (Some t) ∷ (if is_zero a then plain_entry p (Link record { 0 = u }) ∷ [] else [])

abbrev pub mark_entry : ℕ → Why → ℕ → Code → Entry
mark_entry p why u a = entry p (Mark record { 0 = u } why) (Status a) None

-- unlink (`usb_unlink_urb`)
abbrev pub unlink_entries : ℕ → ℕ → Code → List Entry
unlink_entries p u a = mark_entry p Unlink u a ∷ []

-- block; unblock and unpoison (`usb_block_urb`, `usb_unpoison_urb`)
abbrev pub block_entries : ℕ → ℕ → List Entry
block_entries p u = plain_entry p (Reject record { 0 = u }) ∷ []

abbrev pub unblock_entries : ℕ → ℕ → List Entry
unblock_entries p u = plain_entry p (Withdraw record { 0 = u }) ∷ []

-- the URB is seen quiet, and what rests with it is claimed
abbrev pub claim_entries : ℕ → ℕ → Option ℕ → List Entry
claim_entries p u rest = plain_entry p (Quiet record { 0 = u }) ∷ entry p (Claim record { 0 = u }) (Number rest) None ∷ []

-- poison (`usb_poison_urb`): it rejects, unlinks, sees the URB quiet and claims
abbrev pub poison_entries : ℕ → ℕ → Code → Option ℕ → List Entry
poison_entries p u a rest = plain_entry p (Reject record { 0 = u }) ∷ mark_entry p Kill u a ∷ claim_entries p u rest

-- kill (`usb_kill_urb`): a poison whose reject is withdrawn
abbrev pub kill_entries : ℕ → ℕ → Code → Option ℕ → List Entry
kill_entries p u a rest = poison_entries p u a rest ++ unblock_entries p u

abbrev pub marks_of : ℕ → Why → List ℕ → List Code → List Entry
marks_of p why [] answers = []
marks_of p why (u ∷ us) [] = []
marks_of p why (u ∷ us) (a ∷ answers) = mark_entry p why u a ∷ marks_of p why us answers

abbrev pub claims_of : ℕ → List ℕ → List (Option ℕ) → List Entry
claims_of p [] rests = []
claims_of p (u ∷ us) [] = []
claims_of p (u ∷ us) (rest ∷ rests) = claim_entries p u rest ++ claims_of p us rests

-- a shutdown of some URBs under a flag: all are flagged and marked before one is waited for
abbrev pub flush_entries : ℕ → FlagName → List ℕ → List Code → List (Option ℕ) → List Entry
flush_entries p f us answers rests =
    map (λ u. plain_entry p (Flag record { 0 = u } f)) us ++ marks_of p Shutdown us answers ++ claims_of p us rests

-- the flag is taken off again
abbrev pub unflag_entries : ℕ → FlagName → List ℕ → List Entry
unflag_entries p f us = map (λ u. plain_entry p (Unflag record { 0 = u } f)) us
