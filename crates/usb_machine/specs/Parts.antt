-- A pass's part of a history, and what the part says: which Links the pass owes, which rejects and flags it holds,
-- and which URBs it keeps quiet.
use Rattle.std.specs.Prelude.{ℕ, ◌+◌, ◌-◌, Bool, true, false, not, ◌&&◌, ◌||◌, cond, ◌==◌, if◌then◌else◌, List, filter, fold}
use Rattle.usb_machine.specs.declared.event.Event.{Event}
use Rattle.usb_machine.specs.declared.event.Event.TheVariants.{Submit, Link, Reject, Withdraw, Quiet, Flag, Unflag}
use Rattle.usb_machine.specs.declared.event.Answer.{Answer}
use Rattle.usb_machine.specs.declared.entry.Entry.{Entry}
use Rattle.usb_machine.specs.declared.state.Flags.{Flags}
pub use Rattle.usb_machine.specs.declared.pass_row.Held.{Held}
use Rattle.usb_machine.specs.State.{no_flags, with_flag, accepted}
use Rattle.usb_machine.specs.History.{is_of}

-- the entries of pass p, in order
abbrev pub part_of : List Entry → ℕ → List Entry
part_of h p = filter (λ x. x.pass == p) h

-- from an accepted Submit of u to the next Link of u the pass owes that Link, whatever it submits in between
abbrev pub owes_after : ℕ → Bool → Event → Answer → Bool
owes_after u b (Submit v n) a = if (v.0 == u) && accepted a then true else b
owes_after u b (Link v) a = if (v.0 == u) then false else b
owes_after u b _ a = b

-- whether a pass with these entries owes the Link of u
abbrev pub owes : List Entry → ℕ → Bool
owes m u = fold (λ b x. owes_after u b x.event x.answer) false m

abbrev pub nothing_held : Held
nothing_held = record { rejects = 0; flags = no_flags; kept = false }

abbrev pub any_flag : Flags → Bool
any_flag f = f.gone || f.off || f.down

abbrev pub holds_any : Held → Bool
holds_any d = not (d.rejects == 0) || any_flag d.flags

abbrev pub while_held : Held → Held
while_held d = record d { kept = d.kept && holds_any d }

-- a Quiet under a reject or a flag begins to keep the URB, and the entry that leaves nothing held ends it
abbrev pub held_after : Held → Event → Held
held_after d (Reject u) = record d { rejects = d.rejects + 1 }
held_after d (Withdraw u) = while_held record d { rejects = d.rejects - 1 }
held_after d (Flag u f) = record d { flags = with_flag f true d.flags }
held_after d (Unflag u f) = while_held record d { flags = with_flag f false d.flags }
held_after d (Quiet u) = record d { kept = holds_any d }
held_after d _ = d

-- what a pass with these entries holds against u
abbrev pub held_of : List Entry → ℕ → Held
held_of m u = fold (λ d x. cond (is_of u x.event) (held_after d x.event) d) nothing_held m

-- whether a pass with these entries keeps u quiet
abbrev pub keeps : List Entry → ℕ → Bool
keeps m u = (held_of m u).kept
