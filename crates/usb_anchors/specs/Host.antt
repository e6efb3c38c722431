-- The rejects of a log as entries of the anchors' pass of a host, and what a caller's pass then sees of them.
use Rattle.std.specs.Prelude.{◌≡◌, ℕ, List, map}
use Rattle.usb_machine.specs.declared.event.Event.TheVariants.{Reject, Withdraw}
use Rattle.usb_machine.specs.declared.entry.Entry.{Entry}
use Rattle.usb_machine.specs.Parts.{part_of}
use Rattle.usb_machine.specs.Calls.{plain_entry}
use Rattle.usb_machine.specs.Fresh.{Known, Begins}
use Rattle.usb_anchor.specs.declared.log.LogRow.{LogRow}
use Rattle.usb_anchor.specs.Rejects.{Step, raises, withdraws, rejects_of}

-- a reject that is raised or withdrawn, as an entry of the pass of this number
abbrev pub entry_of : ℕ → Step → Entry
entry_of n (raises a u) = plain_entry n (Reject record { 0 = u })
entry_of n (withdraws a u) = plain_entry n (Withdraw record { 0 = u })

-- the rejects of a log as entries of the pass of this number
abbrev pub rejects_by : ℕ → ℕ → List LogRow → List Entry
rejects_by number urbs rows = map (entry_of number) (rejects_of urbs rows)

-- a beginning of what the pass has seen begins with all that it had seen before, has no further entry of this pass, and has
-- these as the part of that number
pub record Sees (n : ℕ) (p q : Known) (entries : List Entry) : Type 0 where
  pub upto : List Entry
  pub within : Begins q.seen upto
  pub before : Begins upto p.seen
  pub own : part_of upto p.number ≡ p.mine
  pub rejects : part_of upto n ≡ entries
  pub number : q.number ≡ p.number
  pub mine : q.mine ≡ p.mine
