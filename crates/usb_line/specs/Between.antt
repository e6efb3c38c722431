-- What holds between the blocks of a run.
use Rattle.std.specs.Prelude.{ℕ, ◌≡◌, Bool, true, false, List}
use Rattle.usb_machine.specs.declared.state.Mark.{Mark as MarkState}
use Rattle.usb_machine.specs.declared.state.Mark.TheVariants.{Clear, Unlinked, Finished}
use Rattle.usb_machine.specs.declared.state.UrbState.{UrbState}
use Rattle.usb_machine.specs.declared.entry.Entry.{Entry}
use Rattle.usb_machine.specs.History.{state_of}
use Rattle.usb_machine.specs.Parts.{part_of, owes}

abbrev pub is_finished : MarkState → Bool
is_finished Clear = false
is_finished (Unlinked why) = false
is_finished (Finished code) = true

-- no handler of the URB runs, and no mark says that it is finished
pub record IsAtRest (t : UrbState) : Type 0 where
  pub handlers : t.handlers ≡ 0
  pub mark : is_finished t.mark ≡ false

-- this holds of each URB
abbrev pub IsCalm : List Entry → Type 0
IsCalm h = (u : ℕ) → IsAtRest (state_of h u)

-- no pass owes a Link
abbrev pub AllLinked : List Entry → Type 0
AllLinked h = (p u : ℕ) → owes (part_of h p) u ≡ false
