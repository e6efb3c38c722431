-- What a keyboard's core keeps, and what it does with a transfer that came back.
use Rattle.std.specs.Prelude.{◌≡◌, ℕ, not, List, [], ◌∷◌, ◌++◌, map, filter}
use Rattle.usb_types.specs.declared.errno.Code.{Code}
use Rattle.usb_types.specs.declared.urb.Role.{Role}
use Rattle.usb_types.specs.declared.urb.Role.TheVariants.{In, Ctl}
use Rattle.usb_types.specs.declared.urb.Action.{Action}
use Rattle.usb_types.specs.declared.urb.Action.TheVariants.{Rest}
use Rattle.usb_machine.specs.declared.transfer.Transfer.{Transfer}
use Rattle.usb_machine.specs.Completion.{Completion, moved_bytes, read_again}
use Rattle.usb_hid.specs.declared.event.Event.{Event}
use Rattle.usb_hid.specs.Reports.{modifiers_of, codes_of, is_roll_over}
use Rattle.usb_hid.specs.Keys.{report_in, reports, last_of, report_events, light_events, modifiers_after, codes_after, key_events}

-- the modifiers and the codes that stand, and the events so far
pub record KeyboardState : Type 0 where
  pub modifiers : ℕ
  pub codes : List ℕ
  pub events : List Event

-- the core takes note of one completion more
pub record Notes (old new : KeyboardState) (c : Completion) : Type 0 where
  pub modifiers : new.modifiers ≡ last_of old.modifiers (map modifiers_of (reports (c ∷ [])))
  pub codes : new.codes ≡ last_of old.codes (filter (λ codes. not (is_roll_over codes)) (map codes_of (reports (c ∷ []))))
  pub events : new.events ≡ old.events ++ report_events old.modifiers old.codes (report_in c.role c.status (moved_bytes c.transfer)) ++ light_events c.role c.status (moved_bytes c.transfer)

-- the core has seen these completions, and no other
pub record IsAfter (core : KeyboardState) (done : List Completion) : Type 0 where
  pub modifiers : core.modifiers ≡ modifiers_after done
  pub codes : core.codes ≡ codes_after done
  pub events : core.events ≡ key_events done

-- the URBs of a keyboard: its read, and the control transfers
abbrev pub IsOfKeyboard : Role → Type 0
IsOfKeyboard In = Unit {0}
IsOfKeyboard Ctl = Unit {0}
IsOfKeyboard role = ⊥

-- the read of reports goes on where reads do; all else rests
abbrev pub action_of : Role → Code → Transfer → Action
action_of In status t = read_again status t
action_of role status t = Rest
