-- What stands behind a giveback.
use Rattle.std.proofs.Common.{◌≡◌, ℕ, ◌<◌, cond, Option, Some, None, [], ◌∷◌, ◌++◌, sym, refl, ap, ◌∙◌, subst, arith, eq-eqb}
use Rattle.usb_types.specs.declared.errno.Code.{Code}
use Rattle.usb_machine.specs.declared.entry.TheConstants.{SERVER}
use Rattle.usb_machine.specs.declared.entry.Entry.{Entry}
use Rattle.usb_machine.specs.declared.event.Event.TheVariants.{Give}
use Rattle.usb_machine.specs.declared.event.Answer.TheVariants.{Code as Status}
use Rattle.usb_machine.specs.declared.state.UrbState.{UrbState}
use Rattle.usb_machine.specs.declared.transfer.Transfer.{Transfer}
use Rattle.usb_machine.specs.Shapes.{HasWindow}
use Rattle.usb_machine.specs.State.{after}
use Rattle.usb_machine.specs.History.{Machine, HasHome, state_of}
use Rattle.usb_machine.specs.Legal.{IsLegal}
use Rattle.usb_machine.specs.Calls.{entry}
use Rattle.usb_machine.proofs.Steps.{state_of-snoc}
use Rattle.usb_machine.proofs.Prefixes.{follows_before, legal_before}
use Rattle.usb_machine.proofs.Rooms.{queued_has_home, pending_is_queued, home_below}
use Rattle.usb_xfer.specs.Moved.{moved}
use Rattle.usb_xfer.proofs.Windows.{moved_window}
use Rattle.usb_machine.specs.Fresh.{Known}
use Rattle.usb_machine.specs.HostCalls.{IsUrb}
use Rattle.usb_side.specs.Round.{GaveBack}

module _ (g : Machine) (p q : Known) (u : ℕ) (code : Code) (t : Option Transfer) (b : GaveBack g p q u code t) where
  abbrev x : Entry
  x = entry SERVER (Give record { 0 = u }) (Status code) None

  legal : IsLegal g (b.before ++ x ∷ [])
  legal = subst (IsLegal g) b.split b.sound.legal

  pub gave_home : HasHome g u
  gave_home = queued_has_home g u b.before (legal_before g b.before x [] legal) (pending_is_queued g b.before u (legal_before g b.before x [] legal) (follows_before g b.before x [] legal).may.1)

  pub gave_runs : IsUrb g u × (0 < (state_of q.seen u).handlers)
  gave_runs = (home_below g u gave_home, subst (λ (s : UrbState). 0 < s.handlers) (sym (ap (λ h. state_of h u) b.split ∙ (state_of-snoc b.before x u ∙ ap (λ c. cond c (after (Give record { 0 = u }) (Status code) (state_of b.before u)) (state_of b.before u)) (eq-eqb u u refl)))) (omega arith))

  pub gave_transfer : (r : Transfer) × (t ≡ Some r) × HasWindow r
  gave_transfer = (moved b.shape b.sent b.replies, b.back, moved_window b.shape b.sent b.replies b.window)
