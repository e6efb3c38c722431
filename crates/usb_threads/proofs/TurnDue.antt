-- A turn of the controller keeps what is due.
use Rattle.std.proofs.Common.{ℕ, ◌≡◌, ◌<◌, Option, Some, None, List, length, sym, ap, subst}
use Rattle.usb_machine.specs.declared.entry.Entry.{Entry}
use Rattle.usb_machine.specs.declared.transfer.Transfer.{Transfer}
use Rattle.usb_machine.specs.Fresh.{Known}
use Rattle.usb_machine.specs.History.{home_of}
use Rattle.usb_machine.specs.Tokens.{Told}
use Rattle.usb_xfer.specs.Replies.{Reply}
use Rattle.usb_device.specs.declared.scripted.Scripted.{Scripted}
use Rattle.usb_device.specs.Replied.{Replied}
use Rattle.usb_scene.specs.declared.scene.Scene.{Scene}
use Rattle.usb_scene.specs.WellFormed.{IsWellFormed}
use Rattle.usb_serve.specs.declared.controller.EndRow.{EndRow}
use Rattle.usb_side.specs.Went.{first_sent, Went, Stood, TurnLeft, TurnWent}
use Rattle.usb_trace.specs.Plan.{machine_of}
use Rattle.usb_trace.specs.Run.{Giveback}
use Rattle.usb_threads.specs.DueSoFar.{AreApt, AreDueSoFar, GaveDue}
use Rattle.usb_threads.specs.TurnDue.{LeftDue}
use Rattle.usb_threads.proofs.DueSoFar.{due_started, due_same, due_on, due_gave}

-- the URB that came back is the giveback's
stood_as : (start : ℕ → Transfer) (mid now : ℕ → List Reply) (e d : ℕ) (sent r_sent : Transfer) (replies r_replies : List Reply) → d ≡ e → r_sent ≡ sent → r_replies ≡ replies
    → Stood start mid now e sent replies → Stood start mid now d r_sent r_replies
stood_as start mid now e d sent r_sent replies r_replies home sent_so replies_so old =
    subst (λ (d : ℕ). Stood start mid now d r_sent r_replies) (sym home)
    (subst (λ (t : Transfer). Stood start mid now e t r_replies) (sym sent_so) (subst (Stood start mid now e sent) (sym replies_so) old))

module _ (s : Scene) (rounds : List Giveback) (p q : Known) (start others : ℕ → Transfer) (mid now : ℕ → List Reply) (devices : List Scripted)
    (ends : (e : ℕ) → 0 < length (now e) → others e ≡ start e) (moved : AreDueSoFar s rounds start mid devices) where
  left_due : (given : Option Told) (left : TurnLeft (machine_of s) p q start mid now given) → LeftDue s rounds others devices p q start mid now given left
  left_due None left = due_started s rounds start now devices (due_same s rounds start mid devices moved now left.1) others ends
  left_due (Some t) left = λ r urb sent replies.
      let gave : GaveDue s rounds r start now devices = due_gave s rounds start mid devices moved r now
      (stood_as start mid now (home_of (machine_of s) t.urb) (home_of (machine_of s) r.urb) left.0.sent r.sent left.0.replies r.replies (ap (home_of (machine_of s)) urb) sent replies left.1) in
      record { next = gave.next; still = due_started s _ start now devices gave.still others ends }

-- a turn of which these are the parts
pub parts_due : (s : Scene) (seen : List Entry) (rounds : List Giveback) (p q : Known) (before after : List Scripted) (so mid now : ℕ → List Reply) (given : Option Told) (first start later : ℕ → Transfer)
    → IsWellFormed s → AreApt s seen → AreDueSoFar s rounds first so before → ((e : ℕ) → 0 < length (so e) → start e ≡ first e) → Went Replied (machine_of s) seen start before so after mid
    → ((e : ℕ) → 0 < length (now e) → later e ≡ start e) → (left : TurnLeft (machine_of s) p q start mid now given) → LeftDue s rounds later after p q start mid now given left
parts_due s seen rounds p q before after so mid now given first start later good apt due starts went ends left =
    left_due s rounds p q start later mid now after ends (due_on s rounds start so before (due_started s rounds first so before due start starts) good seen apt after mid went) given left

-- and so of a turn as it is told
pub turn_due : (s : Scene) (rounds : List Giveback) (p q : Known) (old new : List EndRow) (before after : List Scripted) (so : ℕ → List Reply) (still : (ℕ → List Reply) → Type 0) (given : Option Told)
    (w : TurnWent Replied (machine_of s) p q old new before after so still given) → IsWellFormed s → AreApt s w.seen → AreDueSoFar s rounds (first_sent p.seen old) so before
    → LeftDue s rounds (first_sent q.seen new) after p q w.start w.mid w.now given w.left
turn_due s rounds p q old new before after so still given w good apt due =
    parts_due s w.seen rounds p q before after so w.mid w.now given (first_sent p.seen old) w.start (first_sent q.seen new) good apt due w.starts w.went w.ends w.left
