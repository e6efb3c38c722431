-- The replies that first pending transfers had so far are those that were due, and the devices heard what was asked for them.
use Rattle.std.specs.Prelude.{ℕ, ◌≡◌, List, [], ◌∷◌, ◌++◌, length, Some}
use Rattle.usb_machine.specs.declared.entry.Entry.{Entry}
use Rattle.usb_machine.specs.declared.transfer.Transfer.{Transfer}
use Rattle.usb_machine.specs.History.{sent_of}
use Rattle.usb_xfer.specs.Replies.{Reply, Question}
use Rattle.usb_device.specs.declared.scripted.Scripted.{Scripted}
use Rattle.usb_scene.specs.declared.scene.Scene.{Scene}
use Rattle.usb_prepare.specs.Layout.{home}
use Rattle.usb_trace.specs.Due.{asks, next_due}
use Rattle.usb_trace.specs.Devices.{IsApt, ShowsDevices}
use Rattle.usb_trace.specs.Run.{Giveback, asked_in, asked_of}

-- each transfer that was sent in this history is one that its URB may have
abbrev pub AreApt : Scene → List Entry → Type 0
AreApt s seen = (u : ℕ) (t : Transfer) → sent_of seen u ≡ Some t → IsApt s u t

-- what endpoint e was asked, and then by its first pending transfer, one question for each of these replies
abbrev pub asked_for : Scene → (ℕ → List Question) → (ℕ → Transfer) → (ℕ → List Reply) → ℕ → List Question
asked_for s asked start replies e = asked e ++ asks s e (start e) (length (replies e))

-- the first pending transfers, whose endpoints were asked this before, had more replies: those that were due. The devices heard
-- what was asked for them
pub record WentDue (s : Scene) (start : ℕ → Transfer) (asked : ℕ → List Question) (so now : ℕ → List Reply) (devices : List Scripted) : Type 0 where
  pub new : ℕ → List Reply
  pub joins : (e : ℕ) → now e ≡ so e ++ new e
  pub due : (e : ℕ) → new e ≡ next_due s e (asked e) (asks s e (start e) (length (new e)))
  pub shows : ShowsDevices s (asked_for s asked start new) devices

-- what the endpoints were asked by these givebacks
abbrev pub asked_by : Scene → List Giveback → ℕ → List Question
asked_by s rounds e = asked_of s e rounds

-- after these givebacks the first pending transfers had the replies that were due, and the devices heard what was asked for all
pub record AreDueSoFar (s : Scene) (rounds : List Giveback) (start : ℕ → Transfer) (so : ℕ → List Reply) (devices : List Scripted) : Type 0 where
  pub due : (e : ℕ) → so e ≡ next_due s e (asked_by s rounds e) (asks s e (start e) (length (so e)))
  pub shows : ShowsDevices s (asked_for s (asked_by s rounds) start so) devices

-- the replies of the next giveback are those that are due
abbrev pub IsDueNext : Scene → List Giveback → Giveback → Type 0
IsDueNext s rounds r = r.replies ≡ next_due s (home s r.urb) (asked_of s (home s r.urb) rounds) (asked_in s r)

-- and it leaves these replies
pub record GaveDue (s : Scene) (rounds : List Giveback) (r : Giveback) (start : ℕ → Transfer) (now : ℕ → List Reply) (devices : List Scripted) : Type 0 where
  pub next : IsDueNext s rounds r
  pub still : AreDueSoFar s (rounds ++ r ∷ []) start now devices
