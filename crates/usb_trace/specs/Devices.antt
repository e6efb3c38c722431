-- What the devices of a run heard, and which transfers an URB may have.
use Rattle.std.specs.Prelude.{ℕ, ◌≡◌, ◌<◌, true, false, List, ◌++◌, length, slice_get, Option, Some, None}
use Rattle.usb_machine.specs.declared.transfer.Transfer.{Transfer}
use Rattle.usb_xfer.specs.Direction.{asked_at}
use Rattle.usb_xfer.specs.Moved.{question_of}
use Rattle.usb_xfer.specs.Replies.{Question}
use Rattle.usb_device.specs.declared.scripted.Scripted.{Scripted}
use Rattle.usb_device.specs.Device.{Call, questions_at, Stands}
use Rattle.usb_device.specs.Laws.{sets_halt, NoneHalts}
use Rattle.usb_class.specs.Handler.{is_ctl}
use Rattle.usb_class.specs.declared.owner.Owner.{Owner}
use Rattle.usb_scene.specs.declared.scene.Scene.{Scene}
use Rattle.usb_scene.specs.declared.scene.SceneDevice.{SceneDevice}
use Rattle.usb_prepare.specs.Ends.{ends_of, shape_at, is_raw_at}
use Rattle.usb_prepare.specs.Layout.{urb_count, home}
use Rattle.usb_trace.specs.Plan.{owner_of}
use Rattle.usb_trace.specs.Due.{is_ruled, heard_before}

-- the setup packet of a transfer with which a driver may go on: none
abbrev pub IsBare : Option Owner → Option (List ℕ) → Type 0
IsBare None setup = Unit {0}
IsBare (Some o) setup = is_ctl o.role ≡ false → setup ≡ None

-- URB u may have this transfer: its home is asked at its own address, the transfer halts no endpoint of a device that isn't
-- raw, and where a driver may go on with it, it has no setup packet
pub record IsApt (s : Scene) (u : ℕ) (t : Transfer) : Type 0 where
  pub near : u < urb_count s
  pub asked : asked_at (shape_at s (home s u)) ≡ (shape_at s (home s u)).address
  pub tame : is_raw_at s (shape_at s (home s u)).device ≡ false → sets_halt (question_of (shape_at s (home s u)) t) ≡ false
  pub bare : IsBare (owner_of s u) t.setup

-- the device heard these calls: at each of its endpoints as many as the endpoint was asked in the run, and at one that answers
-- by rules those questions, after what it heard before. One of a class was asked for no halt
pub record ShowsDevice (s : Scene) (asked : ℕ → List Question) (d : ℕ) (scripted : Scripted) : Type 0 where
  pub device : SceneDevice
  pub at : slice_get s.devices d ≡ Some device
  pub calls : List Call
  pub stands : Stands scripted device.script calls
  pub counts : (e : ℕ) → e < ends_of s → (shape_at s e).device ≡ d → is_ruled s e ≡ false → length (questions_at (shape_at s e).address calls) ≡ length (asked e)
  pub rules : (e : ℕ) → e < ends_of s → (shape_at s e).device ≡ d → is_ruled s e ≡ true → questions_at 0 calls ≡ questions_at 0 (heard_before s d) ++ asked e
  pub unhalted : is_raw_at s d ≡ false → NoneHalts calls

-- each device of the scene is there, and heard what the run asked of its endpoints
pub record ShowsDevices (s : Scene) (asked : ℕ → List Question) (devices : List Scripted) : Type 0 where
  pub all : length devices ≡ length s.devices
  pub each : (d : ℕ) (scripted : Scripted) → slice_get devices d ≡ Some scripted → ShowsDevice s asked d scripted
