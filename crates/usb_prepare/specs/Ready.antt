-- What the run of a scene begins with.
use Rattle.std.specs.Prelude.{ℕ, ◌≡◌, ◌≢◌, true, List, [], length, slice_get, Some}
use Rattle.usb_device.specs.declared.scripted.Scripted.{Scripted}
use Rattle.usb_device.specs.Device.{Call, questions_at, Stands}
use Rattle.usb_device.specs.Laws.{NoneHalts}
use Rattle.usb_scene.specs.declared.scene.Scene.{Scene}
use Rattle.usb_scene.specs.declared.scene.SceneDevice.{SceneDevice}
use Rattle.usb_scene.specs.WellFormed.{is_raw}
use Rattle.usb_prepare.specs.declared.prepared.Prepared.{Prepared}
use Rattle.usb_prepare.specs.Layout.{layout_of}
use Rattle.usb_prepare.specs.Bindings.{HaveHeard}
use Rattle.usb_prepare.specs.Prepared.{ids_of, probes_of, found_of}

-- a device before the run: a raw one heard no call; an enumeration and a probe ask 00 alone, and set no endpoint's halt
pub record IsReady (device : SceneDevice) (scripted : Scripted) : Type 0 where
  pub calls : List Call
  pub stands : Stands scripted device.script calls
  pub unasked : is_raw device.script.kind ≡ true → calls ≡ []
  pub at_00 : (address : ℕ) → address ≢ 0 → questions_at address calls ≡ []
  pub unhalted : NoneHalts calls

-- each of these devices is there
pub record AreReady (devices : List SceneDevice) (all : List Scripted) : Type 0 where
  pub count : length all ≡ length devices
  pub each : (d : ℕ) (device : SceneDevice) (scripted : Scripted) → slice_get devices d ≡ Some device → slice_get all d ≡ Some scripted → IsReady device scripted

-- the scene is prepared: each device heard its enumeration and its probes
pub record IsPrepared (s : Scene) (p : Prepared) : Type 0 where
  pub devices : AreReady s.devices p.devices.items
  pub heard : HaveHeard s.devices (probes_of s).heard p.devices.items
  pub found : p.found ≡ found_of s
  pub board : p.board ≡ (probes_of s).board
  pub ids : p.ids ≡ ids_of s
  pub layout : p.layout ≡ layout_of s
