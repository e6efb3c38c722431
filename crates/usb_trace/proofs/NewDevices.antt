-- The devices of a scene before a run has asked them anything.
use Rattle.std.proofs.Common.{ℕ, ◌≡◌, Bool, true, false, Some, List, [], ◌++◌, length, refl, sym, ap, ◌∙◌, arith, append-nil, true≢false}
use Rattle.std.specs.Prelude.{slice_get}
use Rattle.std.proofs.lemmas.Option.{slice_get-get_or, slice_get_within}
use Rattle.usb_device.specs.declared.scripted.Scripted.{Scripted}
use Rattle.usb_device.specs.Device.{questions_at, Call}
use Rattle.usb_xfer.specs.Replies.{Question}
use Rattle.usb_scene.specs.declared.scene.Scene.{Scene}
use Rattle.usb_scene.specs.declared.scene.SceneDevice.{SceneDevice}
use Rattle.usb_scene.specs.WellFormed.{is_raw, IsWellFormed}
use Rattle.usb_prepare.specs.Ends.{shape_at, raw_in, is_raw_at}
use Rattle.usb_prepare.specs.Bindings.{HaveHeard}
use Rattle.usb_prepare.specs.Prepared.{probes_of}
use Rattle.usb_prepare.specs.Ready.{AreReady}
use Rattle.usb_prepare.proofs.Facts.{unhalted_before}
use Rattle.usb_trace.specs.Due.{heard_before}
use Rattle.usb_trace.specs.Devices.{ShowsDevice, ShowsDevices}
use Rattle.usb_trace.proofs.CoresSeen.{some_at}
use Rattle.usb_trace.proofs.Devices.{ruled_at, packets_at}

module _ (s : Scene) (good : IsWellFormed s) (devices : List Scripted) (ready : AreReady s.devices devices) (heard : HaveHeard s.devices (probes_of s).heard devices) (asked : ℕ → List Question) (unasked : (e : ℕ) → asked e ≡ []) where
  device_new : (d : ℕ) (x : Scripted) → slice_get devices d ≡ Some x → ShowsDevice s asked d x
  device_new d x at =
      let near = slice_get_within devices d x at in
      let count = ready.count in
      let there = some_at s.devices d (omega arith) in
      go there.0 there.1 (is_raw there.0.script.kind) refl
    where
      go : (device : SceneDevice) → slice_get s.devices d ≡ Some device → (b : Bool) → is_raw device.script.kind ≡ b → ShowsDevice s asked d x
      go device there true raw =
          let new = ready.each d device x there at in
          let known : is_raw_at s d ≡ true = ap raw_in there ∙ raw in record {
            device = device;
            at = there;
            calls = new.calls;
            stands = new.stands;
            counts = λ e l own is. ap (λ calls. length (questions_at (shape_at s e).address calls)) (new.unasked raw) ∙ ap (λ (q : List Question). length q) (sym (unasked e));
            rules = λ e l own is. absurd (true≢false (sym known ∙ (ap (is_raw_at s) (sym own) ∙ (ruled_at s e is).0)));
            unhalted = λ other. absurd (true≢false (sym known ∙ other));
          }
      go device there false other =
          let near = slice_get_within s.devices d device there in
          let same = heard.same in
          let calls : List Call = heard_before s d in
          let one : slice_get (probes_of s).heard d ≡ Some calls = slice_get-get_or (probes_of s).heard d [] (omega arith) in
          let bare = unhalted_before s good d device calls there one in
          let known : is_raw_at s d ≡ false = ap raw_in there ∙ other in record {
            device = device;
            at = there;
            calls = calls;
            stands = heard.each d device calls x there one at;
            counts = λ e l own is. ap (λ (q : List Question). length q) (bare.1 (shape_at s e).address (packets_at s e is (ap (is_raw_at s) own ∙ known)) ∙ sym (unasked e));
            rules = λ e l own is. sym (ap (λ l. questions_at 0 calls ++ l) (unasked e) ∙ append-nil (questions_at 0 calls));
            unhalted = λ o. bare.0;
          }

  -- each heard what it heard before
  pub devices_new : ShowsDevices s asked devices
  devices_new = record { all = ready.count; each = device_new }
