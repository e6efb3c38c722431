-- A line without a cause against it leaves the scene well formed.
use Rattle.std.proofs.Common.{◌≡◌, ℕ, ◌-◌, ◌<◌, ◌≤◌, ◌^◌, ◌⊎◌, inl, inr, Bool, true, false, cond, eqb, List, [], ◌∷◌, ◌++◌, length, Option, Some, None, refl, sym, ap, ◌∙◌, arith, subst, lit≤}
use Rattle.std.specs.Prelude.{nat_le, nat_lt, not, ◌&&◌, ◌||◌, unwrap_or, position, slice_get, is_some, codes}
use Rattle.std.specs.List.{list_all}
use Rattle.std.specs.Str.{bytes_eq}
use Rattle.std.proofs.lemmas.Bool.{and_parts, or_cases, ltb-true, leb-true, eqb-true, not-true}
use Rattle.std.proofs.lemmas.List.{length_push}
use Rattle.std.proofs.lemmas.List.Elements.{All-push, All-weaker}
use Rattle.usb_machine.specs.declared.layout.EndKind.{EndKind}
use Rattle.usb_machine.specs.declared.layout.Shape.{Shape}
use Rattle.usb_text.specs.Written.{AreBytes}
use Rattle.usb_xfer.specs.declared.script.Item.{Item}
use Rattle.usb_xfer.specs.declared.script.Answers.{Answers}
use Rattle.usb_xfer.specs.declared.script.Kind.{Kind}
use Rattle.usb_scene.specs.declared.scene.Scene.{Scene}
use Rattle.usb_scene.specs.declared.scene.SceneDevice.{SceneDevice}
use Rattle.usb_scene.specs.declared.scene.SceneThread.{SceneThread}
use Rattle.usb_scene.specs.declared.scene.SceneUrb.{SceneUrb}
use Rattle.usb_statement.specs.declared.keyword.DeviceBytes.{DeviceBytes}
use Rattle.usb_statement.specs.declared.keyword.DeviceBytes.TheVariants.{Desc, Config, Id}
use Rattle.usb_statement.specs.declared.keyword.Keyword.TheVariants as word
use Rattle.usb_statement.specs.declared.statement.Statement.{Statement}
use Rattle.usb_statement.specs.declared.statement.Statement.TheVariants as say
use Rattle.usb_statement.specs.Sayable.{IsEndAddress, is_end_kind, IsAnswerLine, IsSayable}
use Rattle.usb_statement.specs.Statements.{is_empty, keyword_said}
use Rattle.usb_scene.specs.WellFormed.{is_raw, is_printer, is_packet, IsDevice, HasEnd, IsUrb, IsBuilt, IsThread}
use Rattle.usb_scene.specs.Rules.{SoFar, in_devices, last_device, is_of, takes, may_stand, fits_device, urb_target, interface_target, device_number, urb_number, are_once, numbered_device, has_end, has_address, is_home, is_low, most_of, has_call_left, carries_within, given_len, len_in, again_in, raises, held_now}
use Rattle.usb_scene.specs.Growth.{on_last, bare_device, end_said, with_end, with_bytes, with_port, with_answers, urb_said, urb_call_code, interface_call_code, last_changed, scene_with}
use Rattle.usb_scene.specs.Counts.{AreFair}
use Rattle.usb_scene.proofs.Allowed.{IsAllowed, urb_found, called_built, interface_built}
use Rattle.usb_scene.proofs.Devices.{end_range, end_kind, good_items, fitting, new_device, device_with_end, device_with_bytes, device_with_port, device_with_answers}
use Rattle.usb_scene.proofs.SoundCalls.{IsNotServer, IsSound, urb_kept, threads_kept, new_thread, submit_sound, urb_codes, urb_sound, alone_sound, interface_codes, interface_sound}
use Rattle.usb_scene.proofs.Scenes.{length-on_last, not_empty}
use Rattle.usb_scene.proofs.Pushed.{All-empty, Each, each_push, each_last, Once, once_push, once_last, not_found, same_bytes}

-- URBs
has_home : (address : ℕ) (o : Option SceneDevice) → is_home o address ≡ true → HasEnd address o
has_home address None h = cc
has_home address (Some device) h =
    let p = and_parts (is_raw device.script.kind) (has_address (Some device) address) h in (
      p.0,
      elim (or_cases (eqb address 0) (has_end (Some device) address) p.1) as (λ _. (address ≡ 0) ⊎ (has_end (Some device) address ≡ true))
          [ inl x ↦ inl (eqb-true address 0 x) | inr y ↦ inr y ],
    )

home_of : (s : Scene) (o : Option ℕ) (address : ℕ) → is_home (numbered_device s o) address ≡ true → HasEnd address (slice_get s.devices (unwrap_or o 0))
home_of s None address h = cc
home_of s (Some n) address h = has_home address (slice_get s.devices n) h

-- a scene whose devices change while it has nothing else
devices_sound : (s : Scene) (devices : List SceneDevice) → in_devices s ≡ true → length devices ≤ 16 → Each IsDevice devices → Once (λ (d : SceneDevice). d.name) devices
    → IsSound s → IsSound (record s { devices = devices })
devices_sound s devices place few each once h =
    let empty = and_parts (is_empty s.urbs) (is_empty s.threads) place in
    let t : Scene = record s { devices = devices } in
    record {
      formed = record {
        few_devices = few;
        few_urbs = h.formed.few_urbs;
        few_threads = h.formed.few_threads;
        devices = each;
        urbs = All-empty (IsUrb t) s.urbs empty.0;
        threads = All-empty (IsThread t) s.threads empty.1;
        device_names = once;
        urb_names = h.formed.urb_names;
        thread_names = h.formed.thread_names;
        not_server = h.formed.not_server;
      };
      fair = h.fair;
    }

-- a change of the device whose lines are being read
last_sound : (s : Scene) (f : SceneDevice → SceneDevice) → ((d : SceneDevice) → (f d).name ≡ d.name) → is_empty s.devices ≡ false → in_devices s ≡ true
    → ((d : SceneDevice) → last_device s ≡ Some d → IsDevice (length s.devices - 1) d → IsDevice (length s.devices - 1) (f d)) → IsSound s → IsSound (last_changed f s)
last_sound s f same some place change h =
    devices_sound s (on_last f s.devices) place (omega (arith, h.formed.few_devices, length-on_last f s.devices))
    (each_last IsDevice f s.devices some h.formed.devices change) (once_last (λ (d : SceneDevice). d.name) f same s.devices h.formed.device_names) h

has_device : (s : Scene) (test : Kind → Bool) → is_of test (last_device s) ≡ true → is_empty s.devices ≡ false
has_device s test h = go s.devices h
  where
    go : (xs : List SceneDevice) → is_of test (slice_get xs (length xs - 1)) ≡ true → is_empty xs ≡ false
    go [] h = cc
    go (x ∷ xs) h = refl

-- the kind of the last device
kind_at : (test : Kind → Bool) (o : Option SceneDevice) (d : SceneDevice) → is_of test o ≡ true → o ≡ Some d → test d.script.kind ≡ true
kind_at test o d h e = sym (ap (is_of test) e) ∙ h

-- an endpoint that is new
end_sound : (s : Scene) (address : ℕ) (kind : EndKind) (size interval : ℕ) → may_stand s word.Ep ≡ true → IsEndAddress address → is_end_kind kind ≡ true → size ≤ 1024 → interval ≤ 255
    → has_end (last_device s) address ≡ false → IsSound s → IsSound (last_changed (with_end (end_said s address kind size interval)) s)
end_sound s address kind size interval place end of_end few soon new h =
    let shape : Shape = end_said s address kind size interval in
    let p = and_parts (is_of is_raw (last_device s)) (in_devices s) place in
    last_sound s (with_end shape) (λ d. refl) (has_device s is_raw p.0) p.1
    (λ d e g. device_with_end (length s.devices - 1) shape d
    (record { device = refl; address = end_range address end; kind = end_kind kind of_end; most = few; interval = soon })
    (kind_at is_raw (last_device s) d p.0 e) (sym (ap (λ o. has_end o address) e) ∙ new) g) h

bytes_name : (which : DeviceBytes) (bytes : List ℕ) (d : SceneDevice) → (with_bytes which bytes d).name ≡ d.name
bytes_name Desc bytes d = refl
bytes_name Config bytes d = refl
bytes_name Id bytes d = refl

bytes_sound : (s : Scene) (which : DeviceBytes) (bytes : List ℕ) → may_stand s (word.Bytes which) ≡ true → AreBytes bytes → length bytes ≤ most_of which
    → IsSound s → IsSound (last_changed (with_bytes which bytes) s)
bytes_sound s which bytes place are few h =
    let p = and_parts (is_of (takes which) (last_device s)) (in_devices s) place in
    last_sound s (with_bytes which bytes) (bytes_name which bytes) (has_device s (takes which) p.0) p.1
    (λ d e g. device_with_bytes (length s.devices - 1) which bytes d (kind_at (takes which) (last_device s) d p.0 e) are few g) h

port_sound : (s : Scene) (status : ℕ) → may_stand s word.Port ≡ true → status < 256 → IsSound s → IsSound (last_changed (with_port status) s)
port_sound s status place small h =
    let p = and_parts (is_of is_printer (last_device s)) (in_devices s) place in
    last_sound s (with_port status) (λ d. refl) (has_device s is_printer p.0) p.1
    (λ d e g. device_with_port (length s.devices - 1) status d (kind_at is_printer (last_device s) d p.0 e) small g) h

answer_sound : (s : Scene) (address : ℕ) (items : List Item) → may_stand s word.Answer ≡ true → IsAnswerLine address items → fits_device s (say.Answer address items) ≡ true
    → IsSound s → IsSound (last_changed (with_answers (record { address = address; items = items })) s)
answer_sound s address items place sayable fits h =
    let answers : Answers = record { address = address; items = items } in
    let p = and_parts (not (is_empty s.devices)) (in_devices s) place in
    last_sound s (with_answers answers) (λ d. refl) (not_empty s.devices p.0) p.1
    (λ d e g. device_with_answers (length s.devices - 1) answers d (good_items address items sayable.each sayable.fit)
    (fitting address (is_raw d.script.kind) items
    (sym (ap (λ o. not (eqb address 0) || is_of is_raw o || list_all (λ (item : Item). not (is_packet item.what)) items) e) ∙ fits)) g) h

thread_sound : (s : Scene) (name : List ℕ) → length s.threads < 16 → is_some (position (λ (t : SceneThread). bytes_eq t.name name) s.threads) ≡ false → bytes_eq name (codes "server") ≡ false → IsSound s
    → IsSound (record s { threads = s.threads ++ record { name = name; calls = [] } ∷ [] })
thread_sound s name few new other h =
    let thread : SceneThread = record { name = name; calls = [] } in
    let t : Scene = record s { threads = s.threads ++ thread ∷ [] } in
    record {
      formed = record {
        few_devices = h.formed.few_devices;
        few_urbs = h.formed.few_urbs;
        few_threads = omega (arith, few, length_push s.threads thread);
        devices = h.formed.devices;
        urbs = All-weaker (IsUrb s) (IsUrb t) (urb_kept s t refl) s.urbs h.formed.urbs;
        threads = All-push (IsThread t) s.threads thread (threads_kept s t (record { devices = refl; urbs = omega arith }) h.formed.threads) (new_thread t name);
        device_names = h.formed.device_names;
        urb_names = h.formed.urb_names;
        thread_names = once_push (λ (x : SceneThread). x.name) s.threads thread h.formed.thread_names
            (λ i a e same. not_found (λ (x : SceneThread). bytes_eq x.name name) s.threads i a new e (same_bytes a.name name same));
        not_server = All-push IsNotServer s.threads thread h.formed.not_server other;
      };
      fair = All-push (λ (x : SceneThread). AreFair x.calls) s.threads thread h.fair (λ u. omega arith);
    }

urb_line_sound : (s : Scene) (urb : SceneUrb) → length s.urbs < 256 → is_some (urb_number s urb.name) ≡ false → IsUrb s urb → IsSound s
    → IsSound (record s { urbs = s.urbs ++ urb ∷ [] })
urb_line_sound s urb few unused new h =
    let t : Scene = record s { urbs = s.urbs ++ urb ∷ [] } in
    let longer = length_push s.urbs urb in
    record {
      formed = record {
        few_devices = h.formed.few_devices;
        few_urbs = omega (arith, few, longer);
        few_threads = h.formed.few_threads;
        devices = h.formed.devices;
        urbs = All-push (IsUrb t) s.urbs urb (All-weaker (IsUrb s) (IsUrb t) (urb_kept s t refl) s.urbs h.formed.urbs) (urb_kept s t refl urb new);
        threads = threads_kept s t (record { devices = refl; urbs = omega (arith, longer) }) h.formed.threads;
        device_names = h.formed.device_names;
        urb_names = once_push (λ (x : SceneUrb). x.name) s.urbs urb h.formed.urb_names
            (λ i a e same. not_found (λ (x : SceneUrb). bytes_eq x.name urb.name) s.urbs i a unused e (same_bytes a.name urb.name same));
        thread_names = h.formed.thread_names;
        not_server = h.formed.not_server;
      };
      fair = h.fair;
    }

pub sound_with : (s : SoFar) (line : ℕ) (said : Statement) → IsSound s.scene → may_stand s.scene (keyword_said said) ≡ true → IsSayable said → IsAllowed s said → line < 2 ^ 31
    → IsSound (scene_with s.scene line said)
sound_with s line (say.Device name kind) h place sayable allowed low =
    let devices = s.scene.devices in
    devices_sound s.scene (devices ++ bare_device name kind ∷ []) place (omega (arith, length_push devices (bare_device name kind), ltb-true (length devices) 16 allowed.within))
    (each_push IsDevice devices (bare_device name kind) h.formed.devices (new_device (length devices) name kind))
    (once_push (λ (d : SceneDevice). d.name) devices (bare_device name kind) h.formed.device_names
    (λ i a e same. not_found (λ (d : SceneDevice). bytes_eq d.name name) devices i a (not-true (is_some (device_number s.scene name)) allowed.new) e (same_bytes a.name name same))) h
sound_with s line (say.Ep address kind size interval) h place sayable allowed low =
    let limits = and_parts (nat_le size 1024) (nat_le interval 255) allowed.within in
    end_sound s.scene address kind size interval place sayable.address_of_end sayable.kind_of_end (leb-true size 1024 limits.0) (leb-true interval 255 limits.1)
    (not-true (has_end (last_device s.scene) address) allowed.new) h
sound_with s line (say.Bytes which bytes) h place sayable allowed low =
    bytes_sound s.scene which bytes place sayable.0 (leb-true (length bytes) (most_of which) allowed.within) h
sound_with s line (say.Port status) h place sayable allowed low = port_sound s.scene status place sayable h
sound_with s line (say.Answer address items) h place sayable allowed low = answer_sound s.scene address items place sayable allowed.fits h
sound_with s line (say.Urb name device address options) h place sayable allowed low =
    let limits = and_parts (nat_le (len_in options) 16384 && nat_le (again_in options) 63) (nat_lt (length s.scene.urbs) 256) allowed.within in
    let numbers = and_parts (nat_le (len_in options) 16384) (nat_le (again_in options) 63) limits.0 in
    let unused = (and_parts (not (is_some (urb_number s.scene name))) (are_once options) allowed.new).0 in
    urb_line_sound s.scene (urb_said s.scene name device address options) (ltb-true (length s.scene.urbs) 256 limits.1) (not-true (is_some (urb_number s.scene name)) unused)
    (record { home = home_of s.scene (device_number s.scene device) address allowed.named; len = leb-true (len_in options) 16384 numbers.0; again = leb-true (again_in options) 63 numbers.1 }) h
sound_with s line (say.Thread name) h place sayable allowed low =
    let p : SceneThread → Bool = λ (t : SceneThread). bytes_eq t.name name in
    let new = and_parts (not (is_some (position p s.scene.threads))) (not (bytes_eq name (codes "server"))) allowed.new in
    thread_sound s.scene name (ltb-true (length s.scene.threads) 16 allowed.within) (not-true (is_some (position p s.scene.threads)) new.0)
    (not-true (bytes_eq name (codes "server")) new.1) h
sound_with s line (say.Submit urb setup bytes) h place sayable allowed low =
    let limits = and_parts (has_call_left s.scene) (nat_le (given_len bytes) 16384) allowed.within in
    let v = urb_found s.scene urb allowed.named in
    let there = subst (IsBuilt s.scene 1) (sym v.2) (lit≤ tt, lit≤ tt, v.1) in
    submit_sound s.scene line (urb_target s.scene urb) setup bytes (not_empty s.scene.threads place) there (leb-true (given_len bytes) 16384 limits.1) low h
sound_with s line (say.OnUrb call urb) h place sayable allowed low =
    let limits = and_parts (has_call_left s.scene && is_low urb) (cond (raises call) (nat_lt (held_now s.scene urb) 100) true) allowed.within in
    let few = and_parts (has_call_left s.scene) (is_low urb) limits.0 in
    let codes = urb_codes call in
    let there = called_built s.scene (urb_call_code call) urb codes.0 codes.1 allowed.named few.1 in
    urb_sound s.scene line (urb_target s.scene urb) call (not_empty s.scene.threads place) there low limits.1 allowed.held h
sound_with s line (say.Alone call) h place sayable allowed low =
    alone_sound s.scene line call (not_empty s.scene.threads place) low allowed.hub h
sound_with s line (say.OnInterface call device interface) h place sayable allowed low =
    let limits = and_parts (has_call_left s.scene && nat_le interface 255) (carries_within call) allowed.within in
    let few = and_parts (has_call_left s.scene) (nat_le interface 255) limits.0 in
    let codes = interface_codes call in
    let there = interface_built s.scene (interface_call_code call) device interface codes.0 codes.1 (leb-true interface 255 few.1) allowed.named in
    interface_sound s.scene line (interface_target s.scene device interface) call (not_empty s.scene.threads place) there low sayable.carried limits.1 h
