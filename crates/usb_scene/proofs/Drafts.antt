-- The room and the counts after a line.
use Rattle.std.proofs.Common.{◌≡◌, ℕ, ◌+◌, ◌-◌, ◌≤◌, Bool, true, false, cond, List, [], ◌∷◌, ◌++◌, length, Option, None, refl, sym, ap, ◌∙◌, arith}
use Rattle.std.specs.Prelude.{nat_le, nat_lt, not, ◌&&◌, slice_get}
use Rattle.std.proofs.lemmas.Bool.{and_parts, ltb-true, leb-true}
use Rattle.std.proofs.lemmas.List.{length_push}
use Rattle.std.proofs.lemmas.List.Sums.{sum_by_push}
use Rattle.usb_xfer.specs.declared.script.Answers.{Answers}
use Rattle.usb_scene.specs.declared.scene.Scene.{Scene}
use Rattle.usb_scene.specs.declared.scene.SceneDevice.{SceneDevice}
use Rattle.usb_scene.specs.declared.scene.SceneThread.{SceneThread}
use Rattle.usb_scene.specs.declared.scene.Call.{Call}
use Rattle.usb_scene.specs.declared.scene.Target.{Target}
use Rattle.usb_scene.specs.declared.scene.Target.TheVariants as target
use Rattle.usb_statement.specs.declared.keyword.DeviceBytes.{DeviceBytes}
use Rattle.usb_statement.specs.declared.keyword.DeviceBytes.TheVariants.{Desc, Config, Id}
use Rattle.usb_statement.specs.declared.keyword.UrbCall.{UrbCall}
use Rattle.usb_statement.specs.declared.statement.Statement.{Statement}
use Rattle.usb_statement.specs.declared.statement.Statement.TheVariants as say
use Rattle.usb_statement.specs.Statements.{is_empty, keyword_said}
use Rattle.usb_scene.specs.WellFormed.{is_on, held_on, replies_of, replies_in, all_replies, calls_in, all_calls}
use Rattle.usb_scene.specs.Rules.{SoFar, in_devices, is_low, may_stand, urb_target, interface_target, has_call_left, carries_within, given_len, len_in, again_in, raises, withdraws, held_now, calls_of, last_thread}
use Rattle.usb_scene.specs.Growth.{bare_device, end_said, with_end, with_bytes, with_port, with_answers, urb_said, plain_call, urb_call_code, bare_call_code, interface_call, with_call, scene_calls, last_changed, scene_with, replies_said, calls_said}
use Rattle.usb_scene.specs.Counts.{next_count, changed, counts_after, AreFair, AreCounted, IsDraft}
use Rattle.usb_scene.specs.Named.{found_with, called_target}
use Rattle.usb_scene.proofs.Allowed.{IsAllowed}
use Rattle.usb_scene.proofs.HeldCounts.{urb_call, IsQuiet, quiet_submit, quiet_alone, quiet_interface, held_quiet, fair_quiet, held_same, held_other, fair_said, next_most}
use Rattle.usb_scene.proofs.Naming.{found_after}
use Rattle.usb_scene.proofs.Scenes.{length-on_last, last_push, calls_grown, sum_by-on_last, sum_by-on_last_same, sum_by-joined, not_empty}
use Rattle.usb_scene.proofs.Targets.{same_urb, on_turned}

-- counts that are equal
counted_as : (s : Scene) (count new : Target → ℕ) → ((urb : Target) → new urb ≡ count urb) → AreCounted s count → AreCounted s new
counted_as s count new same h = record {
  each = λ urb. same urb ∙ h.each urb;
  most = λ urb. let e = same urb in let m = h.most urb in omega arith;
  fair = h.fair;
}

-- a line that changes no script
kept : (s t : Scene) (count : Target → ℕ) → s.threads ≡ t.threads → AreCounted s count → AreCounted t count
kept s t count same h =
    let last : last_thread s ≡ last_thread t = ap (λ (ts : List SceneThread). slice_get ts (length ts - 1)) same in
    let calls = ap calls_of last in
    record { each = λ urb. h.each urb ∙ ap (held_on urb) calls; most = h.most; fair = rw (← calls) h.fair }

-- a new script holds none
begun : (s : Scene) (name : List ℕ) → AreCounted (record s { threads = s.threads ++ record { name = name; calls = [] } ∷ [] }) (λ urb. 0)
begun s name =
    let new : SceneThread = record { name = name; calls = [] } in
    let none : calls_of (slice_get (s.threads ++ new ∷ []) (length (s.threads ++ new ∷ []) - 1)) ≡ [] = ap calls_of (last_push s.threads new) in
    record {
      each = λ urb. sym (ap (held_on urb) none);
      most = λ urb. omega arith;
      fair = let P : List Call → Type 0 = AreFair in rw none (λ urb. omega arith);
    }

-- a call that changes no rejects
called : (s : Scene) (c : Call) (count : Target → ℕ) → is_empty s.threads ≡ false → IsQuiet c → AreCounted s count → AreCounted (scene_calls s c) count
called s c count some quiet h =
    let grown = calls_grown c s.threads some in
    let calls = calls_of (last_thread s) in
    record {
      each = λ urb. h.each urb ∙ sym (held_quiet urb calls c quiet) ∙ sym (ap (held_on urb) grown);
      most = h.most;
      fair = rw grown (fair_quiet calls c quiet h.fair);
    }

-- a call on URB v
each_changed : (call : UrbCall) (line : ℕ) (v u : Target) (calls : List Call) (count : Target → ℕ) (t : Bool) → AreFair calls
    → ((w : Target) → count w ≡ held_on w calls) → is_on v u ≡ t → cond t (next_count call (count v)) (count u) ≡ held_on u (calls ++ urb_call line v call ∷ [])
each_changed call line v u calls count true fair each e =
    ap (λ w. next_count call (count w)) (same_urb v u e) ∙ ap (next_count call) (each u) ∙ sym (held_same call line v u calls fair (on_turned u v true e))
each_changed call line v u calls count false fair each e = each u ∙ sym (held_other call line v u calls (on_turned u v false e))

most_changed : (call : UrbCall) (v u : Target) (calls : List Call) (count : Target → ℕ) (t : Bool)
    → ((w : Target) → count w ≡ held_on w calls) → ((w : Target) → count w ≤ 100)
    → cond (raises call) (nat_lt (held_on v calls) 100) true ≡ true → cond t (next_count call (count v)) (count u) ≤ 100
most_changed call v u calls count true each most free =
    next_most call (count v) (most v) (ap (λ n. cond (raises call) (nat_lt n 100) true) (each v) ∙ free)
most_changed call v u calls count false each most free = most u

urb_called : (s : Scene) (line : ℕ) (v : Target) (call : UrbCall) (count : Target → ℕ) → is_empty s.threads ≡ false
    → cond (raises call) (nat_lt (held_on v (calls_of (last_thread s))) 100) true ≡ true
    → cond (withdraws call) (nat_lt 0 (held_on v (calls_of (last_thread s)))) true ≡ true
    → AreCounted s count → AreCounted (scene_calls s (urb_call line v call)) (changed call v count)
urb_called s line v call count some free held h =
    let c = urb_call line v call in
    let grown = calls_grown c s.threads some in
    let calls = calls_of (last_thread s) in
    record {
      each = λ u. each_changed call line v u calls count (is_on v u) h.fair h.each refl ∙ sym (ap (held_on u) grown);
      most = λ u. most_changed call v u calls count (is_on v u) h.each h.most free;
      fair = rw grown (fair_said call line v calls h.fair held);
    }

pub counted_with : (s : SoFar) (line : ℕ) (said : Statement) (count : Target → ℕ) → may_stand s.scene (keyword_said said) ≡ true → IsAllowed s said
    → AreCounted s.scene count → AreCounted (scene_with s.scene line said) (counts_after said (called_target s.scene said) count)
counted_with s line (say.Device name kind) count place allowed h = kept s.scene _ count refl h
counted_with s line (say.Ep address kind size interval) count place allowed h = kept s.scene _ count refl h
counted_with s line (say.Bytes which bytes) count place allowed h = kept s.scene _ count refl h
counted_with s line (say.Port status) count place allowed h = kept s.scene _ count refl h
counted_with s line (say.Answer address items) count place allowed h = kept s.scene _ count refl h
counted_with s line (say.Urb name device address options) count place allowed h = kept s.scene _ count refl h
counted_with s line (say.Thread name) count place allowed h = begun s.scene name
counted_with s line (say.Submit urb setup bytes) count place allowed h =
    called s.scene (plain_call line 1 (urb_target s.scene urb) setup bytes) count (not_empty s.scene.threads place) (quiet_submit line (urb_target s.scene urb) setup bytes) h
counted_with s line (say.OnUrb call urb) count place allowed h =
    urb_called s.scene line (urb_target s.scene urb) call count (not_empty s.scene.threads place)
    (and_parts (has_call_left s.scene && is_low urb) (cond (raises call) (nat_lt (held_now s.scene urb) 100) true) allowed.within).1 allowed.held h
counted_with s line (say.Alone call) count place allowed h =
    called s.scene (plain_call line (bare_call_code call) target.Nothing None None) count (not_empty s.scene.threads place) (quiet_alone line call) h
counted_with s line (say.OnInterface call device interface) count place allowed h =
    let v = interface_target s.scene device interface in
    called s.scene (interface_call line v call) count (not_empty s.scene.threads place) (quiet_interface line v call) h

-- one call more
call_room : (s : Scene) (c : Call) (n : ℕ) → is_empty s.threads ≡ false → has_call_left s ≡ true → n + all_calls s ≡ 4096 → (n - 1) + all_calls (scene_calls s c) ≡ 4096
call_room s c n some left room =
    omega (arith, room, ltb-true (all_calls s) 4096 left, sum_by-on_last calls_in (with_call c) 1 (λ (t : SceneThread). length_push t.calls c) s.threads some)

-- few devices and URBs, and so many replies and calls may still come
pub record HasRoom (s : Scene) (more_replies more_calls : ℕ) : Type 0 where
  pub devices : length s.devices ≤ 16
  pub urbs : length s.urbs ≤ 256
  pub replies : more_replies + all_replies s ≡ 65536
  pub calls : more_calls + all_calls s ≡ 4096

-- a line that changes a device and gives no answers
device_room : (s : Scene) (f : SceneDevice → SceneDevice) (r c : ℕ) → ((d : SceneDevice) → replies_in (f d) ≡ replies_in d) → HasRoom s r c
    → HasRoom (last_changed f s) (r - 0) (c - 0)
device_room s f r c same room = record {
  devices = omega (arith, room.devices, length-on_last f s.devices);
  urbs = room.urbs;
  replies = omega (arith, room.replies, sum_by-on_last_same replies_in f same s.devices);
  calls = omega (arith, room.calls);
}

bytes_answer_none : (which : DeviceBytes) (bytes : List ℕ) (d : SceneDevice) → replies_in (with_bytes which bytes d) ≡ replies_in d
bytes_answer_none Desc bytes d = refl
bytes_answer_none Config bytes d = refl
bytes_answer_none Id bytes d = refl

-- a call more
call_made : (s : Scene) (c : Call) (r n : ℕ) → is_empty s.threads ≡ false → has_call_left s ≡ true → HasRoom s r n → HasRoom (scene_calls s c) (r - 0) (n - 1)
call_made s c r n some left room = record {
  devices = room.devices;
  urbs = room.urbs;
  replies = omega (arith, room.replies);
  calls = call_room s c n some left room.calls;
}

pub room_with : (s : SoFar) (r c line : ℕ) (said : Statement) → HasRoom s.scene r c → may_stand s.scene (keyword_said said) ≡ true → IsAllowed s said
    → HasRoom (scene_with s.scene line said) (r - replies_said said) (c - calls_said said)
room_with s r c line (say.Device name kind) room place allowed = record {
  devices = omega (arith, ltb-true (length s.scene.devices) 16 allowed.within, length_push s.scene.devices (bare_device name kind));
  urbs = room.urbs;
  replies = omega (arith, room.replies, sum_by_push replies_in s.scene.devices (bare_device name kind));
  calls = omega (arith, room.calls);
}
room_with s r c line (say.Ep address kind size interval) room place allowed =
    device_room s.scene (with_end (end_said s.scene address kind size interval)) r c (λ d. refl) room
room_with s r c line (say.Bytes which bytes) room place allowed = device_room s.scene (with_bytes which bytes) r c (bytes_answer_none which bytes) room
room_with s r c line (say.Port status) room place allowed = device_room s.scene (with_port status) r c (λ d. refl) room
room_with s r c line (say.Answer address items) room place allowed =
    let answers : Answers = record { address = address; items = items } in
    let f : SceneDevice → SceneDevice = with_answers answers in
    let some = not_empty s.scene.devices (and_parts (not (is_empty s.scene.devices)) (in_devices s.scene) place).0 in
    let more = λ (d : SceneDevice). sum_by-joined answers d.script.answers in
    record {
      devices = omega (arith, room.devices, length-on_last f s.scene.devices);
      urbs = room.urbs;
      replies = omega (arith, room.replies, leb-true (all_replies s.scene + replies_of items) 65536 allowed.within, sum_by-on_last replies_in f (replies_of items) more s.scene.devices some);
      calls = omega (arith, room.calls);
    }
room_with s r c line (say.Urb name device address options) room place allowed =
    let few = ltb-true (length s.scene.urbs) 256 (and_parts (nat_le (len_in options) 16384 && nat_le (again_in options) 63) (nat_lt (length s.scene.urbs) 256) allowed.within).1 in
    record {
      devices = room.devices;
      urbs = omega (arith, few, length_push s.scene.urbs (urb_said s.scene name device address options));
      replies = omega (arith, room.replies);
      calls = omega (arith, room.calls);
    }
room_with s r c line (say.Thread name) room place allowed =
    let new : SceneThread = record { name = name; calls = [] } in
    record {
      devices = room.devices;
      urbs = room.urbs;
      replies = omega (arith, room.replies);
      calls = omega (arith, room.calls, sum_by_push calls_in s.scene.threads new);
    }
room_with s r c line (say.Submit urb setup bytes) room place allowed =
    call_made s.scene (plain_call line 1 (urb_target s.scene urb) setup bytes) r c (not_empty s.scene.threads place)
    (and_parts (has_call_left s.scene) (nat_le (given_len bytes) 16384) allowed.within).0 room
room_with s r c line (say.OnUrb call urb) room place allowed =
    let low = and_parts (has_call_left s.scene && is_low urb) (cond (raises call) (nat_lt (held_now s.scene urb) 100) true) allowed.within in
    call_made s.scene (plain_call line (urb_call_code call) (urb_target s.scene urb) None None) r c (not_empty s.scene.threads place)
    (and_parts (has_call_left s.scene) (is_low urb) low.0).0 room
room_with s r c line (say.Alone call) room place allowed =
    call_made s.scene (plain_call line (bare_call_code call) target.Nothing None None) r c (not_empty s.scene.threads place) allowed.within room
room_with s r c line (say.OnInterface call device interface) room place allowed =
    call_made s.scene (interface_call line (interface_target s.scene device interface) call) r c (not_empty s.scene.threads place)
    (and_parts (has_call_left s.scene) (nat_le interface 255) (and_parts (has_call_left s.scene && nat_le interface 255) (carries_within call) allowed.within).0).0 room

-- what a line leaves of a draft
pub draft_with : (s : SoFar) (r c line : ℕ) (count new : Target → ℕ) (find next : List ℕ → Option ℕ) (said : Statement) → IsDraft s.scene r c count find
    → ((urb : Target) → new urb ≡ counts_after said (called_target s.scene said) count urb) → ((other : List ℕ) → next other ≡ found_with s.scene said find other)
    → may_stand s.scene (keyword_said said) ≡ true → IsAllowed s said
    → IsDraft (scene_with s.scene line said) (r - replies_said said) (c - calls_said said) new next
draft_with s r c line count new find next said h counted found place allowed =
    let room : HasRoom s.scene r c = record { devices = h.devices; urbs = h.urbs; replies = h.replies; calls = h.calls } in
    let left = room_with s r c line said room place allowed in
    record {
      devices = left.devices;
      urbs = left.urbs;
      replies = left.replies;
      calls = left.calls;
      rejects = counted_as (scene_with s.scene line said) (counts_after said (called_target s.scene said) count) new counted (counted_with s line said count place allowed h.rejects);
      names = λ other. found other ∙ found_after s line said find allowed h.names other;
    }
