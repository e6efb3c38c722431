-- What the calls and the givebacks of a run count, each by what is kept of it.
use Rattle.std.proofs.Common.{ℕ, zero, suc, ◌≡◌, ◌+◌, ◌*◌, ◌<◌, Bool, true, false, List, [], ◌∷◌, length, map, Option, None, refl, sym, ap, ◌∙◌, arith, true≢false}
use Rattle.std.specs.Prelude.{slice_get}
use Rattle.std.specs.List.{flat_map, count_by, All}
use Rattle.std.proofs.lemmas.Bool.{and_parts}
use Rattle.usb_types.specs.declared.errno.Errno.{Errno}
use Rattle.usb_types.specs.declared.errno.Code.{Code}
use Rattle.usb_machine.specs.declared.event.Event.{Event}
use Rattle.usb_machine.specs.declared.event.Event.TheVariants.{End}
use Rattle.usb_machine.specs.declared.event.Answer.{Answer}
use Rattle.usb_machine.specs.declared.entry.Entry.{Entry}
use Rattle.usb_machine.specs.declared.entry.TheConstants.{SERVER}
use Rattle.usb_machine.specs.Calls.{plain_entry}
use Rattle.usb_scene.specs.declared.scene.Scene.{Scene}
use Rattle.usb_scene.specs.declared.scene.SceneDevice.{SceneDevice}
use Rattle.usb_scene.specs.declared.scene.Call.{Call}
use Rattle.usb_scene.specs.declared.scene.Target.{Target}
use Rattle.usb_scene.specs.declared.scene.Target.TheVariants as target
use Rattle.usb_scene.specs.declared.operation.Operation.{Operation}
use Rattle.usb_scene.specs.declared.operation.Operation.TheVariants as op
use Rattle.usb_scene.specs.Operation.{operation_of}
use Rattle.usb_scene.specs.WellFormed.{is_raw, HasDrivers, IsBuilt, IsCall}
use Rattle.usb_trace.specs.declared.rows.CallAnswer.{CallAnswer}
use Rattle.usb_trace.specs.declared.rows.CallAnswer.TheVariants as told
use Rattle.usb_trace.specs.declared.rows.CallMade.{CallMade}
use Rattle.usb_trace.specs.declared.rows.GivebackRow.{GivebackRow}
use Rattle.usb_trace.specs.declared.rows.HostCall.{HostCall}
use Rattle.usb_trace.specs.declared.rows.HostCall.TheVariants as host_call
use Rattle.usb_trace.specs.Plan.{DriverQuestion, question_at, host_call_on, host_call_alone, host_call_by, submit_fault, fresh, pass_of}
use Rattle.usb_trace.specs.Claims.{numbers_of}
use Rattle.usb_trace.specs.Run.{CallRecord, Giveback, IsAnswered, IsMade, host_call_entries, call_entries, submit_of, moved_in, resent, handled_by, given_entries, handler_entries, giveback_entries}
use Rattle.usb_trace.specs.GivebackRow.{giveback_row}
use Rattle.usb_trace.specs.Rows.{made_of}
use Rattle.usb_summary.specs.Counts.{code_in, submit_in, submit_code, again_code, is_some_of}
use Rattle.usb_summary.proofs.Counting.{bit, count-cons}
use Rattle.usb_summary.proofs.Undriven.{are_raw, none_asked}
use Rattle.usb_summary.proofs.Entries.{IsTally, counted, counted_both, still_counted, submit_counted, give_counted, handler_counted, is_submit, still_host_call}

-- no driver has an URB of a scene of raw devices
none_driven : (devices : List SceneDevice) (d : ℕ) → are_raw devices ≡ true → HasDrivers (slice_get devices d) → ⊥
none_driven [] d raw has = has
none_driven (device ∷ devices) zero raw has = true≢false (sym (and_parts (is_raw device.script.kind) (are_raw devices) raw).0 ∙ has)
none_driven (device ∷ devices) (suc d) raw has = none_driven devices d (and_parts (is_raw device.script.kind) (are_raw devices) raw).1 has

module _ (s : Scene) (raw : are_raw s.devices ≡ true) (takes : (u : ℕ) (c : Call) → u < length s.urbs → submit_fault s u c ≡ None)
    (q : Event → Answer → Bool) (such : Code → Bool) (gives : Bool) (t : IsTally q such gives) where
  abbrev sum_of : List Entry → ℕ
  sum_of xs = counted q such gives t xs

  -- a call that is no submit counts nothing
  still_call : (p : ℕ) (d : CallRecord) (x : HostCall) → is_submit x ≡ false → sum_of (host_call_entries s p d.call x d.answer d.marks (numbers_of d.rests) d.down) ≡ 0
  still_call p d x off =
      still_counted q such gives t (host_call_entries s p d.call x d.answer d.marks (numbers_of d.rests) d.down) (still_host_call s p d.call x d.answer d.marks (numbers_of d.rests) d.down off)

  -- and a submit its code
  submit_call : (p u : ℕ) (d : CallRecord) (a : CallAnswer) → u < length s.urbs → IsAnswered s d (host_call.Submit u) a
      → sum_of (host_call_entries s p d.call (host_call.Submit u) a d.marks (numbers_of d.rests) d.down) ≡ bit (is_some_of such (code_in a))
  submit_call p u d (told.Code a) near is =
      ap (λ (o : Option Errno). sum_of (submit_of o p u (fresh s u d.call) a)) (takes u d.call near) ∙ submit_counted q such gives t p u (fresh s u d.call) a
  submit_call p u d told.Nothing near is = absurd is
  submit_call p u d told.Done near is = absurd is
  submit_call p u d (told.Buffer n) near is = absurd is

  -- what an operation does on an URB counts as it is kept
  on_urb : (p : ℕ) (o : Operation) (u : ℕ) (d : CallRecord) → u < length s.urbs → IsAnswered s d (host_call_on o u) d.answer
      → sum_of (host_call_entries s p d.call (host_call_on o u) d.answer d.marks (numbers_of d.rests) d.down) ≡ bit (is_some_of such (submit_in o d.answer))
  on_urb p op.Submit u d near is = submit_call p u d d.answer near is
  on_urb p op.Unlink u d near is = still_call p d (host_call.Unlink u) refl
  on_urb p op.Kill u d near is = still_call p d (host_call.Kill u) refl
  on_urb p op.Poison u d near is = still_call p d (host_call.Poison u) refl
  on_urb p op.Unpoison u d near is = still_call p d (host_call.Unpoison u) refl
  on_urb p op.Block u d near is = still_call p d (host_call.Block u) refl
  on_urb p op.Unblock u d near is = still_call p d (host_call.Unblock u) refl
  on_urb p op.Serve u d near is = absurd is
  on_urb p op.Down u d near is = absurd is
  on_urb p op.Up u d near is = absurd is
  on_urb p (op.Interface asked) u d near is = absurd is
  on_urb p (op.Unbuilt code) u d near is = absurd is

  -- on nothing none submits
  alone : (p : ℕ) (o : Operation) (d : CallRecord) → IsAnswered s d (host_call_alone o) d.answer
      → sum_of (host_call_entries s p d.call (host_call_alone o) d.answer d.marks (numbers_of d.rests) d.down) ≡ bit (is_some_of such (submit_in o d.answer))
  alone p op.Serve d is = still_call p d host_call.Serve refl
  alone p op.Down d is = still_call p d host_call.Down refl
  alone p op.Up d is = still_call p d host_call.Up refl
  alone p op.Submit d is = absurd is
  alone p op.Unlink d is = absurd is
  alone p op.Kill d is = absurd is
  alone p op.Poison d is = absurd is
  alone p op.Unpoison d is = absurd is
  alone p op.Block d is = absurd is
  alone p op.Unblock d is = absurd is
  alone p (op.Interface asked) d is = absurd is
  alone p (op.Unbuilt code) d is = absurd is

  by_target : (p code : ℕ) (o : Operation) (on : Target) (d : CallRecord) → IsBuilt s code on → IsAnswered s d (host_call_by s o on) d.answer
      → sum_of (host_call_entries s p d.call (host_call_by s o on) d.answer d.marks (numbers_of d.rests) d.down) ≡ bit (is_some_of such (submit_in o d.answer))
  by_target p code o target.Nothing d built is = alone p o d is
  by_target p code o (target.Urb u) d built is = on_urb p o u d built.2 is
  by_target p code o (target.Role device interface role) d built is = absurd (none_driven s.devices device raw built.3)
  by_target p code o (target.Interface device interface) d built is = absurd (none_driven s.devices device raw built.3)
  by_target p code o (target.Anchor a) d built is = absurd built
  by_target p code o (target.Device device) d built is = absurd built

  -- the calls count as what is kept of them
  pub calls_counted : (ds : List CallRecord) → All (IsMade s) ds → All (IsCall s) (map (λ (d : CallRecord). d.call) ds)
      → sum_of (flat_map (call_entries s) ds) ≡ count_by (λ (m : CallMade). is_some_of such (submit_code m)) (map made_of ds)
  calls_counted [] made calls = refl
  calls_counted (d ∷ ds) made calls =
      let here : sum_of (call_entries s d) ≡ bit (is_some_of such (submit_code (made_of d))) =
      by_target (pass_of s d.thread) d.call.code (operation_of d.call) d.call.target d (calls 0 d.call (omega arith)).built (made 0 d (omega arith)).answered in
      let rest = calls_counted ds (λ k x l. made (suc k) x (omega arith)) (λ k x l. calls (suc k) x (omega arith)) in
      let both = counted_both q such gives t (call_entries s d) (flat_map (call_entries s) ds) in
      let more = count-cons (λ (m : CallMade). is_some_of such (submit_code m)) (made_of d) (map made_of ds) in
      omega arith

  round_counted : (r : Giveback) → sum_of (giveback_entries s r) ≡ bit gives + bit (is_some_of such (again_code r.outcome))
  round_counted r =
      let last : List Entry = plain_entry SERVER (End record { 0 = r.urb }) ∷ [] in
      let handled : Option DriverQuestion → List Entry = λ asking. handled_by s r.urb (moved_in s r) (resent s r) asking r.outcome in
      let all = counted_both q such gives t (given_entries r.urb r.status r.finished) (handler_entries s r) in
      let give = give_counted q such gives t r.urb r.status r.finished in
      let both = counted_both q such gives t (handled (question_at s r.urb)) last in
      let same : sum_of (handled (question_at s r.urb)) ≡ sum_of (handled None) = ap (λ asking. sum_of (handled asking)) (none_asked s raw r.urb) in
      let again = handler_counted q such gives t s r.urb (moved_in s r) (resent s r) r.outcome in
      let none = still_counted q such gives t last refl in
      omega arith

  -- and the givebacks
  pub rounds_counted : (rounds : List Giveback)
      → sum_of (flat_map (giveback_entries s) rounds)
      ≡ length (map (giveback_row s) rounds) * bit gives + count_by (λ (g : GivebackRow). is_some_of such (again_code g.outcome)) (map (giveback_row s) rounds)
  rounds_counted [] = omega arith
  rounds_counted (r ∷ rounds) =
      let here = round_counted r in
      let rest = rounds_counted rounds in
      let both = counted_both q such gives t (giveback_entries s r) (flat_map (giveback_entries s) rounds) in
      let more = count-cons (λ (g : GivebackRow). is_some_of such (again_code g.outcome)) (giveback_row s r) (map (giveback_row s) rounds) in
      omega arith
