-- A call that submits an URB.
use Rattle.std.proofs.Common.{ℕ, ◌≡◌, ◌<◌, Option, Some, None, List, [], ◌++◌, length, refl, sym, ap, ◌∙◌, subst, append-nil}
use Rattle.std.specs.Prelude.{slice_get}
use Rattle.usb_types.specs.declared.errno.Errno.{Errno}
use Rattle.usb_types.specs.declared.errno.Code.{Code}
use Rattle.usb_types.specs.declared.errno.Code.TheVariants.{Fault}
use Rattle.usb_machine.specs.declared.transfer.Transfer.{Transfer}
use Rattle.usb_machine.specs.declared.entry.Entry.{Entry}
use Rattle.usb_machine.specs.Shapes.{HasWindow, Accepts, shape_fault}
use Rattle.usb_machine.specs.State.{refusal}
use Rattle.usb_machine.specs.History.{state_of}
use Rattle.usb_machine.specs.Plain.{Stands}
use Rattle.usb_machine.specs.Calls.{submit_entries}
use Rattle.usb_scene.specs.declared.scene.Scene.{Scene}
use Rattle.usb_scene.specs.declared.scene.Call.{Call}
use Rattle.usb_scene.specs.WellFormed.{IsBuffer}
use Rattle.usb_line.specs.declared.run.UrbRow.{UrbRow}
use Rattle.usb_line.specs.declared.run.LineRun.{LineRun}
use Rattle.usb_trace.specs.declared.rows.HostCall.{HostCall}
use Rattle.usb_trace.specs.declared.rows.HostCall.TheVariants as host_call
use Rattle.usb_trace.specs.declared.rows.CallAnswer.TheVariants as told
use Rattle.usb_prepare.specs.Ends.{shape_at, shapes_of}
use Rattle.usb_prepare.specs.Layout.{urb_count, home}
use Rattle.usb_trace.specs.Plan.{machine_of, fresh, submit_fault, pass_of, host_call_of}
use Rattle.usb_trace.specs.Run.{submit_of, host_call_entries, down_after}
use Rattle.usb_line.specs.Line.{Progress, adds, call_record, answer_now, submit_answer, at_once}
use Rattle.usb_line.specs.Shows.{Shows}
use Rattle.usb_line.specs.Calls.{MayMake, Made}
use Rattle.usb_line.specs.Sent.{MaySend, Sent}
use Rattle.usb_trace.proofs.Stills.{AreStill}
use Rattle.usb_trace.specs.Devices.{IsApt}
use Rattle.usb_trace.proofs.Homes.{has_home, home_takes, fresh_window}
use Rattle.usb_line.proofs.OnInterface.{fresh_apt}
use Rattle.usb_prepare.proofs.Facts.{home_near}
use Rattle.usb_line.proofs.Showing.{shows_called}
use Rattle.usb_line.proofs.Calling.{can, there, is_there, near_plain, made_now}

module _ (s : Scene) (f : Progress) (i : ℕ) (c : Call) (run : LineRun) (p u : ℕ) (may : MayMake s f i c run p (host_call.Submit u)) where
  pub near : u < urb_count s
  near = is_there s f i c run p (host_call.Submit u) may

  pub few_bytes : IsBuffer c.bytes
  few_bytes = (can s f i c run p (host_call.Submit u) may).is.bytes

  pub row_near : u < length run.urbs.items
  row_near = subst (λ n. u < n) (sym may.shows.all_urbs) near

  pub end_near : (row : UrbRow) → slice_get run.urbs.items u ≡ Some row → row.home < length run.ends.items
  end_near row at = subst (λ n. row.home < n) (sym may.shows.all_ends) (subst (λ (e : ℕ). e < length (shapes_of s)) (sym (may.shows.each_urb u row at).at) (home_near s may.good u near))

  pub known : u < length run.plain.states.items
  known = near_plain s f i c run p (host_call.Submit u) may u near

  -- its shape has a fault
  pub fault_is : (t : Transfer) (o : Option Errno) → t ≡ fresh s u c → o ≡ shape_fault (shape_at s (home s u)) t → submit_fault s u c ≡ o
  fault_is t o is e = ap (shape_fault (shape_at s (home s u))) (sym is) ∙ sym e

  pub made_fault : (x : Errno) → submit_fault s u c ≡ Some x → Made s f i c (told.Code (Fault x)) run
  made_fault x fault =
      let none : submit_of (submit_fault s u c) p u (fresh s u c) (Fault x) ≡ [] = ap (λ o. submit_of o p u (fresh s u c) (Fault x)) fault in
      made_now s f i c run p (host_call.Submit u) may (told.Code (Fault x)) run.plain run.down
      (ap (λ o. Some (told.Code (submit_answer o (refusal (state_of f.history u))))) fault)
      (subst AreStill (sym none) tt)
      (subst (λ xs. Stands run.plain (machine_of s) (f.history ++ xs)) (sym none) (subst (Stands run.plain (machine_of s)) (sym (append-nil f.history)) may.shows.stands))
      may.shows.host

  module _ (t : Transfer) (is : t ≡ fresh s u c) (none : submit_fault s u c ≡ None) where
    pub may_send : MaySend s f run p u t
    may_send = record {
      shows = may.shows;
      apt = subst (IsApt s u) (sym is) (fresh_apt s may.good u c (can s f i c run p (host_call.Submit u) may).is may.does none);
      ask = record {
        there = there s f i c run p (host_call.Submit u) may;
        has = has_home s may.good u near;
        window = subst HasWindow (sym is) (fresh_window s may.good u c few_bytes);
        unmoved = ap (λ (t : Transfer). t.actual) is;
        taken = subst (Accepts (slice_get (shapes_of s) (home s u))) (sym is) (home_takes s may.good u near c none);
      };
    }

    pub made_sent : (code : Code) (now : LineRun) → Sent s f p u t code now → Made s f i c (told.Code code) now
    made_sent code now sent =
        let xs : List Entry = host_call_entries s (pass_of s i) c (host_call_of s c) (told.Code code) [] [] f.down in
        let same : submit_entries p u t code ≡ xs
        = ap (λ t. submit_entries p u t code) is ∙ (ap (λ o. submit_of o p u (fresh s u c) code) (sym none) ∙ (λ j. host_call_entries s (sym may.pass j) c (sym may.does j) (told.Code code) [] [] f.down)) in
        let shows : Shows s (adds f xs) now = subst (λ xs. Shows s (adds f xs) now) same sent.shows in
        record {
          did = call_record f i c (told.Code code) [] [];
          far = adds f xs;
          makes = at_once (told.Code code) (ap (answer_now s f c) may.does
              ∙ (ap (λ o. Some (told.Code (submit_answer o (refusal (state_of f.history u))))) none ∙ ap (λ c. Some (told.Code c)) (sym sent.gate)));
          told = refl;
          shows = shows_called s (adds f xs) now shows (call_record f i c (told.Code code) [] []) now.down (shows.host ∙ ap (λ (d : HostCall). down_after f.down d (told.Code code)) (sym may.does));
        }
