-- The first pending transfer of an endpoint is moved on: it comes back, or it waits.
use Rattle.std.proofs.Common.{ℕ, ◌≡◌, ◌≢◌, ◌+◌, ◌<◌, Bool, true, false, cond, Option, Some, None, List, [], ◌∷◌, ◌++◌, length, refl, sym, ap, ◌∙◌, subst, arith, append_assoc, length-append, eq-eqb, ne_eqb, ◌≤◌}
use Rattle.std.specs.Prelude.{slice_get, slice_set}
use Rattle.std.proofs.lemmas.List.{length-set, length-replicate, replicate-append-replicate}
use mathlib.Core.Logic.{dite}
use native.Mathlib.Decide.{ℕ_discrete}
use Rattle.usb_types.specs.declared.errno.Code.{Code}
use Rattle.usb_machine.specs.declared.layout.Shape.{Shape}
use Rattle.usb_machine.specs.declared.transfer.Transfer.{Transfer}
use Rattle.usb_machine.specs.declared.entry.Entry.{Entry}
use Rattle.usb_machine.specs.declared.plain.Plain.{Plain}
use Rattle.usb_machine.specs.Shapes.{HasWindow, Accepts}
use Rattle.usb_machine.specs.History.{state_of, pending_of}
use Rattle.usb_machine.specs.Plain.{Stands}
use Rattle.usb_machine.proofs.Rooms.{queued_has_home}
use Rattle.usb_xfer.specs.Direction.{is_control}
use Rattle.usb_xfer.specs.Replies.{Reply}
use Rattle.usb_xfer.specs.declared.packet.Step.{Step}
use Rattle.usb_xfer.specs.declared.packet.Step.TheVariants.{More, Waiting, Ended}
use Rattle.usb_xfer.specs.Moved.{moved, state_by, IsOpen, question_of}
use Rattle.usb_xfer.specs.On.{Gave, RunsOn, Stops}
use Rattle.usb_device.specs.Replied.{Replied}
use Rattle.usb_scene.specs.declared.scene.Scene.{Scene}
use Rattle.usb_scene.specs.WellFormed.{IsWellFormed}
use Rattle.usb_line.specs.declared.run.EndRow.{EndRow}
use Rattle.usb_line.specs.declared.run.LineRun.{LineRun}
use Rattle.usb_prepare.specs.Ends.{shape_at, ends_of}
use Rattle.usb_prepare.specs.Layout.{home}
use Rattle.usb_trace.specs.Plan.{machine_of, owner_of}
use Rattle.usb_trace.specs.Due.{next_due, asks}
use Rattle.usb_trace.specs.Run.{Giveback, is_first, asked_of, resent}
use Rattle.usb_line.specs.Line.{Progress, asked_so_far, marked_of, replies_had, had_after, GoesTo, IsServed, round_of, given_back, waits, over, stops}
use Rattle.usb_machine.specs.Completion.{after_window}
use Rattle.usb_line.specs.Shows.{HoldsTransfer, ShowsUrb, ShowsEnd, asked_now, Shows, turns_left}
use Rattle.usb_trace.specs.Devices.{ShowsDevices}
use Rattle.usb_trace.specs.Handlers.{ShowsCores}
use Rattle.usb_line.specs.Back.{MayGive, GaveBack}
use Rattle.usb_line.specs.Turned.{code_of, SameElse, TakesOut, MovedOn, FallsAsleep, FirstAwake, EndsAt, PassesBy}
use Rattle.usb_line.proofs.MayFollow.{once}
use Rattle.usb_line.proofs.Marked.{first_unmarked}
use Rattle.usb_prepare.proofs.Facts.{home_near}
use Rattle.usb_trace.proofs.Dues.{length-due}
use Rattle.usb_trace.proofs.Questions.{control_moved}
use Rattle.usb_line.proofs.Asked.{asked_first, asked_same}
use Rattle.usb_line.proofs.Turns.{outcome_gated, clear_mark}
use Rattle.usb_line.proofs.Backs.{asked_taken, asked_others}
use Rattle.usb_device.proofs.Lookups.{each_set}
use Rattle.usb_line.proofs.Lookups.{set_read, set_twice}
use Rattle.usb_line.proofs.Pendings.{IsHeld, held_transfer}
use Rattle.usb_line.proofs.Goes.{goes}
use Rattle.usb_trace.proofs.Devices.{replies_due, devices_asked}
use Rattle.usb_line.proofs.Returned.{shows_returned, falls_returned}
use Rattle.usb_line.proofs.Posing.{can_pose_any}
use Rattle.usb_line.proofs.Falling.{moved_after, all_left, devices_keep, devices_fall, waits_keeps, driver_spends}
use Rattle.usb_line.proofs.Resending.{moved_fits}

is_ended : (step : Step) (code : Code) → Some code ≡ code_of step → step ≡ Ended code
is_ended More c e = cc
is_ended Waiting c e = cc
is_ended (Ended d) c e = let same : d ≡ c = cc in ap Ended same

is_waiting : (step : Step) → None ≡ code_of step → step ≢ More → step ≡ Waiting
is_waiting More e n = absurd (n refl)
is_waiting Waiting e n = refl
is_waiting (Ended c) e n = cc

going_on : (c : Option Code) (b : Bool) → state_by c b ≡ Waiting → c ≡ None
going_on (Some c) b e = cc
going_on None b e = refl

module _ (s : Scene) (good : IsWellFormed s) (f : Progress) (run out_run on : LineRun) (old : Shows s f run) (u : ℕ) (t now : Transfer) (others : List ℕ)
    (first : pending_of (machine_of s) f.history (home s u) ≡ u ∷ others) (out : TakesOut run out_run u (Some t)) (code : Option Code) (moves : MovedOn out_run on (home s u) t now code) where
  abbrev h : List Entry
  h = f.history

  abbrev e : ℕ
  e = home s u

  abbrev n : ℕ
  n = length moves.more

  abbrev has : IsHeld s f run old u t
  has = held_transfer s f run old u out.row t out.at out.is

  abbrev start : Transfer
  start = has.moving.start

  is_first_here : is_first u (pending_of (machine_of s) h e) ≡ true
  is_first_here = ap (is_first u) first ∙ eq-eqb u u refl

  had : replies_had s f u ≡ f.so_far e
  had = ap (λ b. cond b (f.so_far e) []) is_first_here

  there : slice_get run.ends.items e ≡ Some moves.end
  there = (λ i. slice_get (sym out.same_ends i).items e) ∙ moves.there

  abbrev shown : ShowsEnd s f e moves.end
  shown = old.each_end e moves.end there

  near_end : e < ends_of s
  near_end = home_near s good u has.near

  device_there : slice_get run.devices.items (shape_at s e).device ≡ Some moves.device
  device_there = (λ i. slice_get (sym out.same_devices i).items (sym shown.is i).device) ∙ moves.asked

  gave : Gave Replied (shape_at s e) t moves.device moves.more now moves.after
  gave = subst (λ (x : Shape). Gave Replied x t moves.device moves.more now moves.after) shown.is moves.gave

  asks_same : is_control (shape_at s e).kind ≡ true → question_of (shape_at s e) t ≡ question_of (shape_at s e) start
  asks_same c = ap (question_of (shape_at s e)) has.moving.moving ∙ control_moved (shape_at s e) c start (replies_had s f u)

  asked : asked_now s f e ≡ asked_so_far s f e start
  asked = asked_first s f e u others start first has.moving.sent

  -- the replies were those that were due
  due : moves.more ≡ next_due s e (asked_so_far s f e start) (asks s e start n)
  due = replies_due s good (asked_now s f) run.devices.items old.devices e near_end start has.moving.apt.asked has.moving.apt.tame moves.device device_there t now asks_same moves.more moves.after gave
      ∙ ap (λ l. next_due s e l (asks s e start n)) asked

  stop : Stops (shape_at s e) start (f.so_far e) moves.more now moves.step
  stop = (subst (λ (x : Shape). RunsOn x t now moves.more moves.step) shown.is moves.runs).stops start (f.so_far e) has.sent_window
      (subst (IsOpen (shape_at s e) start) had has.moving.going) (has.moving.moving ∙ ap (moved (shape_at s e) start) had)

  so_far : GoesTo s f e start n moves.step
  so_far = goes s f e start now moves.more moves.step due moves.runs.some stop

  served : IsServed s f e u start
  served = record { others = others; first = first; transfer = has.moving.sent }

  moved_now : now ≡ moved (shape_at s e) start (had_after s f e start n)
  moved_now = stop.transfer ∙ ap (λ l. moved (shape_at s e) start (f.so_far e ++ l)) due

  long : length (had_after s f e start n) ≡ length (f.so_far e) + n
  long = length-append (f.so_far e) (next_due s e (asked_so_far s f e start) (asks s e start n))
      ∙ ap (λ k. length (f.so_far e) + k) (length-due s e (asked_so_far s f e start) (asks s e start n) ∙ length-replicate n (question_of (shape_at s e) start))

  -- the endpoint was asked so much more
  more_asked : asked_of s e f.rounds ++ asks s e start (length (had_after s f e start n)) ≡ asked_now s f e ++ asks s e start n
  more_asked = ap (λ l. asked_of s e f.rounds ++ l) (ap (asks s e start) long ∙ sym (replicate-append-replicate (length (f.so_far e)) n (question_of (shape_at s e) start)))
      ∙ (sym (append_assoc (asked_of s e f.rounds) (asks s e start (length (f.so_far e))) (asks s e start n)) ∙ ap (λ l. l ++ asks s e start n) (sym asked))

  devices_so : on.devices.items ≡ slice_set run.devices.items (shape_at s e).device moves.after
  devices_so = moves.devices_so ∙ (λ i. slice_set (out.same_devices i).items (shown.is i).device moves.after)

  devices_then : (k : Progress) → asked_now s k e ≡ asked_of s e f.rounds ++ asks s e start (length (had_after s f e start n)) → ((c : ℕ) → c ≢ e → asked_now s k c ≡ asked_now s f c) → ShowsDevices s (asked_now s k) on.devices.items
  devices_then k here elsewhere = devices_asked s good (asked_now s f) run.devices.items old.devices e near_end start has.moving.apt.asked has.moving.apt.tame moves.device device_there t now asks_same moves.more moves.after gave
      (asked_now s k) (here ∙ more_asked) elsewhere on.devices.items devices_so

  -- its device has no more items left
  items_keep : all_left on.devices.items ≤ all_left run.devices.items
  items_keep = devices_keep run.devices.items on.devices.items (shape_at s e).device moves.device moves.after device_there devices_so (shape_at s e) t moves.more now gave

  mid_rows : on.urbs.items ≡ slice_set run.urbs.items u (record out.row { transfer = None })
  mid_rows = (λ i. (moves.same_urbs i).items) ∙ out.rows

  mid_ends : on.ends ≡ run.ends
  mid_ends = moves.same_ends ∙ out.same_ends

  mid_same : SameElse run on
  mid_same = record { plain = moves.same.plain ∙ out.same.plain; told = moves.same.told ∙ out.same.told; host = moves.same.host ∙ out.same.host; cores = moves.same.cores ∙ out.same.cores }

  -- as much stands after its window
  stood : after_window now ≡ after_window t
  stood = ap after_window moved_now ∙ (moved_after (shape_at s e) start (had_after s f e start n) has.sent_window ∙ sym (ap after_window has.moving.moving ∙ moved_after (shape_at s e) start (replies_had s f u) has.sent_window))

  -- it ended, and came back
  module _ (ending : Code) (is : code ≡ Some ending) (new : LineRun) (back : GaveBack on new u (Some ending) now) (unmarked : marked_of s h ≡ []) (awake : f.asleep e ≡ false) where
    abbrev r : Giveback
    r = round_of s f u ending true start (had_after s f e start n)

    ends_so : moves.step ≡ Ended ending
    ends_so = is_ended moves.step ending (sym is ∙ moves.says)

    fits : HasWindow (resent s r) × Accepts (slice_get (machine_of s).layout.shapes e) (resent s r)
    fits = moved_fits (owner_of s u) (slice_get (machine_of s).layout.shapes e) (shape_at s e) start (had_after s f e start n) ending has.taken has.moving.apt.bare has.sent_window

    may : MayGive s h r u (Some ending)
    may = record {
      can = record {
        among = once u _ others first;
        has = queued_has_home (machine_of s) u h old.stands.legal has.queued;
        window = has.sent_window;
        taken = has.taken;
        goes = fits.0;
        fits = fits.1;
        asks = can_pose_any s good u;
        settled = ((others, first), clear_mark (state_of h u).mark (first_unmarked s h e u others (home_near s good u has.near) unmarked first) (old.calm u).mark);
        gated = outcome_gated s f u ending true (moved (shape_at s e) start (had_after s f e start n));
      };
      at = refl;
      by = (refl, refl);
      idle = (old.calm u).handlers;
    }

    pub ends_at : EndsAt s f e new
    ends_at = record {
      awake = awake;
      urb = u;
      start = start;
      count = n;
      code = ending;
      at = served;
      goes = subst (GoesTo s f e start n) ends_so so_far;
      shows = shows_returned s good f run old u out.row out.at moves.end there on new mid_rows mid_ends mid_same (Some ending) now back ending true start (had_after s f e start n)
          may moved_now has.moving.apt (devices_then (given_back s f r) (asked_taken s f r is_first_here) (λ c off. asked_others s f r may.can old.stands.legal old.unmoved c (λ i. off (sym i))));
    }

    pub ended_falls : turns_left new < turns_left run
    ended_falls = falls_returned s good f run old u out.row out.at moves.end there on new mid_rows mid_ends mid_same (Some ending) now back ending true start (had_after s f e start n)
        may moved_now t out.is stood items_keep
        (λ o m own read again. devices_fall run.devices.items on.devices.items (shape_at s e).device moves.device moves.after device_there devices_so
        (driver_spends s good u start has.moving.apt o own (f.so_far e) (subst (IsOpen (shape_at s e) start) had has.moving.going) moves.more now moves.step ending stop ends_so read m again
        t moves.device moves.after gave moves.runs.some))

  -- it waits
  module _ (is : None ≡ code) (new : LineRun) (sleeps : FallsAsleep on new e u now) where
    abbrev m : Progress
    m = waits s f e start n

    rows : new.urbs.items ≡ slice_set run.urbs.items u (record out.row { transfer = Some now })
    rows =
        let same : sleeps.row ≡ record out.row { transfer = None } = set_read run.urbs.items on.urbs.items u (record out.row { transfer = None }) sleeps.row mid_rows sleeps.at in
        sleeps.rows ∙ ((λ i. slice_set (mid_rows i) u (record (same i) { transfer = Some now })) ∙ set_twice run.urbs.items u (record out.row { transfer = None }) (record out.row { transfer = Some now }))

    ends : new.ends.items ≡ slice_set run.ends.items e (record moves.end { asleep = true })
    ends =
        let both : Some sleeps.end ≡ Some moves.end = sym sleeps.there ∙ ((λ i. slice_get (mid_ends i).items e) ∙ there) in
        let same : sleeps.end ≡ moves.end = cc in
        sleeps.ends_so ∙ (λ i. slice_set (mid_ends i).items e (record (same i) { asleep = true }))

    here_so : m.so_far e ≡ had_after s f e start n
    here_so = ap (λ b. cond b (had_after s f e start n) (f.so_far e)) (eq-eqb e e refl)

    else_so : (d : ℕ) → d ≢ e → m.so_far d ≡ f.so_far d
    else_so d off = ap (λ b. cond b (had_after s f e start n) (f.so_far d)) (ne_eqb d e off)

    waiting : GoesTo s f e start n Waiting
    waiting = subst (GoesTo s f e start n) (is_waiting moves.step (is ∙ moves.says) moves.runs.stopped) so_far

    had_own : replies_had s m u ≡ had_after s f e start n
    had_own = ap (λ b. cond b (m.so_far e) []) is_first_here ∙ here_so

    had_else : (v : ℕ) → v ≢ u → replies_had s m v ≡ replies_had s f v
    had_else v off = dite (ℕ_discrete (home s v) e)
        (λ same.
        let none : is_first v (pending_of (machine_of s) h (home s v)) ≡ false = ap (λ d. is_first v (pending_of (machine_of s) h d)) same ∙ (ap (is_first v) first ∙ ne_eqb u v (λ i. off (sym i))) in
        ap (λ b. cond b (m.so_far (home s v)) []) none ∙ ap (λ b. cond b (f.so_far (home s v)) []) (sym none))
        (λ apart. ap (λ l. cond (is_first v (pending_of (machine_of s) h (home s v))) l []) (else_so (home s v) apart))

    holds_else : (v : ℕ) → v ≢ u → (o : Option Transfer) → HoldsTransfer s f v o → HoldsTransfer s m v o
    holds_else v off None q = q
    holds_else v off (Some t) q = (
      q.0,
      record {
        start = q.1.start;
        apt = q.1.apt;
        sent = q.1.sent;
        moving = q.1.moving ∙ ap (moved (shape_at s (home s v)) q.1.start) (sym (had_else v off));
        going = subst (IsOpen (shape_at s (home s v)) q.1.start) (sym (had_else v off)) q.1.going;
      },
    )

    urb_own : ShowsUrb s m u (record out.row { transfer = Some now })
    urb_own = let o = old.each_urb u out.row out.at in record {
      at = o.at;
      owner = o.owner;
      more = o.more;
      holds = (
        has.queued,
        record {
          start = start;
          apt = has.moving.apt;
          sent = has.moving.sent;
          moving = moved_now ∙ ap (moved (shape_at s e) start) (sym had_own);
          going = subst (IsOpen (shape_at s e) start) (sym had_own) (going_on _ _ waiting.state);
        },
      );
    }

    asked_here : asked_now s m e ≡ asked_of s e f.rounds ++ asks s e start (length (had_after s f e start n))
    asked_here = asked_first s m e u others start first has.moving.sent ∙ ap (λ (l : List Reply). asked_of s e f.rounds ++ asks s e start (length l)) here_so

    asked_else_here : (c : ℕ) → c ≢ e → asked_now s m c ≡ asked_now s f c
    asked_else_here c off = asked_same s f m c refl (else_so c off) (old.unmoved c) (λ v more p. (more, p, refl))

    end_own : ShowsEnd s m e (record moves.end { asleep = true })
    end_own = record {
      is = shown.is;
      sleeps = sym (ap (λ b. cond b true (f.asleep e)) (eq-eqb e e refl));
      acked = shown.acked;
    }

    end_else : (d : ℕ) (end : EndRow) → d ≢ e → ShowsEnd s f d end → ShowsEnd s m d end
    end_else d end off o = record {
      is = o.is;
      sleeps = o.sleeps ∙ sym (ap (λ b. cond b true (f.asleep d)) (ne_eqb d e off));
      acked = o.acked;
    }

    unmoved : (d : ℕ) → pending_of (machine_of s) h d ≡ [] → m.so_far d ≡ []
    unmoved d none = dite (ℕ_discrete d e)
        (λ same. let x = sym first ∙ (ap (pending_of (machine_of s) h) (sym same) ∙ none) in cc)
        (λ off. else_so d off ∙ old.unmoved d none)

    plain : new.plain ≡ run.plain
    plain = sleeps.same.plain ∙ mid_same.plain

    shows_waiting : Shows s m new
    shows_waiting = record {
      stands = subst (λ (p : Plain). Stands p (machine_of s) h) (sym plain) old.stands;
      calm = old.calm;
      linked = old.linked;
      devices = subst (λ l. ShowsDevices s (asked_now s m) l.items) (sym sleeps.same_devices) (devices_then m asked_here asked_else_here);
      few_ends = old.few_ends;
      all_ends = ap length ends ∙ (length-set run.ends.items e (record moves.end { asleep = true }) ∙ old.all_ends);
      each_end = each_set (ShowsEnd s f) (ShowsEnd s m) run.ends.items new.ends.items e (record moves.end { asleep = true }) ends old.each_end end_own end_else;
      all_urbs = ap length rows ∙ (length-set run.urbs.items u (record out.row { transfer = Some now }) ∙ old.all_urbs);
      each_urb = each_set (ShowsUrb s f) (ShowsUrb s m) run.urbs.items new.urbs.items u (record out.row { transfer = Some now }) rows old.each_urb urb_own
          (λ v row off o. record { at = o.at; owner = o.owner; more = o.more; holds = holds_else v off row.transfer o.holds });
      unmoved = unmoved;
      cores = subst (λ l. ShowsCores s f.rounds l.items) (sym (sleeps.same.cores ∙ mid_same.cores)) old.cores;
      came_back = (λ i. (sleeps.same.told i).items) ∙ ((λ i. (mid_same.told i).items) ∙ old.came_back);
      host = sleeps.same.host ∙ (mid_same.host ∙ old.host);
    }

    pub passes_waiting : f.asleep e ≡ false → PassesBy s f e new
    passes_waiting awake = record { far = m; passes = λ g p. stops e f u start n p awake served waiting; same = refl; shows = shows_waiting }

    pub waiting_keeps : turns_left new ≤ turns_left run
    waiting_keeps = waits_keeps run new u out.row t now out.at out.is stood rows
        (let same : all_left new.devices.items ≡ all_left on.devices.items = ap (λ l. all_left l.items) sleeps.same_devices in let keeps = items_keep in omega arith)

-- an endpoint that sleeps, or where nothing is pending, is passed over
pub passes_over : (s : Scene) (f : Progress) (e : ℕ) (run : LineRun) → Shows s f run → FirstAwake s f e None → PassesBy s f e run
passes_over s f e run old skip = record { far = f; passes = λ g p. over e f p skip; same = refl; shows = old }
