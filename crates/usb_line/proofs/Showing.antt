-- The run's object after entries that move no URB, after a call, and once its endpoints are woken.
use Rattle.std.proofs.Common.{ℕ, ◌≡◌, Bool, cond, Option, Some, None, List, [], ◌++◌, sym, ap, ◌∙◌, subst, refl}
use Rattle.usb_machine.specs.declared.transfer.Transfer.{Transfer}
use Rattle.usb_machine.specs.declared.entry.Entry.{Entry}
use Rattle.usb_machine.specs.declared.plain.Plain.{Plain}
use Rattle.usb_machine.specs.Plain.{Stands}
use Rattle.usb_xfer.specs.Moved.{moved, IsOpen}
use Rattle.usb_scene.specs.declared.scene.Scene.{Scene}
use Rattle.usb_line.specs.declared.run.LineRun.{LineRun}
use Rattle.usb_prepare.specs.Ends.{shape_at}
use Rattle.usb_prepare.specs.Layout.{home}
use Rattle.usb_trace.specs.Plan.{machine_of, host_call_of}
use Rattle.usb_trace.specs.Run.{CallRecord, is_first, down_after}
use Rattle.usb_line.specs.Line.{Progress, adds, replies_had, with_call_record}
use Rattle.usb_line.specs.Shows.{IsMoving, HoldsTransfer, Shows, asked_now}
use Rattle.usb_trace.proofs.Stills.{AreStill, stills_pending, stills_sent}
use Rattle.usb_line.proofs.Calm.{calm_still, linked_still}
use Rattle.usb_line.proofs.Closing.{still_queued}
use Rattle.usb_line.proofs.Asked.{asked_same}
use Rattle.usb_trace.proofs.Devices.{devices_same}

module _ (s : Scene) (f : Progress) (xs : List Entry) (still : AreStill xs) where
  abbrev k : Progress
  k = adds f xs

  had_still : (u : ℕ) → replies_had s k u ≡ replies_had s f u
  had_still u = ap (λ us. cond (is_first u us) (f.so_far (home s u)) []) (stills_pending f.history xs still (machine_of s) (home s u))

  moving_still : (u : ℕ) (t : Transfer) → IsMoving s f u t → IsMoving s k u t
  moving_still u t m = record {
    apt = m.apt;
    start = m.start;
    sent = stills_sent f.history xs still u ∙ m.sent;
    moving = m.moving ∙ ap (moved (shape_at s (home s u)) m.start) (sym (had_still u));
    going = subst (IsOpen (shape_at s (home s u)) m.start) (sym (had_still u)) m.going;
  }

  holds_still : (u : ℕ) (o : Option Transfer) → HoldsTransfer s f u o → HoldsTransfer s k u o
  holds_still u None q = still_queued f.history xs u still ∙ q
  holds_still u (Some t) q = (still_queued f.history xs u still ∙ q.0, moving_still u t q.1)

  -- entries that move nothing change the machine alone
  pub shows_still : (run : LineRun) (after : Plain) → Shows s f run → Stands after (machine_of s) (f.history ++ xs) → Shows s k (record run { plain = after })
  shows_still run after old stands = record {
    stands = stands;
    calm = calm_still f.history xs still old.calm;
    linked = linked_still f.history xs still old.linked;
    devices = devices_same s (asked_now s f) (asked_now s k) run.devices.items
        (λ e. asked_same s f k e refl refl (old.unmoved e) (λ u others first. (others, stills_pending f.history xs still (machine_of s) e ∙ first, stills_sent f.history xs still u)))
        old.devices;
    few_ends = old.few_ends;
    all_ends = old.all_ends;
    each_end = λ e end at. (let o = old.each_end e end at in record { is = o.is; sleeps = o.sleeps; acked = o.acked });
    all_urbs = old.all_urbs;
    each_urb = λ u row at. (let o = old.each_urb u row at in record { at = o.at; owner = o.owner; more = o.more; holds = holds_still u row.transfer o.holds });
    unmoved = λ e none. old.unmoved e (sym (stills_pending f.history xs still (machine_of s) e) ∙ none);
    cores = record { all = old.cores.all; each = old.cores.each; out = old.cores.out };
    came_back = old.came_back;
    host = old.host;
  }

module _ (s : Scene) (f : Progress) (run : LineRun) (old : Shows s f run) where
  holds_called : (d : CallRecord) (u : ℕ) (o : Option Transfer) → HoldsTransfer s f u o → HoldsTransfer s (with_call_record s f d) u o
  holds_called d u None q = q
  holds_called d u (Some t) q = (q.0, record { apt = q.1.apt; start = q.1.start; sent = q.1.sent; moving = q.1.moving; going = q.1.going })

  -- a call that is counted changes no more than whether the host is down
  pub shows_called : (d : CallRecord) (b : Bool) → b ≡ down_after f.down (host_call_of s d.call) d.answer → Shows s (with_call_record s f d) (record run { down = b })
  shows_called d b is = record {
    stands = old.stands;
    calm = old.calm;
    linked = old.linked;
    devices = devices_same s (asked_now s f) (asked_now s (with_call_record s f d)) run.devices.items (λ e. asked_same s f (with_call_record s f d) e refl refl (old.unmoved e) (λ u others first. (others, first, refl))) old.devices;
    few_ends = old.few_ends;
    all_ends = old.all_ends;
    each_end = λ e end at. (let o = old.each_end e end at in record { is = o.is; sleeps = o.sleeps; acked = o.acked });
    all_urbs = old.all_urbs;
    each_urb = λ u row at. (let o = old.each_urb u row at in record { at = o.at; owner = o.owner; more = o.more; holds = holds_called d u row.transfer o.holds });
    unmoved = old.unmoved;
    cores = record { all = old.cores.all; each = old.cores.each; out = old.cores.out };
    came_back = old.came_back;
    host = is;
  }
