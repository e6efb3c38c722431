-- The run's object when the server took all that stood in the lines.
use Rattle.std.proofs.Common.{ℕ, ◌≡◌, Bool, true, false, cond, Option, Some, None, List, [], ◌∷◌, ◌++◌, refl, sym, ap, ◌∙◌, subst, arith, append-nil}
use mathlib.Core.Logic.{dite}
use native.Mathlib.Decide.{dec_lt}
use Rattle.usb_machine.specs.declared.transfer.Transfer.{Transfer}
use Rattle.usb_machine.specs.declared.state.UrbState.{UrbState}
use Rattle.usb_machine.specs.declared.entry.Entry.{Entry}
use Rattle.usb_machine.specs.declared.plain.Plain.{Plain}
use Rattle.usb_machine.specs.History.{line_of, pending_of}
use Rattle.usb_machine.specs.Plain.{Stands}
use Rattle.usb_xfer.specs.Replies.{Reply}
use Rattle.usb_xfer.specs.Moved.{moved, IsOpen}
use Rattle.usb_scene.specs.declared.scene.Scene.{Scene}
use Rattle.usb_line.specs.declared.run.LineRun.{LineRun}
use Rattle.usb_prepare.specs.Ends.{ends_of, shape_at}
use Rattle.usb_prepare.specs.Layout.{home}
use Rattle.usb_trace.specs.Plan.{machine_of}
use Rattle.usb_trace.specs.Run.{is_first}
use Rattle.usb_line.specs.Line.{Progress, with_takes, replies_had}
use Rattle.usb_line.specs.Shows.{HoldsTransfer, Shows, asked_now}
use Rattle.usb_line.proofs.Asked.{asked_same}
use Rattle.usb_trace.proofs.Devices.{devices_same}
use Rattle.usb_line.proofs.Takes.{below_state, below_sent, pending_above, pending_below}
use Rattle.usb_line.proofs.Calm.{calm_takes, linked_takes}

-- who was first is first still, and who becomes first has no replies
longer_had : (u : ℕ) (us more : List ℕ) (l : List Reply) → (us ≡ [] → l ≡ []) → cond (is_first u (us ++ more)) l [] ≡ cond (is_first u us) l []
longer_had u [] more l none = ap (λ l. cond (is_first u more) l []) (none refl) ∙ either (is_first u more)
  where
    either : (b : Bool) → cond {A = List Reply} b [] [] ≡ []
    either true = refl
    either false = refl
longer_had u (v ∷ us) more l none = refl

front_none : (us more : List ℕ) → us ++ more ≡ [] → us ≡ []
front_none [] more e = refl
front_none (u ∷ us) more e = cc

module _ (s : Scene) (f : Progress) (run : LineRun) (old : Shows s f run) (plain : Plain) (stands : Stands plain (machine_of s) (with_takes s f).history) where
  abbrev k : Progress
  k = with_takes s f

  abbrev h : List Entry
  h = f.history

  -- the pending list with what stood in the line after it
  longer : (d : ℕ) → (more : List ℕ) × (pending_of (machine_of s) k.history d ≡ pending_of (machine_of s) h d ++ more)
  longer d = dite (dec_lt d (ends_of s))
      (λ l. (line_of (machine_of s) h d, pending_below s h (ends_of s) d l))
      (λ off. ([], pending_above s h (ends_of s) d (omega arith) ∙ sym (append-nil (pending_of (machine_of s) h d))))

  had_taken : (u : ℕ) → replies_had s k u ≡ replies_had s f u
  had_taken u = let d = home s u in ap (λ us. cond (is_first u us) (f.so_far d) []) (longer d).1 ∙ longer_had u (pending_of (machine_of s) h d) (longer d).0 (f.so_far d) (old.unmoved d)

  holds_taken : (u : ℕ) (o : Option Transfer) → HoldsTransfer s f u o → HoldsTransfer s k u o
  holds_taken u None q = ap (λ (t : UrbState). t.queued) (below_state s h (ends_of s) u) ∙ q
  holds_taken u (Some t) q = (
    ap (λ (t : UrbState). t.queued) (below_state s h (ends_of s) u) ∙ q.0,
    record {
      start = q.1.start;
      apt = q.1.apt;
      sent = below_sent s h (ends_of s) u ∙ q.1.sent;
      moving = q.1.moving ∙ ap (moved (shape_at s (home s u)) q.1.start) (sym (had_taken u));
      going = subst (IsOpen (shape_at s (home s u)) q.1.start) (sym (had_taken u)) q.1.going;
    },
  )

  pub shows_taken : Shows s k record run { plain = plain }
  shows_taken = record {
    stands = stands;
    calm = calm_takes s h (ends_of s) old.calm;
    linked = linked_takes s h (ends_of s) old.linked;
    devices = devices_same s (asked_now s f) (asked_now s k) run.devices.items
        (λ d. asked_same s f k d refl refl (old.unmoved d)
        (λ u others first. (others ++ (longer d).0, (longer d).1 ∙ ap (λ l. l ++ (longer d).0) first, below_sent s h (ends_of s) u)))
        old.devices;
    few_ends = old.few_ends;
    all_ends = old.all_ends;
    each_end = λ e end at. (let o = old.each_end e end at in record { is = o.is; sleeps = o.sleeps; acked = o.acked });
    all_urbs = old.all_urbs;
    each_urb = λ u row at. (let o = old.each_urb u row at in record { at = o.at; owner = o.owner; more = o.more; holds = holds_taken u row.transfer o.holds });
    unmoved = λ d none. old.unmoved d (front_none (pending_of (machine_of s) h d) (longer d).0 (sym (longer d).1 ∙ none));
    cores = old.cores;
    came_back = old.came_back;
    host = old.host;
  }
