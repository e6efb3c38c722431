-- What a submit does to what the run's object keeps.
use Rattle.std.proofs.Common.{ℕ, ◌≡◌, ◌≢◌, ◌+◌, Bool, true, false, ◌&&◌, cond, eqb, Option, Some, None, List, [], ◌∷◌, ◌++◌, length, refl, sym, ap, ◌∙◌, subst, arith, eq-eqb, ne_eqb, true≢false}
use Rattle.std.specs.Prelude.{slice_get}
use Rattle.std.proofs.lemmas.List.{length-set}
use mathlib.Core.Logic.{dite}
use native.Mathlib.Decide.{ℕ_discrete}
use Rattle.usb_types.specs.declared.errno.Errno.{Errno}
use Rattle.usb_types.specs.declared.errno.Errno.TheVariants.{EBUSY}
use Rattle.usb_types.specs.declared.errno.Code.{Code}
use Rattle.usb_types.specs.declared.errno.Code.TheVariants.{Zero, Fault}
use Rattle.usb_machine.specs.declared.state.Mark.TheVariants.{Clear}
use Rattle.usb_machine.specs.declared.transfer.Transfer.{Transfer}
use Rattle.usb_machine.specs.declared.entry.Entry.{Entry}
use Rattle.usb_machine.specs.declared.plain.Plain.{Plain}
use Rattle.usb_machine.specs.declared.state.UrbState.{UrbState}
use Rattle.usb_machine.specs.State.{refusal, is_zero}
use Rattle.usb_machine.specs.History.{state_of, pending_of, sent_of}
use Rattle.usb_machine.specs.Legal.{times}
use Rattle.usb_machine.specs.Laws.{bit}
use Rattle.usb_machine.specs.Plain.{Stands}
use Rattle.usb_machine.specs.Calls.{submit_entries}
use Rattle.usb_machine.proofs.Rooms.{pending_is_queued}
use Rattle.usb_xfer.specs.Moved.{moved, IsOpen}
use Rattle.usb_scene.specs.declared.scene.Scene.{Scene}
use Rattle.usb_line.specs.declared.run.UrbRow.{UrbRow}
use Rattle.usb_line.specs.declared.run.LineRun.{LineRun}
use Rattle.usb_prepare.specs.Ends.{shape_at}
use Rattle.usb_prepare.specs.Layout.{home}
use Rattle.usb_trace.specs.Plan.{machine_of}
use Rattle.usb_trace.specs.Run.{is_first}
use Rattle.usb_line.specs.Line.{Progress, adds, replies_had}
use Rattle.usb_line.specs.Shows.{HoldsTransfer, ShowsUrb, Shows, asked_now}
use Rattle.usb_trace.specs.Devices.{IsApt, ShowsDevices}
use Rattle.usb_trace.specs.Handlers.{ShowsCores}
use Rattle.usb_line.specs.Sent.{MaySend, Sent, Keeps}
use Rattle.usb_line.proofs.MayFollow.{once}
use Rattle.usb_line.proofs.Marked.{first_at_home}
use Rattle.usb_line.proofs.Asked.{asked_same}
use Rattle.usb_trace.proofs.Devices.{devices_same}
use Rattle.usb_line.proofs.Submits.{submit_state, submit_other, submit_pending, submit_sent}
use Rattle.usb_line.proofs.Calm.{calm_submit, linked_submit, calm_places}
use Rattle.usb_line.proofs.Backs.{nothing_moved}
use Rattle.usb_device.proofs.Lookups.{each_set}

-- what the gate accepts is not queued
not_busy : (b : Bool) (c : Code) → Zero ≡ cond b (Fault EBUSY) c → b ≡ false
not_busy true c e = cc
not_busy false c e = refl

free : (t : UrbState) → Zero ≡ refusal t → t.queued ≡ false
free t e = not_busy t.queued _ e

not_first : (u : ℕ) (us : List ℕ) → times u us ≡ 0 → is_first u us ≡ false
not_first u [] e = refl
not_first u (v ∷ us) e = go (eqb v u) e
  where
    go : (b : Bool) → cond {A = ℕ} b 1 0 + times u us ≡ 0 → b ≡ false
    go true e = absurd (omega arith)
    go false e = refl

module _ (s : Scene) (f : Progress) (run : LineRun) (old : Shows s f run) (p u : ℕ) (t : Transfer) (c : Code) where
  abbrev h : List Entry
  h = f.history

  abbrev xs : List Entry
  xs = submit_entries p u t c

  abbrev k : Progress
  k = adds f xs

  had_same : (v : ℕ) → replies_had s k v ≡ replies_had s f v
  had_same v = ap (λ us. cond (is_first v us) (f.so_far (home s v)) []) (submit_pending p u t h c (machine_of s) (home s v))

  -- an URB whose state and transfer stay
  module _ (v : ℕ) (state : state_of k.history v ≡ state_of h v) (sent : sent_of k.history v ≡ sent_of h v) where
    holds_same : (o : Option Transfer) → HoldsTransfer s f v o → HoldsTransfer s k v o
    holds_same None q = ap (λ (t : UrbState). t.queued) state ∙ q
    holds_same (Some t) q = (
      ap (λ (t : UrbState). t.queued) state ∙ q.0,
      record {
        start = q.1.start;
        apt = q.1.apt;
        sent = sent ∙ q.1.sent;
        moving = q.1.moving ∙ ap (moved (shape_at s (home s v)) q.1.start) (sym (had_same v));
        going = subst (IsOpen (shape_at s (home s v)) q.1.start) (sym (had_same v)) q.1.going;
      },
    )

    urb_same : (row : UrbRow) → ShowsUrb s f v row → ShowsUrb s k v row
    urb_same row o = record { at = o.at; owner = o.owner; more = o.more; holds = holds_same row.transfer o.holds }

  urb_else : (v : ℕ) (row : UrbRow) → v ≢ u → ShowsUrb s f v row → ShowsUrb s k v row
  urb_else v row off = urb_same v (submit_other p u t h c v off) (submit_sent p u t h c v ∙ ap (λ b. cond (b && is_zero c) (Some t) (sent_of h v)) (ne_eqb u v (λ i. off (sym i)))) row

  -- where what is first pending was sent as it was, no endpoint was asked more
  asked_sent : ((e v : ℕ) (others : List ℕ) → pending_of (machine_of s) h e ≡ v ∷ others → sent_of k.history v ≡ sent_of h v) → (e : ℕ) → asked_now s k e ≡ asked_now s f e
  asked_sent sents e = asked_same s f k e refl refl (old.unmoved e) (λ v others first. (others, submit_pending p u t h c (machine_of s) e ∙ first, sents e v others first))

  -- the object shows the progress with the submit
  shows_sent : (now : LineRun) → ((e : ℕ) → asked_now s k e ≡ asked_now s f e) → Stands now.plain (machine_of s) k.history → now.ends ≡ run.ends → length now.urbs.items ≡ length run.urbs.items
      → ((v : ℕ) (row : UrbRow) → slice_get now.urbs.items v ≡ Some row → ShowsUrb s k v row) → now.devices ≡ run.devices → now.given ≡ run.given → now.down ≡ run.down → now.cores ≡ run.cores → Shows s k now
  shows_sent now asked stands ends count urbs devices given down cores = record {
    stands = stands;
    calm = calm_submit s h p u t c old.calm;
    linked = linked_submit s h p u t c old.linked;
    devices = subst (λ l. ShowsDevices s (asked_now s k) l.items) (sym devices) (devices_same s (asked_now s f) (asked_now s k) run.devices.items asked old.devices);
    few_ends = old.few_ends;
    all_ends = ap (λ v. length v.items) ends ∙ old.all_ends;
    each_end = λ e end at. (let o = old.each_end e end (ap (λ v. slice_get v.items e) (sym ends) ∙ at) in record { is = o.is; sleeps = o.sleeps; acked = o.acked });
    all_urbs = count ∙ old.all_urbs;
    each_urb = urbs;
    unmoved = λ e none. old.unmoved e (sym (submit_pending p u t h c (machine_of s) e) ∙ none);
    cores = subst (λ v. ShowsCores s k.rounds v.items) (sym cores) old.cores;
    came_back = (λ i. (given i).items) ∙ old.came_back;
    host = down ∙ old.host;
  }

  -- the gate refused the URB, and nothing was sent
  sent_none : (x : Errno) → c ≡ Fault x → (v : ℕ) → sent_of k.history v ≡ sent_of h v
  sent_none x fault v = submit_sent p u t h c v ∙ (ap (λ c. cond (eqb u v && is_zero c) (Some t) (sent_of h v)) fault ∙ none (eqb u v))
    where
      none : (b : Bool) → cond (b && false) (Some t) (sent_of h v) ≡ sent_of h v
      none true = refl
      none false = refl

  -- it accepted the URB, which was not pending
  sent_first : c ≡ Zero → c ≡ refusal (state_of h u) → (e v : ℕ) (others : List ℕ) → pending_of (machine_of s) h e ≡ v ∷ others → sent_of k.history v ≡ sent_of h v
  sent_first zero gate e v others first =
      let here = first_at_home (machine_of s) h e v others old.stands.legal first in
      let queued = pending_is_queued (machine_of s) h v old.stands.legal (once v (pending_of (machine_of s) h (home s v)) others (ap (pending_of (machine_of s) h) (sym here) ∙ first)) in
      let idle = free (state_of h u) (sym zero ∙ gate) in
      let apart : u ≢ v = λ is. true≢false (sym queued ∙ (ap (λ (w : ℕ). (state_of h w).queued) (sym is) ∙ idle)) in
      submit_sent p u t h c v ∙ ap (λ b. cond (b && is_zero c) (Some t) (sent_of h v)) (ne_eqb u v apart)

  -- the gate refused the URB, and nothing moved
  refused : (x : Errno) → c ≡ Fault x → (v : ℕ) (row : UrbRow) → slice_get run.urbs.items v ≡ Some row → ShowsUrb s k v row
  refused x fault v row at = dite (ℕ_discrete v u)
      (λ is. urb_same v
      (ap (state_of k.history) is ∙ (submit_state p u t h c ∙ (ap (λ c. cond (is_zero c) (record (state_of h u) { queued = true; mark = Clear }) (state_of h u)) fault ∙ ap (state_of h) (sym is))))
      (sent_none x fault v) row (old.each_urb v row at))
      (λ off. urb_else v row off (old.each_urb v row at))

  -- it accepted the URB, which has its transfer now
  accepted : IsApt s u t → c ≡ Zero → c ≡ refusal (state_of h u) → t.actual ≡ 0 → (row : UrbRow) → ShowsUrb s f u row → ShowsUrb s k u (record row { transfer = Some t })
  accepted apt zero gate actual row o =
      let idle = free (state_of h u) (sym zero ∙ gate) in
      let places = calm_places (machine_of s) h u old.stands.legal old.linked in
      let bits : bit (state_of h u).queued ≡ 0 = ap bit idle in
      let first = not_first u (pending_of (machine_of s) h (home s u)) (omega arith) in
      let had : replies_had s k u ≡ [] = had_same u ∙ ap (λ b. cond b (f.so_far (home s u)) []) first in
      let state = submit_state p u t h c ∙ ap (λ c. cond (is_zero c) (record (state_of h u) { queued = true; mark = Clear }) (state_of h u)) zero in
      record {
        at = o.at;
        owner = o.owner;
        more = o.more;
        holds = (
          ap (λ (t : UrbState). t.queued) state,
          record {
            start = t;
            apt = apt;
            sent = submit_sent p u t h c u ∙ (λ i. cond (eq-eqb u u refl i && is_zero (zero i)) (Some t) (sent_of h u));
            moving = nothing_moved (shape_at s (home s u)) t actual ∙ ap (moved (shape_at s (home s u)) t) (sym had);
            going = subst (IsOpen (shape_at s (home s u)) t) (sym had) refl;
          },
        );
      }

module _ (s : Scene) (f : Progress) (run : LineRun) (p u : ℕ) (t : Transfer) (may : MaySend s f run p u t) (c : Code) (gate : c ≡ refusal (state_of f.history u)) (plain : Plain)
    (stands : Stands plain (machine_of s) (f.history ++ submit_entries p u t c)) where
  pub sent_refused : (x : Errno) → c ≡ Fault x → Sent s f p u t c (record run { plain = plain })
  sent_refused x fault = record {
    gate = gate;
    shows = shows_sent s f run may.shows p u t c (record run { plain = plain })
        (asked_sent s f run may.shows p u t c (λ e v others first. sent_none s f run may.shows p u t c x fault v)) stands refl refl (refused s f run may.shows p u t c x fault) refl refl refl refl;
  }

  pub sent_accepted : (now : LineRun) → c ≡ Zero → Keeps (record run { plain = plain }) now u t → Sent s f p u t c now
  sent_accepted now zero keeps =
      let row = record keeps.row { transfer = Some t } in
      let own = accepted s f run may.shows p u t c may.apt zero gate may.ask.unmoved keeps.row (may.shows.each_urb u keeps.row keeps.at) in
      record {
        gate = gate;
        shows = shows_sent s f run may.shows p u t c now (asked_sent s f run may.shows p u t c (sent_first s f run may.shows p u t c zero gate)) (subst (λ (q : Plain). Stands q (machine_of s) (f.history ++ submit_entries p u t c)) (sym keeps.same.plain) stands) keeps.same_ends
            (ap (λ l. length l) keeps.rows ∙ length-set run.urbs.items u row)
            (each_set (ShowsUrb s f) (ShowsUrb s (adds f (submit_entries p u t c))) run.urbs.items now.urbs.items u row keeps.rows may.shows.each_urb own (λ v x off. urb_else s f run may.shows p u t c v x off))
            keeps.same_devices keeps.same.told keeps.same.host keeps.same.cores;
      }
