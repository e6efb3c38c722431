-- The first unlinked URB comes back.
use Rattle.std.proofs.Common.{ℕ, zero, suc, ◌≡◌, ◌<◌, Bool, true, false, cond, eqb, Some, None, List, [], ◌∷◌, ◌++◌, length, filter, refl, sym, ap, ◌∙◌, subst, arith, eqb-true, ne_eqb, true≢false}
use Rattle.std.specs.Prelude.{slice_get}
use mathlib.Core.Logic.{dite}
use native.Mathlib.Decide.{ℕ_discrete, dec_lt}
use Rattle.usb_types.specs.declared.errno.Code.TheVariants.{Fault}
use Rattle.usb_types.specs.declared.urb.Why.{Why}
use Rattle.usb_types.specs.Codes.{errno_of}
use Rattle.usb_machine.specs.declared.state.Mark.{Mark as MarkState}
use Rattle.usb_machine.specs.declared.state.Mark.TheVariants.{Clear, Unlinked, Finished}
use Rattle.usb_machine.specs.declared.transfer.Transfer.{Transfer}
use Rattle.usb_machine.specs.declared.entry.Entry.{Entry}
use Rattle.usb_machine.specs.State.{is_clear, status_of}
use Rattle.usb_machine.specs.Shapes.{HasWindow, Accepts}
use Rattle.usb_machine.specs.History.{state_of, pending_of}
use Rattle.usb_machine.specs.Legal.{times}
use Rattle.usb_machine.proofs.Rooms.{pending_is_queued, queued_has_home}
use Rattle.usb_xfer.specs.Replies.{Reply}
use Rattle.usb_xfer.specs.Moved.{moved}
use Rattle.usb_class.specs.Handler.{goes_again}
use Rattle.usb_class.proofs.Facts.{unlinked_rests}
use Rattle.usb_scene.specs.declared.scene.Scene.{Scene}
use Rattle.usb_scene.specs.WellFormed.{IsWellFormed}
use Rattle.usb_line.proofs.Posing.{can_pose_any}
use Rattle.usb_line.specs.declared.run.UrbRow.{UrbRow}
use Rattle.usb_line.specs.declared.run.LineRun.{LineRun}
use Rattle.usb_prepare.specs.Ends.{ends_of, shape_at}
use Rattle.usb_prepare.specs.Layout.{home}
use Rattle.usb_trace.specs.Plan.{machine_of, owner_of}
use Rattle.usb_trace.specs.Run.{Giveback, is_first, asked_of, resent}
use Rattle.usb_line.specs.Line.{Progress, is_unlinked, marked_below, marked_of, replies_had, round_of, given_back}
use Rattle.usb_trace.specs.Due.{asks}
use Rattle.usb_line.specs.Shows.{asked_now, Shows, turns_left}
use Rattle.usb_trace.specs.Devices.{ShowsDevices}
use Rattle.usb_line.specs.Back.{MayGive, GaveBack}
use Rattle.usb_line.specs.Turned.{TakesOut, GaveUnlinked}
use Rattle.usb_line.proofs.MayFollow.{once}
use Rattle.usb_line.proofs.Marked.{times-append, unlinked, marked_at_home}
use Rattle.usb_line.proofs.Turns.{outcome_gated}
use Rattle.usb_line.proofs.Asked.{asked_first}
use Rattle.usb_line.proofs.Backs.{asked_taken, asked_kept, asked_others}
use Rattle.usb_line.proofs.Lookups.{set_read}
use Rattle.usb_line.proofs.Pendings.{IsHeld, held_transfer, same_urbs}
use Rattle.usb_line.proofs.Scanning.{within}
use Rattle.usb_line.proofs.Returned.{shows_returned, falls_returned}
use Rattle.usb_line.proofs.Falling.{all_left}
use Rattle.usb_line.proofs.Resending.{moved_fits}
use Rattle.usb_trace.proofs.Devices.{devices_same}

-- who is among those that pass a test passes it
passes : (p : ℕ → Bool) (u : ℕ) (us : List ℕ) → 0 < times u (filter p us) → p u ≡ true
passes p u [] l = absurd (omega arith)
passes p u (v ∷ us) l = go (p v) refl l (passes p u us)
  where
    go : (b : Bool) → p v ≡ b → 0 < times u (cond b (v ∷ filter p us) (filter p us)) → (0 < times u (filter p us) → p u ≡ true) → p u ≡ true
    go false is l rest = rest l
    go true is l rest = dite (ℕ_discrete v u)
        (λ same. ap p (sym same) ∙ is)
        (λ off. let none : cond {A = ℕ} (eqb v u) 1 0 ≡ 0 = ap (λ b. cond {A = ℕ} b 1 0) (ne_eqb v u off) in rest (omega arith))

below_unlinked : (s : Scene) (h : List Entry) (u n : ℕ) → 0 < times u (marked_below s h n) → is_unlinked (state_of h u).mark ≡ true
below_unlinked s h u zero l = absurd (omega arith)
below_unlinked s h u (suc e) l = dite (dec_lt 0 (times u (unlinked s h e)))
    (λ here. passes (λ u. is_unlinked (state_of h u).mark) u (pending_of (machine_of s) h e) here)
    (λ off. let a = times-append u (marked_below s h e) (unlinked s h e) in below_unlinked s h u e (omega arith))

reason : (m : MarkState) → is_unlinked m ≡ true → (why : Why) × (m ≡ Unlinked why)
reason Clear is = absurd (true≢false (sym is))
reason (Unlinked why) is = (why, refl)
reason (Finished code) is = absurd (true≢false (sym is))

pub first_is : (us : List ℕ) (u : ℕ) → slice_get us 0 ≡ Some u → (others : List ℕ) × (us ≡ u ∷ others)
first_is [] u is = cc
first_is (v ∷ us) u is = let same : v ≡ u = cc in (us, ap (λ w. w ∷ us) same)

-- who is first begins the list
first_one : (u : ℕ) (us : List ℕ) → is_first u us ≡ true → (others : List ℕ) × (us ≡ u ∷ others)
first_one u [] is = absurd (true≢false (sym is))
first_one u (v ∷ us) is = (us, ap (λ w. w ∷ us) (eqb-true v u is))

module _ (s : Scene) (good : IsWellFormed s) (f : Progress) (run mid new : LineRun) (old : Shows s f run) (u : ℕ) (t : Transfer) (out : TakesOut run mid u (Some t)) (back : GaveBack mid new u None t)
    (first : slice_get (marked_of s f.history) 0 ≡ Some u) where
  abbrev h : List Entry
  h = f.history

  abbrev others : List ℕ
  others = (first_is (marked_of s h) u first).0

  is : marked_of s h ≡ u ∷ others
  is = (first_is (marked_of s h) u first).1

  abbrev has : IsHeld s f run old u t
  has = held_transfer s f run old u out.row t out.at out.is

  why : (why : Why) × ((state_of h u).mark ≡ Unlinked why)
  why = reason (state_of h u).mark (below_unlinked s h u (ends_of s) (once u (marked_of s h) others is))

  abbrev r : Giveback
  r = round_of s f u (Fault (errno_of why.0)) false has.moving.start (replies_had s f u)

  among : 0 < times u (pending_of (machine_of s) h (home s u))
  among = marked_at_home s h u others old.stands.legal is

  fits : HasWindow (resent s r) × Accepts (slice_get (machine_of s).layout.shapes (home s u)) (resent s r)
  fits = moved_fits (owner_of s u) (slice_get (machine_of s).layout.shapes (home s u)) (shape_at s (home s u)) has.moving.start (replies_had s f u) (Fault (errno_of why.0)) has.taken has.moving.apt.bare has.sent_window

  may : MayGive s h r u None
  may = record {
    can = record {
      among = among;
      has = queued_has_home (machine_of s) u h old.stands.legal has.queued;
      window = has.sent_window;
      taken = has.taken;
      goes = fits.0;
      fits = fits.1;
      settled = (ap is_clear why.1, ap status_of (sym why.1));
      asks = can_pose_any s good u;
      gated = outcome_gated s f u (Fault (errno_of why.0)) false (moved (shape_at s (home s u)) has.moving.start (replies_had s f u));
    };
    at = refl;
    by = refl;
    idle = (old.calm u).handlers;
  }

  row_home : back.row.home ≡ home s u
  row_home = ap (λ (x : UrbRow). x.home) (set_read run.urbs.items mid.urbs.items u (record out.row { transfer = None }) back.row out.rows back.at) ∙ (old.each_urb u out.row out.at).at

  there : slice_get run.ends.items (home s u) ≡ Some back.end
  there = (λ i. slice_get (sym out.same_ends i).items (sym row_home i)) ∙ back.there

  -- its endpoint was asked no more
  asked_here : (b : Bool) → is_first u (pending_of (machine_of s) h (home s u)) ≡ b → asked_now s (given_back s f r) (home s u) ≡ asked_now s f (home s u)
  asked_here true is =
      let one = first_one u (pending_of (machine_of s) h (home s u)) is in
      let had : replies_had s f u ≡ f.so_far (home s u) = ap (λ b. cond b (f.so_far (home s u)) []) is in
      asked_taken s f r is ∙ (ap (λ (l : List Reply). asked_of s (home s u) f.rounds ++ asks s (home s u) has.moving.start (length l)) had
      ∙ sym (asked_first s f (home s u) u one.0 has.moving.start one.1 has.moving.sent))
  asked_here false off = asked_kept s f r may.can old.stands.legal off (ap (λ b. cond b (f.so_far (home s u)) []) off) (old.unmoved (home s u))

  asked_all : (d : ℕ) → asked_now s (given_back s f r) d ≡ asked_now s f d
  asked_all d = dite (ℕ_discrete (home s u) d)
      (λ is. ap (asked_now s (given_back s f r)) (sym is) ∙ (asked_here (is_first u (pending_of (machine_of s) h (home s u))) refl ∙ ap (asked_now s f) is))
      (λ off. asked_others s f r may.can old.stands.legal old.unmoved d off)

  devices : ShowsDevices s (asked_now s (given_back s f r)) mid.devices.items
  devices = subst (λ l. ShowsDevices s (asked_now s (given_back s f r)) l.items) (sym out.same_devices) (devices_same s (asked_now s f) (asked_now s (given_back s f r)) run.devices.items asked_all old.devices)

  pub gave_unlinked : GaveUnlinked s f new
  gave_unlinked = record {
    urb = u;
    why = why.0;
    start = has.moving.start;
    is = record { others = others; first = is; mark = why.1; transfer = has.moving.sent };
    shows = shows_returned s good f run old u out.row out.at back.end there mid new out.rows out.same_ends out.same None t back (Fault (errno_of why.0)) false has.moving.start (replies_had s f u)
        may has.moving.moving has.moving.apt devices;
  }

  pub unlinked_falls : turns_left new < turns_left run
  unlinked_falls = falls_returned s good f run old u out.row out.at back.end there mid new out.rows out.same_ends out.same None t back (Fault (errno_of why.0)) false has.moving.start (replies_had s f u)
      may has.moving.moving t out.is refl (let same : all_left mid.devices.items ≡ all_left run.devices.items = ap (λ l. all_left l.items) out.same_devices in omega arith)
      (λ o m own read again. absurd (true≢false (sym again ∙ ap goes_again (unlinked_rests o.driver o.role why.0 m))))

-- the first unlinked URB is queued, and one of the run's
pub unlinked_near : (s : Scene) (f : Progress) (run : LineRun) → Shows s f run → (u : ℕ) → slice_get (marked_of s f.history) 0 ≡ Some u → (u < length run.urbs.items) × ((state_of f.history u).queued ≡ true)
unlinked_near s f run old u first =
    let is = first_is (marked_of s f.history) u first in
    let queued = pending_is_queued (machine_of s) f.history u old.stands.legal (marked_at_home s f.history u is.0 old.stands.legal is.1) in
    let has = queued_has_home (machine_of s) u f.history old.stands.legal queued in
    let l = within (machine_of s).layout.homes u has.0 has.1 in
    let all = same_urbs s f run old in let known = old.stands.urbs in
    (omega arith, queued)
