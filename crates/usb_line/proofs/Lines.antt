-- The run in line order is a run of its scene.
use Rattle.std.proofs.Common.{ℕ, zero, suc, ◌≡◌, ◌+◌, ◌<◌, ◌≤◌, Bool, true, false, eqb, Some, List, [], ◌∷◌, ◌++◌, length, map, refl, sym, ap, ◌∙◌, subst, arith, append_assoc, append-nil, length-append, true≢false}
use Rattle.std.specs.Prelude.{slice_get}
use Rattle.std.specs.List.{flat_map, zip, All}
use Rattle.std.proofs.lemmas.List.{append_cancel_left}
use Rattle.std.proofs.lemmas.List.Elements.{filter-append}
use mathlib.Core.Logic.{dite}
use native.Mathlib.Decide.{ℕ_discrete}
use Rattle.usb_machine.specs.declared.entry.TheConstants.{SERVER}
use Rattle.usb_machine.specs.declared.entry.Entry.{Entry}
use Rattle.usb_machine.specs.History.{Machine, home_of, state_of, line_of, pending_of}
use Rattle.usb_machine.specs.Parts.{part_of}
use Rattle.usb_machine.specs.Legal.{times}
use Rattle.usb_machine.specs.Laws.{bit, Placed}
use Rattle.usb_machine.proofs.Places.{placed}
use Rattle.usb_machine.proofs.Rooms.{queued_has_home, home_below, in_line_once}
use Rattle.usb_scene.specs.declared.scene.Scene.{Scene}
use Rattle.usb_scene.specs.WellFormed.{IsWellFormed}
use Rattle.usb_prepare.specs.Layout.{urb_count}
use Rattle.usb_trace.specs.Plan.{machine_of, pass_of, main_pass}
use Rattle.usb_trace.specs.Run.{urbs_of, Giveback, done_by, call_entries, claims_in, seen_quiet, kills_of, firsts_of, IsMade, AreFound, opening, IsOver, IsFramed, IsRun}
use Rattle.usb_line.specs.Line.{Progress, AreDowns, begun, adds, IsLineRun}
use Rattle.usb_line.proofs.Parts.{of_controller, of_handlers}
use Rattle.usb_line.proofs.MayFollow.{once}
use Rattle.usb_line.proofs.Serving.{AreFirstGiven, Serves}
use Rattle.usb_line.proofs.Passes.{not_server, not_main}
use Rattle.usb_line.proofs.Scripted.{placed as call_of, calls_made}
use Rattle.usb_line.proofs.Makings.{IsMadeBy}
use Rattle.usb_line.proofs.Downs.{length-below, all_below}
use Rattle.usb_line.proofs.Calls.{Goes, line_goes}
use Rattle.usb_trace.specs.Claims.{claimed_by, numbers_of}
use Rattle.usb_trace.proofs.Entries.{part_own, part_other, grows}
use Rattle.usb_trace.proofs.Claims.{AreNoClaim, claimed_none, claimed_same}
use Rattle.usb_line.proofs.ReadsFollow.{reads_pass}
use Rattle.usb_line.proofs.Longer.{IsLonger, line_longer, closes_longer}
use Rattle.usb_line.proofs.Claiming.{claims_stay, opening_no_claim, seen_no_claim}
use Rattle.usb_line.proofs.Closing.{AreKilled, closes_kill, closed, still_queued, seen_still, seen_pass}

pub in_pending_once : (g : Machine) (h : List Entry) (e v : ℕ) → Placed g h v → times v (pending_of g h e) ≤ bit (state_of h v).queued
in_pending_once g h e v at = let o = at.once in dite (ℕ_discrete e (home_of g v))
    (λ is. let a : times v (pending_of g h e) ≡ times v (pending_of g h (home_of g v)) = ap (λ d. times v (pending_of g h d)) is in omega arith)
    (λ off. let z = at.pending_else e off in omega arith)

pub no_urbs : (us : List ℕ) → ((v : ℕ) → times v us ≡ 0) → us ≡ []
no_urbs [] none = refl
no_urbs (u ∷ us) none = let l = once u (u ∷ us) us refl in let z = none u in absurd (omega arith)

-- each first-given giveback, by its place
first_at : (rounds : List Giveback) (bs : List Bool) → AreFirstGiven rounds bs → (k : ℕ) (r : Giveback) → slice_get rounds k ≡ Some r → 0 < length r.replies → slice_get bs k ≡ Some true
first_at [] bs all k r at some = cc
first_at (q ∷ rounds) [] all k r at some = absurd all
first_at (q ∷ rounds) (b ∷ bs) all zero r at some = let same : q ≡ r = cc in ap Some (all.0 (subst (λ (r : Giveback). 0 < length r.replies) (sym same) some))
first_at (q ∷ rounds) (b ∷ bs) all (suc k) r at some = first_at rounds bs all.1 k r at some

-- what a pass's part gains is its part of what was added
no_part : (h ys : List Entry) (p : ℕ) → part_of (h ++ ys) p ≡ part_of h p → part_of (h ++ ys) p ≡ part_of h p ++ part_of ys p → part_of ys p ≡ []
no_part h ys p same grown = go (part_of ys p) (ap length (sym same ∙ grown) ∙ length-append (part_of h p) (part_of ys p))
  where
    go : (xs : List Entry) → length (part_of h p) ≡ length (part_of h p) + length xs → xs ≡ []
    go [] e = refl
    go (x ∷ xs) e = absurd (omega arith)

module _ (s : Scene) (good : IsWellFormed s) (f : Progress) (run : IsLineRun s f) where
  abbrev called : Progress
  called = run.called

  abbrev urbs : List ℕ
  urbs = urbs_of s

  abbrev last : Progress
  last = adds run.killed (flat_map (seen_quiet (main_pass s)) urbs)

  goes : Goes s called
  goes = line_goes s good called run.in_line [] (append-nil (map call_of called.call_records) ∙ run.all)

  kills : AreKilled s called urbs run.killed
  kills = closes_kill s good called (urb_count s) urbs run.killed refl run.closes goes.serves

  made : IsMadeBy s called (main_pass s) (kills_of (main_pass s) urbs kills.marks (numbers_of kills.rests) ++ flat_map (seen_quiet (main_pass s)) urbs) last
  made = closed s called urbs run.killed kills

  abbrev h : List Entry
  h = last.history

  serves : Serves s last
  serves = made.serves

  -- no URB is queued
  all_out : (v : ℕ) → (state_of h v).queued ≡ false
  all_out v = go (state_of h v).queued refl
    where
      go : (b : Bool) → (state_of h v).queued ≡ b → (state_of h v).queued ≡ false
      go false is = is
      go true is =
          let near = home_below (machine_of s) v (queued_has_home (machine_of s) v h serves.legal is) in
          let here : v < urb_count s = omega arith in
          absurd (true≢false (sym is ∙ (still_queued run.killed.history (flat_map (seen_quiet (main_pass s)) urbs) v (seen_still (main_pass s) urbs) ∙ kills.out v (all_below (urb_count s) v here))))

  is_over : IsOver s h
  is_over = record {
    urbs = λ u l. (all_out u, (serves.calm u).handlers);
    ends = λ e. (
      no_urbs (line_of (machine_of s) h e) (λ v. (let a = in_line_once (machine_of s) h e v (placed (machine_of s) v h serves.legal) in let z = ap bit (all_out v) in omega arith)),
      no_urbs (pending_of (machine_of s) h e) (λ v. (let a = in_pending_once (machine_of s) h e v (placed (machine_of s) v h serves.legal) in let z = ap bit (all_out v) in omega arith)),
    );
  }

  longer : IsLonger called last
  longer = let a = closes_longer s called urbs run.killed run.closes in (
    a.0 ++ flat_map (seen_quiet (main_pass s)) urbs,
    ap (λ l. l ++ flat_map (seen_quiet (main_pass s)) urbs) a.1 ∙ append_assoc called.history a.0 (flat_map (seen_quiet (main_pass s)) urbs),
  )

  -- what the calls and their turns added
  between : IsLonger (begun s) called
  between = line_longer s called run.in_line

  abbrev entries : List Entry
  entries = kills_of (main_pass s) urbs kills.marks (numbers_of kills.rests) ++ flat_map (seen_quiet (main_pass s)) urbs

  -- what main's part gains after the calls is the close
  main_last : part_of longer.0 (main_pass s) ≡ entries
  main_last = append_cancel_left (part_of called.history (main_pass s)) (part_of longer.0 (main_pass s)) entries
      (sym (filter-append (λ x. eqb x.pass (main_pass s)) called.history longer.0) ∙ (ap (λ k. part_of k (main_pass s)) (sym longer.1) ∙ made.own))

  -- main claimed nothing before the close, and in it what rested with each URB
  claimed_last : claimed_by (main_pass s) h ≡ zip urbs kills.rests
  claimed_last =
      let seen : List Entry = flat_map (seen_quiet (main_pass s)) urbs in
      claimed_same (main_pass s) run.killed.history h seen seen refl (grows (main_pass s) run.killed.history seen (seen_pass (main_pass s) urbs)) (seen_no_claim (main_pass s) urbs)
      ∙ (kills.claims ∙ ap (λ l. l ++ zip urbs kills.rests) (claimed_none (main_pass s) [] called.history (subst AreNoClaim (sym goes.main) (opening_no_claim s))))

  is_framed : IsFramed s h
  is_framed = record {
    marks = kills.marks;
    rests = kills.rests;
    first = opening s;
    middle = between.0;
    last = longer.0;
    each = (kills.marks_each ∙ length-below (urb_count s), kills.rests_each ∙ length-below (urb_count s));
    split = longer.1 ∙ (ap (λ l. l ++ longer.0) between.1 ∙ append_assoc (opening s) between.0 longer.0);
    opens = part_own (main_pass s) (opening s) (reads_pass s (urb_count s));
    between = no_part (opening s) between.0 (main_pass s)
        (ap (λ k. part_of k (main_pass s)) (sym between.1) ∙ (goes.main ∙ sym (part_own (main_pass s) (opening s) (reads_pass s (urb_count s)))))
        (filter-append (λ x. eqb x.pass (main_pass s)) (opening s) between.0);
    closes = main_last;
    claims = claimed_last;
    silent = λ i l. (
      part_other (main_pass s) (pass_of s i) (opening s) (λ e. not_main s i l (sym e)) (reads_pass s (urb_count s)),
      no_part called.history longer.0 (pass_of s i)
          (ap (λ k. part_of k (pass_of s i)) (sym longer.1) ∙ made.elsewhere (pass_of s i) (not_server s i) (not_main s i l))
          (filter-append (λ x. eqb x.pass (pass_of s i)) called.history longer.0),
    );
  }

  is_run : IsRun s h last.call_records last.rounds
  is_run = record {
    legal = serves.legal;
    over = is_over;
    told = subst (All (IsMade s)) (sym made.call_records) goes.told;
    downs = λ i l. subst (λ ds. AreFound s false (done_by i ds)) (sym made.call_records) (goes.downs i l);
    calls = λ i thread at. calls_made s last.call_records (ap (map call_of) made.call_records ∙ run.all) i thread at;
    threads = λ i l. made.elsewhere (pass_of s i) (not_server s i) (not_main s i l) ∙ (goes.threads i l ∙ ap (λ ds. flat_map (call_entries s) (done_by i ds)) (sym made.call_records));
    claims = λ i l. claims_stay called last (pass_of s i) longer (made.elsewhere (pass_of s i) (not_server s i) (not_main s i l))
        ∙ (goes.claims i l ∙ ap (λ ds. flat_map (claims_in s) (done_by i ds)) (sym made.call_records));
    framed = is_framed;
    server = of_controller s (part_of h SERVER) last.rounds serves.server;
    handlers = of_handlers s (part_of h SERVER) last.rounds serves.server;
    together = λ same. serves.server;
    others = λ p off main none. made.elsewhere p off main ∙ goes.others p off main none;
    gives = serves.gives;
    firsts = first_at last.rounds (firsts_of (machine_of s) h) serves.firsts;
    replies = serves.replies;
    moves = serves.moves;
    handled = serves.handled;
  }

  -- the run in line order through all calls, with its close, is a run of the scene
  pub line_is_run : IsRun s f.history f.call_records f.rounds
  line_is_run = subst (λ (g : Progress). IsRun s g.history g.call_records g.rounds) (sym run.seen) is_run

  -- and each call found the host as all calls before it had left it
  pub line_downs : AreDowns s false f.call_records
  line_downs = subst (λ (g : Progress). AreDowns s false g.call_records) (sym run.seen) (subst (AreDowns s false) (sym made.call_records) goes.all_downs)
