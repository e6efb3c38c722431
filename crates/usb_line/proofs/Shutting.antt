-- Taking the host down: what is flagged, marked, waited for and claimed, and what the run's object shows then.
use Rattle.std.proofs.Common.{ℕ, ◌≡◌, ◌≢◌, ◌+◌, ◌<◌, true, false, Option, List, [], ◌∷◌, ◌++◌, length, map, refl, sym, ap, ◌∙◌, subst, arith, add-one}
use Rattle.usb_types.specs.declared.urb.Why.TheVariants.{Shutdown}
use Rattle.usb_types.specs.declared.urb.Flag.TheVariants as flag
use Rattle.usb_machine.specs.declared.entry.TheConstants.{SERVER, HUB}
use Rattle.usb_machine.specs.declared.event.Event.TheVariants.{Flag}
use Rattle.usb_machine.specs.declared.entry.Entry.{Entry}
use Rattle.usb_machine.specs.declared.plain.Plain.{Plain}
use Rattle.usb_machine.specs.declared.state.Flags.{Flags}
use Rattle.usb_machine.specs.State.{unlinking}
use Rattle.usb_machine.specs.History.{state_of}
use Rattle.usb_machine.specs.Parts.{part_of, held_of, holds_any}
use Rattle.usb_machine.specs.Plain.{Stands}
use Rattle.usb_machine.specs.Calls.{plain_entry, mark_entry, marks_of, claim_entries}
use Rattle.usb_machine.specs.HostCalls.{rested_of}
use Rattle.usb_scene.specs.declared.scene.Scene.{Scene}
use Rattle.usb_scene.specs.WellFormed.{IsWellFormed}
use Rattle.usb_prepare.specs.Layout.{urb_count}
use Rattle.usb_line.specs.declared.run.LineRun.{LineRun}
use Rattle.usb_trace.specs.Plan.{machine_of}
use Rattle.usb_prepare.specs.Below.{below}
use Rattle.usb_trace.specs.Run.{urbs_of}
use Rattle.usb_line.specs.Line.{Progress, adds, ClaimsEach, one, all_flagged, shut_marks, shutting}
use Rattle.usb_line.specs.Shows.{Shows}
use Rattle.usb_line.specs.Calls.{Waited, IsShut, Claimed}
use Rattle.usb_trace.proofs.Entries.{grows}
use Rattle.usb_line.proofs.Each.{marks_by}
use Rattle.usb_trace.proofs.Stills.{flags_still, flags_pass, marks_still, marks_pass}
use Rattle.usb_line.proofs.Held.{no_flag, all_flags, marks_no_flag, holds_down}
use Rattle.usb_line.proofs.Waits.{wait_turned, wait_quiet}
use Rattle.usb_line.proofs.Stopping.{stop_waits, stop_claim, stop_shutting}
use Rattle.usb_line.proofs.Showing.{shows_still}

hub_other : HUB ≢ SERVER
hub_other e = absurd (omega arith)

pub hub_there : (s : Scene) → HUB < 2 + (length s.threads + 3)
hub_there s = omega arith

-- an URB was waited for
module _ (s : Scene) (f : Progress) (n : ℕ) (run : LineRun) (at : Claimed s f n run) (near : n < urb_count s) (now : LineRun) (w : Waited s at.far n now) where
  pub claim_quiet : ((state_of w.far.history n).queued ≡ false) × ((state_of w.far.history n).handlers ≡ 0)
  claim_quiet = wait_quiet s n at.far w.far w.waits

  down_then : (v : ℕ) → v < urb_count s → (held_of (part_of w.far.history HUB) v).flags.down ≡ true
  down_then v l = ap (λ m. (held_of m v).flags.down) ((wait_turned s n at.far w.far w.waits).parts HUB hub_other) ∙ at.is.flagged v l

  pub claim_holds : holds_any (held_of (part_of w.far.history HUB) n) ≡ true
  claim_holds = holds_down (held_of (part_of w.far.history HUB) n) (down_then n near)

  -- and what rested with it was claimed
  pub one_claimed : (after : Plain) (rest : Option ℕ) → rest ≡ (state_of w.far.history n).rest → Stands after (machine_of s) (w.far.history ++ claim_entries HUB n rest)
      → Claimed s f (n + 1) (record now { plain = after })
  one_claimed after rest told stands =
      let kept : Option ℕ = (state_of w.far.history n).rest in
      let xs : List Entry = claim_entries HUB n kept in
      record {
        rests = at.rests ++ rested_of w.far.history n ∷ [];
        far = adds w.far xs;
        claims = subst (λ k. ClaimsEach s HUB f (below k) (at.rests ++ rested_of w.far.history n ∷ []) (adds w.far xs)) (sym (add-one n)) (one (below n) at.rests n at.far w.far at.claims w.waits);
        is = record {
          good = at.is.good;
          shows = shows_still s w.far xs (tt, (tt, tt)) now after w.shows (subst (λ (r : Option ℕ). Stands after (machine_of s) (w.far.history ++ claim_entries HUB n r)) told stands);
          stops = λ v l. stop_claim v HUB n kept w.far.history (stop_waits v s at.is.good n at.far w.far w.waits (at.is.stops v l));
          flagged = λ v l. ap (λ m. (held_of m v).flags.down) (grows HUB w.far.history xs (refl, (refl, tt)))
              ∙ (ap (λ (f : Flags). f.down) (no_flag v (part_of w.far.history HUB) xs (tt, (tt, tt))) ∙ down_then v l);
        };
      }

-- the beginning
module _ (s : Scene) (good : IsWellFormed s) (f : Progress) (run : LineRun) (old : Shows s f run) where
  abbrev flags : List Entry
  flags = map (λ u. plain_entry HUB (Flag record { 0 = u } flag.Down)) (urbs_of s)

  abbrev at : List Entry
  at = (all_flagged s HUB f).history

  abbrev marks : List Entry
  marks = marks_of HUB Shutdown (urbs_of s) (shut_marks s HUB f)

  pub shows_shut : (n : ℕ) (middle after : Plain) → n ≡ urb_count s → Stands middle (machine_of s) (f.history ++ map (λ u. plain_entry HUB (Flag record { 0 = u } flag.Down)) (below n))
      → ((h : List Entry) → Stands middle (machine_of s) h → Stands after (machine_of s) (h ++ map (λ u. mark_entry HUB Shutdown u (unlinking (state_of h u))) (below n)))
      → IsShut s (shutting s HUB f) (record run { plain = after })
  shows_shut n middle after all flagged marked =
      let stands : Stands middle (machine_of s) at = subst (λ n. Stands middle (machine_of s) (f.history ++ map (λ u. plain_entry HUB (Flag record { 0 = u } flag.Down)) (below n))) all flagged in
      let last : Stands after (machine_of s) (at ++ marks)
      = subst (λ xs. Stands after (machine_of s) (at ++ xs)) (sym (marks_by HUB Shutdown (λ u. unlinking (state_of at u)) (urbs_of s)))
      (subst (λ n. Stands after (machine_of s) (at ++ map (λ u. mark_entry HUB Shutdown u (unlinking (state_of at u))) (below n))) all (marked at stands)) in
      record {
        good = good;
        shows = shows_still s (all_flagged s HUB f) marks (marks_still HUB Shutdown (urbs_of s) (shut_marks s HUB f)) (record run { plain = middle }) after
            (shows_still s f flags (flags_still HUB flag.Down (urbs_of s)) run middle old stands) last;
        stops = λ u l. stop_shutting f old.calm HUB s u l;
        flagged = λ u l.
            ap (λ m. (held_of m u).flags.down) (grows HUB at marks (marks_pass HUB Shutdown (urbs_of s) (shut_marks s HUB f)))
            ∙ (ap (λ (f : Flags). f.down) (no_flag u (part_of at HUB) marks (marks_no_flag HUB Shutdown (urbs_of s) (shut_marks s HUB f)))
            ∙ (ap (λ m. (held_of m u).flags.down) (grows HUB f.history flags (flags_pass HUB flag.Down (urbs_of s)))
            ∙ all_flags u (part_of f.history HUB) HUB (urb_count s) l));
      }
