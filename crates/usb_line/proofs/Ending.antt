-- The close: main's kills, one after another, and what it sees then.
use Rattle.std.proofs.Common.{ℕ, ◌≡◌, ◌+◌, ◌<◌, false, Option, List, [], ◌∷◌, ◌++◌, length, refl, sym, ap, ◌∙◌, subst, arith, add-one, append_assoc, append-nil}
use Rattle.std.specs.List.{flat_map}
use Rattle.usb_types.specs.declared.errno.Code.{Code}
use Rattle.usb_types.specs.declared.urb.Why.TheVariants.{Kill}
use Rattle.usb_machine.specs.declared.event.Event.TheVariants.{Reject}
use Rattle.usb_machine.specs.declared.entry.Entry.{Entry}
use Rattle.usb_machine.specs.declared.plain.Plain.{Plain}
use Rattle.usb_machine.specs.State.{unlinking}
use Rattle.usb_machine.specs.History.{state_of}
use Rattle.usb_machine.specs.Parts.{part_of, held_of}
use Rattle.usb_machine.specs.Plain.{Stands}
use Rattle.usb_machine.specs.Calls.{plain_entry, mark_entry, claim_entries, unblock_entries, kill_entries}
use Rattle.usb_scene.specs.declared.scene.Scene.{Scene}
use Rattle.usb_prepare.specs.Layout.{urb_count}
use Rattle.usb_line.specs.declared.run.LineRun.{LineRun}
use Rattle.usb_trace.specs.Plan.{machine_of, main_pass}
use Rattle.usb_prepare.specs.Below.{below}
use Rattle.usb_trace.specs.Run.{urbs_of, opening, seen_quiet}
use Rattle.usb_line.specs.Line.{Progress, adds, killing, Closes, none, one}
use Rattle.usb_line.specs.Calls.{MayKill, Killed, IsCalled, KilledEach, Closed}
use Rattle.usb_trace.proofs.Entries.{grows}
use Rattle.usb_line.proofs.Held.{rejects_at, no_reject}
use Rattle.usb_line.proofs.Effects.{kill_effect}
use Rattle.usb_line.proofs.Waits.{wait_turned}
use Rattle.usb_line.proofs.Passes.{main_not_server, main_is_pass}
use Rattle.usb_line.proofs.ReadsFollow.{reads_no_reject}
use Rattle.usb_line.proofs.Calls.{Goes, line_goes}
use Rattle.usb_line.proofs.Downs.{all_below}
use Rattle.usb_line.proofs.Closing.{closes_kill, seen_still}
use Rattle.usb_line.proofs.Showing.{shows_still}

module _ (s : Scene) where
  abbrev main : ℕ
  main = main_pass s

  -- main holds no more rejects than before its kills
  closes_held : (v : ℕ) (f : Progress) (us : List ℕ) (m : Progress) → Closes s f us m → rejects_at v (part_of m.history main) ≡ rejects_at v (part_of f.history main)
  closes_held v f _ _ none = refl
  closes_held v f _ _ (one us u m k before waits) =
      let rest : Option ℕ = (state_of k.history u).rest in let mark : Code = unlinking (state_of m.history u) in
      let begins : List Entry = plain_entry main (Reject record { 0 = u }) ∷ mark_entry main Kill u mark ∷ [] in
      let last : List Entry = claim_entries main u rest ++ unblock_entries main u in
      let part : part_of (k.history ++ last) main ≡ part_of m.history main ++ kill_entries main u mark rest
      = grows main k.history last (refl, (refl, (refl, tt)))
      ∙ (ap (λ l. l ++ last) ((wait_turned s u (killing main u m) k waits).parts main (main_not_server s) ∙ grows main m.history begins (refl, (refl, tt)))
      ∙ append_assoc (part_of m.history main) begins last) in
      ap (rejects_at v) part ∙ (kill_effect (part_of m.history main) v main u mark rest ∙ closes_held v f us m before)

  closes_call_records : (f : Progress) (us : List ℕ) (m : Progress) → Closes s f us m → m.call_records ≡ f.call_records
  closes_call_records f _ _ none = refl
  closes_call_records f _ _ (one us u m k before waits) = (wait_turned s u (killing main u m) k waits).call_records ∙ closes_call_records f us m before

  module _ (f : Progress) (run : LineRun) (is : IsCalled s f run) where
    goes : Goes s f
    goes = line_goes s is.good f is.in_line [] (append-nil _ ∙ is.all)

    -- before the close main holds no reject
    none_held : (v : ℕ) → rejects_at v (part_of f.history main) ≡ 0
    none_held v = ap (rejects_at v) goes.main ∙ no_reject v [] (opening s) (reads_no_reject s (urb_count s))

    few_rejects : (v : ℕ) (us : List ℕ) (m : Progress) → Closes s f us m → rejects_at v (part_of m.history main) ≡ 0
    few_rejects v us m closes = closes_held v f us m closes ∙ none_held v

    module _ (n : ℕ) (now : LineRun) (at : KilledEach s f n now) where
      -- main may kill the next URB
      pub next_kill : n < urb_count s → MayKill s at.far now main n
      next_kill near =
          let none = few_rejects n (below n) at.far at.closes in
          record { good = is.good; shows = at.shows; there = main_is_pass s; other = main_not_server s; near = near; room = omega arith }

      pub one_killed : (rest : Option ℕ) (after : LineRun) → Killed s at.far main n rest after → KilledEach s f (n + 1) after
      one_killed rest after k =
          let last : Progress = adds k.far (claim_entries main n (state_of k.far.history n).rest ++ unblock_entries main n) in
          record { far = last; closes = subst (λ j. Closes s f (below j) last) (sym (add-one n)) (one (below n) n at.far k.far at.closes k.waits); shows = k.shows }

    module _ (n : ℕ) (all : n ≡ urb_count s) (now : LineRun) (at : KilledEach s f n now) where
      closes : Closes s f (urbs_of s) at.far
      closes = subst (λ n. Closes s f (below n) at.far) all at.closes

      -- each URB is quiet
      each_quiet : (u : ℕ) → u < n → ((state_of at.far.history u).queued ≡ false) × ((state_of at.far.history u).handlers ≡ 0) × ((held_of (part_of at.far.history main) u).rejects < 255)
      each_quiet u near =
          let none = few_rejects u (urbs_of s) at.far closes in (
            (closes_kill s is.good f (urb_count s) (urbs_of s) at.far refl closes goes.serves).out u (all_below (urb_count s) u (subst (λ n. u < n) all near)),
            (at.shows.calm u).handlers,
            omega arith,
          )

      -- and main saw each quiet
      pub closed_now : (p : ℕ) (after : Plain) → p ≡ main
          → (p < 2 + (length s.threads + 3) → ((u : ℕ) → u < n → ((state_of at.far.history u).queued ≡ false) × ((state_of at.far.history u).handlers ≡ 0) × ((held_of (part_of at.far.history p) u).rejects < 255))
          → Stands after (machine_of s) (at.far.history ++ flat_map (seen_quiet p) (below n))) → Closed s f (record now { plain = after })
      closed_now p after pass seen =
          let xs : List Entry = flat_map (seen_quiet main) (urbs_of s) in
          let there : p < 2 + (length s.threads + 3) = subst (λ p. p < 2 + (length s.threads + 3)) (sym pass) (main_is_pass s) in
          let quiet : (u : ℕ) → u < n → ((state_of at.far.history u).queued ≡ false) × ((state_of at.far.history u).handlers ≡ 0) × ((held_of (part_of at.far.history p) u).rejects < 255)
          = λ u l. subst (λ p. ((state_of at.far.history u).queued ≡ false) × ((state_of at.far.history u).handlers ≡ 0) × ((held_of (part_of at.far.history p) u).rejects < 255)) (sym pass) (each_quiet u l) in
          let stands : Stands after (machine_of s) (at.far.history ++ xs)
          = subst (λ n. Stands after (machine_of s) (at.far.history ++ flat_map (seen_quiet main) (below n))) all
          (subst (λ p. Stands after (machine_of s) (at.far.history ++ flat_map (seen_quiet p) (below n))) pass (seen there quiet)) in
          record {
            far = adds at.far xs;
            line = record { called = f; killed = at.far; in_line = is.in_line; all = is.all; closes = closes; seen = refl };
            same = closes_call_records f (urbs_of s) at.far closes;
            shows = shows_still s at.far xs (seen_still main (urbs_of s)) now after at.shows stands;
          }
