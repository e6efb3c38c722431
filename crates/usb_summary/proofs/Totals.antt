-- The line of a number says what its run's history counts.
use Rattle.std.proofs.Common.{ℕ, suc, ◌≡◌, ◌≢◌, ◌+◌, ◌*◌, ◌<◌, Bool, true, false, cond, eqb, List, [], ◌∷◌, ◌++◌, length, get_or, map, Option, Some, None, refl, sym, ap, ◌∙◌, subst, arith, eq-eqb}
use Rattle.std.specs.Prelude.{not}
use Rattle.std.specs.List.{flat_map, list_all, count_by, All}
use Rattle.std.proofs.lemmas.Option.{slice_get-get_or}
use Rattle.std.proofs.lemmas.List.Elements.{filter-append}
use Rattle.std.proofs.lemmas.List.Sums.{AllPass-from_list_all}
use Rattle.usb_types.specs.declared.errno.Code.{Code}
use Rattle.usb_machine.specs.declared.event.Event.{Event}
use Rattle.usb_machine.specs.declared.event.Event.TheVariants.{Take, Finish}
use Rattle.usb_machine.specs.declared.event.Answer.{Answer}
use Rattle.usb_machine.specs.declared.entry.Entry.{Entry}
use Rattle.usb_machine.specs.State.{is_zero}
use Rattle.usb_machine.specs.Parts.{part_of}
use Rattle.usb_scene.specs.declared.scene.Scene.{Scene}
use Rattle.usb_scene.specs.declared.scene.SceneUrb.{SceneUrb}
use Rattle.usb_scene.specs.declared.scene.SceneThread.{SceneThread}
use Rattle.usb_scene.specs.declared.scene.Call.{Call}
use Rattle.usb_scene.specs.WellFormed.{IsCall, IsWellFormed}
use Rattle.usb_prepare.specs.Ends.{device_ends, attached_as, shapes_of}
use Rattle.usb_prepare.specs.Layout.{home}
use Rattle.usb_prepare.proofs.Facts.{scripted_home}
use Rattle.usb_trace.specs.declared.rows.CallMade.{CallMade}
use Rattle.usb_trace.specs.declared.rows.GivebackRow.{GivebackRow}
use Rattle.usb_trace.specs.Plan.{submit_fault, fresh, pass_of}
use Rattle.usb_trace.specs.Claims.{numbers_of}
use Rattle.usb_trace.specs.Run.{CallRecord, Giveback, call_entries, moved_in, is_aside, done_by, closing, IsFramed, IsRun}
use Rattle.usb_line.specs.Line.{Progress, IsLineRun}
use Rattle.usb_trace.specs.GivebackRow.{giveback_row}
use Rattle.usb_trace.specs.Rows.{made_of}
use Rattle.usb_line.proofs.Lines.{line_is_run}
use Rattle.usb_generate.specs.Generator.{devices, urbs, generated}
use Rattle.usb_generate.specs.Summary.{is_accepted, is_refused, is_given, bytes_in, summary_of}
use Rattle.usb_summary.specs.Counts.{submit_code, again_code, is_fault, is_some_of, submits_in, counts_of, counts_line}
use Rattle.usb_summary.proofs.Counting.{bit, count-filter, count_none, count_by_passes}
use Rattle.usb_summary.proofs.Undriven.{are_raw, opens_empty}
use Rattle.usb_summary.proofs.Served.{are_served, no_fault}
use Rattle.usb_summary.proofs.Entries.{tells, IsTally, accepted_tally, refused_tally, given_tally, counted, still_counted, still_closing}
use Rattle.usb_summary.proofs.Runs.{calls_counted, rounds_counted}

-- the scene of a number: raw devices, whose endpoint beside 00 takes each transfer
all_raw : (number : ℕ) → are_raw (generated number).devices ≡ true
unfolding devices
all_raw number = refl

all_served : (number : ℕ) → are_served (shapes_of (generated number)) ≡ true
unfolding devices shapes_of device_ends attached_as
all_served number = refl

abbrev is_other : SceneUrb → Bool
is_other urb = not (eqb urb.address 0)

all_other : list_all is_other (urbs 16) ≡ true
unfolding urbs
all_other = refl

is_false : (b : Bool) → not b ≡ true → b ≡ false
is_false true is = cc
is_false false is = refl

-- what is left out of the server's part is not counted
aside_untold : (e : Event) (a : Answer) → not (is_aside e a) ≡ false → tells e ≡ false
aside_untold (Take n) a out = refl
aside_untold (Finish u code) a out = refl
aside_untold _ a out = cc

-- all calls are those of thread 0
all_done : (ds : List CallRecord) → ((k : ℕ) (x : CallRecord) → k < length ds → (get_or ds k x).thread < 1) → done_by 0 ds ≡ ds
all_done [] only = refl
all_done (d ∷ ds) only =
    let low = only 0 d (omega arith) in
    let zeroth : d.thread ≡ 0 = omega arith in
    ap (λ b. cond b (d ∷ done_by 0 ds) (done_by 0 ds)) (eq-eqb d.thread 0 zeroth) ∙ ap (λ l. d ∷ l) (all_done ds (λ k x l. only (suc k) x (omega arith)))

module _ (number : ℕ) (good : IsWellFormed (generated number)) where
  takes : (u : ℕ) (c : Call) → u < length (urbs 16) → submit_fault (generated number) u c ≡ None
  takes u c near =
      let d : SceneUrb = record { name = []; device = 0; address = 0; len = 0; again = 0; short = false } in
      let home_is = scripted_home (generated number) good u (get_or (urbs 16) u d) (slice_get-get_or (urbs 16) u d near) in
      let other = is_false (eqb (get_or (urbs 16) u d).address 0) (AllPass-from_list_all is_other (urbs 16) all_other u d near) in
      no_fault (generated number) (home (generated number) u) (fresh (generated number) u c) (all_served number) (ap (λ n. eqb n 0) home_is.1 ∙ other)

  module _ (h : List Entry) (call_records : List CallRecord) (rounds : List Giveback) (run : IsRun (generated number) h call_records rounds) where
    done : done_by 0 call_records ≡ call_records
    done = all_done call_records (λ k x l. (run.told k x l).thread)

    abbrev thread : SceneThread
    thread = get_or (generated number).threads 0 (record { name = []; calls = [] })

    called : All (IsCall (generated number)) (map (λ (d : CallRecord). d.call) call_records)
    called = subst (All (IsCall (generated number))) (sym (ap (map (λ (d : CallRecord). d.call)) (sym done) ∙ run.calls 0 thread refl)) (good.threads 0 thread (omega arith)).calls

    elsewhere : (n : ℕ) → n ≢ 0 → n ≢ 2 → n ≢ 3 → part_of h n ≡ []
    elsewhere n a b c = run.others n a c (λ i l e. b (e ∙ ap (pass_of (generated number)) (first i l)))
      where
        first : (i : ℕ) → i < 1 → i ≡ 0
        first i l = omega arith

    framed : IsFramed (generated number) h
    framed = run.framed

    module _ (q : Event → Answer → Bool) (such : Code → Bool) (gives : Bool) (t : IsTally q such gives) where
      abbrev sum_of : List Entry → ℕ
      sum_of xs = counted q such gives t xs

      server : sum_of (part_of h 0) ≡ length (map (giveback_row (generated number)) rounds) * bit gives
          + count_by (λ (g : GivebackRow). is_some_of such (again_code g.outcome)) (map (giveback_row (generated number)) rounds)
      server =
          sym (count-filter (λ (x : Entry). q x.event x.answer) (λ (x : Entry). not (is_aside x.event x.answer)) (λ x out. t.quiet x.event x.answer (aside_untold x.event x.answer out)) (part_of h 0))
          ∙ (ap sum_of (run.together refl) ∙ rounds_counted (generated number) (all_raw number) takes q such gives t rounds)

      calls : sum_of (part_of h 2) ≡ count_by (λ (m : CallMade). is_some_of such (submit_code m)) (map made_of call_records)
      calls = ap sum_of (run.threads 0 (omega arith) ∙ ap (flat_map (call_entries (generated number))) done)
          ∙ calls_counted (generated number) (all_raw number) takes q such gives t call_records run.told called

      main : sum_of (part_of h 3) ≡ 0
      main =
          let split : part_of h 3 ≡ part_of framed.first 3 ++ (part_of framed.middle 3 ++ part_of framed.last 3) =
          ap (λ l. part_of l 3) framed.split ∙ (filter-append (λ (x : Entry). eqb x.pass 3) framed.first (framed.middle ++ framed.last)
          ∙ ap (λ l. part_of framed.first 3 ++ l) (filter-append (λ (x : Entry). eqb x.pass 3) framed.middle framed.last)) in
          let last : part_of h 3 ≡ closing (generated number) framed.marks (numbers_of framed.rests) =
          split ∙ (ap (λ l. l ++ (part_of framed.middle 3 ++ part_of framed.last 3)) (framed.opens ∙ opens_empty (generated number) (all_raw number))
          ∙ (ap (λ l. l ++ part_of framed.last 3) framed.between ∙ framed.closes)) in
          ap sum_of last ∙ still_counted q such gives t (closing (generated number) framed.marks (numbers_of framed.rests)) (still_closing (generated number) framed.marks (numbers_of framed.rests))

      all_counted : sum_of h ≡ (length (map (giveback_row (generated number)) rounds) * bit gives
          + count_by (λ (g : GivebackRow). is_some_of such (again_code g.outcome)) (map (giveback_row (generated number)) rounds))
          + (count_by (λ (m : CallMade). is_some_of such (submit_code m)) (map made_of call_records) + 0)
      all_counted =
          let split = count_by_passes (λ (x : Entry). q x.event x.answer) 0 2 3 (λ e. absurd (omega arith)) (λ e. absurd (omega arith)) (λ e. absurd (omega arith)) h elsewhere in
          let a = server in let b = calls in let c = main in
          omega arith

none_such : (o : Option Code) → is_some_of (λ code. false) o ≡ false
none_such None = refl
none_such (Some code) = refl

actual_of : (s : Scene) (rounds : List Giveback) → map (λ (g : GivebackRow). g.actual) (map (giveback_row s) rounds) ≡ map (λ (r : Giveback). (moved_in s r).actual) rounds
actual_of s [] = refl
actual_of s (r ∷ rounds) = ap (λ l. (moved_in s r).actual ∷ l) (actual_of s rounds)

-- what is counted of the outcome is what is counted of the history
pub line_is_summary : (number : ℕ) → IsWellFormed (generated number) → (f : Progress) → IsLineRun (generated number) f
    → counts_line number (counts_of (map made_of f.call_records) (map (giveback_row (generated number)) f.rounds))
    ≡ summary_of number f.history (map (λ (r : Giveback). (moved_in (generated number) r).actual) f.rounds)
line_is_summary number good f line =
    let made : List CallMade = map made_of f.call_records in
    let given : List GivebackRow = map (giveback_row (generated number)) f.rounds in
    let run = line_is_run (generated number) good f line in
    let accepted : submits_in is_zero made given ≡ count_by (λ (x : Entry). is_accepted x.event x.answer) f.history =
    (let all = all_counted number good f.history f.call_records f.rounds run is_accepted is_zero false accepted_tally in omega arith) in
    let refused : submits_in is_fault made given ≡ count_by (λ (x : Entry). is_refused x.event x.answer) f.history =
    (let all = all_counted number good f.history f.call_records f.rounds run is_refused is_fault false refused_tally in omega arith) in
    let back : length given ≡ count_by (λ (x : Entry). is_given x.event) f.history =
    (let all = all_counted number good f.history f.call_records f.rounds run (λ e a. is_given e) (λ code. false) true given_tally in
    let calls = count_none (λ (m : CallMade). is_some_of (λ code. false) (submit_code m)) (λ m. none_such (submit_code m)) made in
    let again = count_none (λ (g : GivebackRow). is_some_of (λ code. false) (again_code g.outcome)) (λ g. none_such (again_code g.outcome)) given in
    omega arith) in
    λ j. counts_line number (record { accepted = accepted j; refused = refused j; given = back j; bytes = bytes_in (actual_of (generated number) f.rounds j) })
