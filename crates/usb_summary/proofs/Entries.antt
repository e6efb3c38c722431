-- What the entries of calls, of handlers and of the close count.
use Rattle.std.proofs.Common.{ℕ, ◌≡◌, ◌+◌, Bool, true, false, cond, List, [], ◌∷◌, ◌++◌, Option, Some, None, map, refl, ap, ◌∙◌, arith}
use Rattle.std.specs.Prelude.{not, ◌&&◌, if◌then◌else◌}
use Rattle.std.specs.List.{flat_map, list_all, count_by}
use Rattle.std.proofs.lemmas.Bool.{and_parts}
use Rattle.std.proofs.lemmas.List.Folds.{list_all-append}
use Rattle.usb_types.specs.declared.errno.Code.{Code}
use Rattle.usb_types.specs.declared.urb.UrbId.{UrbId}
use Rattle.usb_types.specs.declared.urb.Why.{Why}
use Rattle.usb_types.specs.declared.urb.Why.TheVariants.{Shutdown}
use Rattle.usb_types.specs.declared.urb.Flag.TheVariants as flag
use Rattle.usb_machine.specs.declared.entry.TheConstants.{SERVER}
use Rattle.usb_machine.specs.declared.event.Event.{Event}
use Rattle.usb_machine.specs.declared.event.Event.TheVariants.{Submit, Link, Finish, Give, Flag}
use Rattle.usb_machine.specs.declared.event.Answer.{Answer}
use Rattle.usb_machine.specs.declared.event.Answer.TheVariants.{Code as Status, Truth}
use Rattle.usb_machine.specs.declared.transfer.Transfer.{Transfer}
use Rattle.usb_machine.specs.declared.entry.Entry.{Entry}
use Rattle.usb_machine.specs.State.{is_zero}
use Rattle.usb_machine.specs.Calls.{entry, plain_entry, submit_entries, marks_of, claims_of, flush_entries, unflag_entries}
use Rattle.usb_generate.specs.Summary.{is_accepted, is_refused, is_given}
use Rattle.usb_scene.specs.declared.scene.Scene.{Scene}
use Rattle.usb_scene.specs.declared.scene.Call.{Call}
use Rattle.usb_trace.specs.declared.rows.HostCall.{HostCall}
use Rattle.usb_trace.specs.declared.rows.HostCall.TheVariants as host_call
use Rattle.usb_trace.specs.declared.rows.CallAnswer.{CallAnswer}
use Rattle.usb_trace.specs.declared.rows.CallAnswer.TheVariants as told
use Rattle.usb_trace.specs.declared.rows.Outcome.{Outcome}
use Rattle.usb_trace.specs.declared.rows.Outcome.TheVariants as outcome
use Rattle.usb_trace.specs.Plan.{main_pass}
use Rattle.usb_trace.specs.Run.{urbs_of, host_call_entries, rest_entry, handled_by, given_entries, kills_of, seen_quiet, closing}
use Rattle.usb_summary.specs.Counts.{again_code, is_fault, is_some_of}
use Rattle.usb_summary.proofs.Counting.{bit, count-cons, count-append}

-- the events that a summary counts
abbrev pub tells : Event → Bool
tells (Submit u n) = true
tells (Give u) = true
tells _ = false

-- a test of entries goes by the code of a Submit, and is the same for each Give
pub record IsTally (q : Event → Answer → Bool) (such : Code → Bool) (gives : Bool) : Type 0 where
  pub submit : (u : UrbId) (n : ℕ) (code : Code) → q (Submit u n) (Status code) ≡ such code
  pub give : (u : UrbId) (a : Answer) → q (Give u) a ≡ gives
  pub quiet : (e : Event) (a : Answer) → tells e ≡ false → q e a ≡ false

accepted_quiet : (e : Event) (a : Answer) → tells e ≡ false → is_accepted e a ≡ false
accepted_quiet (Submit u n) a off = cc
accepted_quiet _ a off = refl

refused_quiet : (e : Event) (a : Answer) → tells e ≡ false → is_refused e a ≡ false
refused_quiet (Submit u n) a off = cc
refused_quiet _ a off = refl

given_quiet : (e : Event) (a : Answer) → tells e ≡ false → is_given e ≡ false
given_quiet (Give u) a off = cc
given_quiet _ a off = refl

pub accepted_tally : IsTally is_accepted is_zero false
accepted_tally = record { submit = λ u n code. refl; give = λ u a. refl; quiet = accepted_quiet }

pub refused_tally : IsTally is_refused is_fault false
refused_tally = record { submit = λ u n code. refl; give = λ u a. refl; quiet = refused_quiet }

pub given_tally : IsTally (λ e a. is_given e) (λ code. false) true
given_tally = record { submit = λ u n code. refl; give = λ u a. refl; quiet = given_quiet }

-- entries that a summary does not count
abbrev is_still : Entry → Bool
is_still x = not (tells x.event)

abbrev pub are_still : List Entry → Bool
are_still xs = list_all is_still xs

still_both : (xs ys : List Entry) → are_still xs ≡ true → are_still ys ≡ true → are_still (xs ++ ys) ≡ true
still_both xs ys a b = list_all-append is_still xs ys ∙ (ap (λ c. c && are_still ys) a ∙ b)

still_marks : (p : ℕ) (why : Why) (us : List ℕ) (answers : List Code) → are_still (marks_of p why us answers) ≡ true
still_marks p why [] answers = refl
still_marks p why (u ∷ us) [] = refl
still_marks p why (u ∷ us) (a ∷ answers) = still_marks p why us answers

still_claims : (p : ℕ) (us : List ℕ) (rests : List (Option ℕ)) → are_still (claims_of p us rests) ≡ true
still_claims p [] rests = refl
still_claims p (u ∷ us) [] = refl
still_claims p (u ∷ us) (rest ∷ rests) = still_claims p us rests

still_flags : (p : ℕ) (us : List ℕ) → are_still (map (λ u. plain_entry p (Flag record { 0 = u } flag.Down)) us) ≡ true
still_flags p [] = refl
still_flags p (u ∷ us) = still_flags p us

still_unflags : (p : ℕ) (us : List ℕ) → are_still (unflag_entries p flag.Down us) ≡ true
still_unflags p [] = refl
still_unflags p (u ∷ us) = still_unflags p us

still_flush : (p : ℕ) (us : List ℕ) (answers : List Code) (rests : List (Option ℕ)) → are_still (flush_entries p flag.Down us answers rests) ≡ true
still_flush p us answers rests =
    let flags : List Entry = map (λ u. plain_entry p (Flag record { 0 = u } flag.Down)) us in
    still_both (flags ++ marks_of p Shutdown us answers) (claims_of p us rests)
    (still_both flags (marks_of p Shutdown us answers) (still_flags p us) (still_marks p Shutdown us answers)) (still_claims p us rests)

still_kills : (p : ℕ) (us : List ℕ) (answers : List Code) (rests : List (Option ℕ)) → are_still (kills_of p us answers rests) ≡ true
still_kills p [] answers rests = refl
still_kills p (u ∷ us) [] rests = refl
still_kills p (u ∷ us) (a ∷ answers) [] = refl
still_kills p (u ∷ us) (a ∷ answers) (rest ∷ rests) = still_kills p us answers rests

still_seen : (p : ℕ) (us : List ℕ) → are_still (flat_map (seen_quiet p) us) ≡ true
still_seen p [] = refl
still_seen p (u ∷ us) = still_seen p us

-- the close submits nothing and gives nothing back
pub still_closing : (s : Scene) (marks : List Code) (rests : List (Option ℕ)) → are_still (closing s marks rests) ≡ true
still_closing s marks rests =
    still_both (kills_of (main_pass s) (urbs_of s) marks rests) (flat_map (seen_quiet (main_pass s)) (urbs_of s)) (still_kills (main_pass s) (urbs_of s) marks rests) (still_seen (main_pass s) (urbs_of s))

abbrev pub is_submit : HostCall → Bool
is_submit (host_call.Submit u) = true
is_submit _ = false

-- neither does a call that is no submit
pub still_host_call : (s : Scene) (p : ℕ) (c : Call) (d : HostCall) (a : CallAnswer) (marks : List Code) (rests : List (Option ℕ)) (down : Bool)
    → is_submit d ≡ false → are_still (host_call_entries s p c d a marks rests down) ≡ true
still_host_call s p c (host_call.Submit u) a marks rests down off = cc
still_host_call s p c (host_call.Unlink u) (told.Code a) marks rests down off = refl
still_host_call s p c (host_call.Unlink u) _ marks rests down off = refl
still_host_call s p c (host_call.Kill u) (told.Buffer n) [] rests down off = refl
still_host_call s p c (host_call.Kill u) (told.Buffer n) (a ∷ marks) rests down off = refl
still_host_call s p c (host_call.Kill u) _ marks rests down off = refl
still_host_call s p c (host_call.Poison u) (told.Buffer n) [] rests down off = refl
still_host_call s p c (host_call.Poison u) (told.Buffer n) (a ∷ marks) rests down off = refl
still_host_call s p c (host_call.Poison u) _ marks rests down off = refl
still_host_call s p c (host_call.Unpoison u) told.Done marks rests down off = refl
still_host_call s p c (host_call.Unpoison u) _ marks rests down off = refl
still_host_call s p c (host_call.Block u) told.Done marks rests down off = refl
still_host_call s p c (host_call.Block u) _ marks rests down off = refl
still_host_call s p c (host_call.Unblock u) told.Done marks rests down off = refl
still_host_call s p c (host_call.Unblock u) _ marks rests down off = refl
still_host_call s p c host_call.Serve _ marks rests down off = refl
still_host_call s p c host_call.Down told.Done marks rests down off = still_flush p (urbs_of s) marks rests
still_host_call s p c host_call.Down _ marks rests down off = refl
still_host_call s p c host_call.Up told.Done marks rests true off = still_unflags p (urbs_of s)
still_host_call s p c host_call.Up told.Done marks rests false off = refl
still_host_call s p c host_call.Up _ marks rests down off = refl
still_host_call s p c host_call.Absent _ marks rests down off = refl
still_host_call s p c host_call.Other _ marks rests down off = refl

module _ (q : Event → Answer → Bool) (such : Code → Bool) (gives : Bool) (t : IsTally q such gives) where
  abbrev pub counted : List Entry → ℕ
  counted xs = count_by (λ (x : Entry). q x.event x.answer) xs

  counted_more : (x : Entry) (xs : List Entry) → counted (x ∷ xs) ≡ bit (q x.event x.answer) + counted xs
  counted_more x xs = count-cons (λ (x : Entry). q x.event x.answer) x xs

  pub counted_both : (xs ys : List Entry) → counted (xs ++ ys) ≡ counted xs + counted ys
  counted_both xs ys = count-append (λ (x : Entry). q x.event x.answer) xs ys

  -- nothing of these is counted
  out_of : (x : Entry) → is_still x ≡ true → q x.event x.answer ≡ false
  out_of x is = t.quiet x.event x.answer (go (tells x.event) is)
    where
      go : (b : Bool) → not b ≡ true → b ≡ false
      go true e = cc
      go false e = refl

  pub still_counted : (xs : List Entry) → are_still xs ≡ true → counted xs ≡ 0
  still_counted [] is = refl
  still_counted (x ∷ xs) is =
      let both = and_parts (is_still x) (are_still xs) is in
      let none : bit (q x.event x.answer) ≡ 0 = ap bit (out_of x both.0) in
      let rest = still_counted xs both.1 in
      let more = counted_more x xs in
      omega arith

  -- a submit is counted by its code
  pub submit_counted : (p u : ℕ) (sent : Transfer) (code : Code) → counted (submit_entries p u sent code) ≡ bit (such code)
  submit_counted p u sent code =
      let links : List Entry = if is_zero code then plain_entry p (Link record { 0 = u }) ∷ [] else [] in
      let more = counted_more (entry p (Submit record { 0 = u } sent.number) (Status code) (Some sent)) links in
      let here : bit (q (Submit record { 0 = u } sent.number) (Status code)) ≡ bit (such code) = ap bit (t.submit record { 0 = u } sent.number code) in
      let rest : counted links ≡ 0 = still_counted links (go (is_zero code)) in
      omega arith
    where
      go : (b : Bool) → are_still (cond b (plain_entry p (Link record { 0 = u }) ∷ []) []) ≡ true
      go true = refl
      go false = refl

  -- a Give is counted as all are
  pub give_counted : (u : ℕ) (status : Code) (finished : Bool) → counted (given_entries u status finished) ≡ bit gives
  give_counted u status finished =
      let front : List Entry = if finished then entry SERVER (Finish record { 0 = u } status) (Truth true) None ∷ [] else [] in
      let give : Entry = entry SERVER (Give record { 0 = u }) (Status status) None in
      let both = counted_both front (give ∷ []) in
      let none : counted front ≡ 0 = still_counted front (go finished) in
      let more = counted_more give [] in
      let here : bit (q (Give record { 0 = u }) (Status status)) ≡ bit gives = ap bit (t.give record { 0 = u } (Status status)) in
      omega arith
    where
      go : (b : Bool) → are_still (cond b (entry SERVER (Finish record { 0 = u } status) (Truth true) None ∷ []) []) ≡ true
      go true = refl
      go false = refl

  -- a handler is counted by the code of its submit, where it asks no question
  pub handler_counted : (s : Scene) (u : ℕ) (back again : Transfer) (o : Outcome) → counted (handled_by s u back again None o) ≡ bit (is_some_of such (again_code o))
  handler_counted s u back again outcome.Rest = still_counted (rest_entry SERVER u back ∷ []) refl
  handler_counted s u back again (outcome.Asked code) = still_counted (rest_entry SERVER u back ∷ []) refl
  handler_counted s u back again (outcome.Again code) =
      let rest : List Entry = if is_zero code then [] else rest_entry SERVER u again ∷ [] in
      let both = counted_both (submit_entries SERVER u again code) rest in
      let none : counted rest ≡ 0 = still_counted rest (go (is_zero code)) in
      let here = submit_counted SERVER u again code in
      omega arith
    where
      go : (b : Bool) → are_still (cond b [] (rest_entry SERVER u again ∷ [])) ≡ true
      go true = refl
      go false = refl
