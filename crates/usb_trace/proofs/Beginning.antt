-- What is submitted by a call, by main or as a question begins at the first byte of its buffer.
use Rattle.std.proofs.Common.{ℕ, zero, suc, ◌≡◌, ◌≢◌, ◌+◌, ◌<◌, Bool, true, false, cond, eqb, Option, Some, None, List, [], ◌∷◌, ◌++◌, length, refl, sym, ap, ◌∙◌, subst, arith, eq-eqb, true≢false}
use Rattle.std.specs.Prelude.{map, option_map}
use Rattle.std.specs.List.{flat_map}
use Rattle.std.proofs.lemmas.List.Concat.{flat_map-cons}
use Rattle.std.proofs.lemmas.List.Elements.{filter-append}
use mathlib.Core.Logic.{dite}
use native.Mathlib.Decide.{ℕ_discrete}
use Rattle.usb_types.specs.declared.errno.Errno.{Errno}
use Rattle.usb_types.specs.declared.errno.Code.{Code}
use Rattle.usb_types.specs.declared.errno.Code.TheVariants.{Zero, Fault}
use Rattle.usb_types.specs.declared.urb.UrbId.{UrbId}
use Rattle.usb_types.specs.declared.urb.Why.TheVariants.{Shutdown}
use Rattle.usb_types.specs.declared.urb.Flag.TheVariants as flag
use Rattle.usb_machine.specs.declared.entry.TheConstants.{SERVER}
use Rattle.usb_machine.specs.declared.event.Event.{Event}
use Rattle.usb_machine.specs.declared.event.Event.TheVariants.{Submit, Flag}
use Rattle.usb_machine.specs.declared.event.Answer.{Answer}
use Rattle.usb_machine.specs.declared.transfer.Transfer.{Transfer}
use Rattle.usb_machine.specs.declared.entry.Entry.{Entry}
use Rattle.usb_machine.specs.Shapes.{shape_fault}
use Rattle.usb_machine.specs.State.{accepted}
use Rattle.usb_machine.specs.Parts.{part_of}
use Rattle.usb_machine.specs.Calls.{plain_entry, submit_entries, kill_entries, poison_entries, marks_of, claims_of}
use Rattle.usb_bind.specs.declared.row.Driver.{Driver}
use Rattle.usb_bind.specs.declared.row.Driver.TheVariants.{Keyboard, Acm, Printer}
use Rattle.usb_printer.specs.Requests.{question_of}
use Rattle.usb_class.specs.Origin.{Origin}
use Rattle.usb_class.specs.Questions.{question_by}
use Rattle.usb_class.specs.Handler.{is_ctl}
use Rattle.usb_scene.specs.declared.scene.Scene.{Scene}
use Rattle.usb_prepare.specs.Ends.{shape_at}
use Rattle.usb_prepare.specs.Layout.{home}
use Rattle.usb_class.specs.declared.owner.Owner.{Owner}
use Rattle.usb_trace.specs.declared.rows.HostCall.{HostCall}
use Rattle.usb_trace.specs.declared.rows.HostCall.TheVariants as host_call
use Rattle.usb_trace.specs.declared.rows.CallAnswer.{CallAnswer}
use Rattle.usb_trace.specs.declared.rows.CallAnswer.TheVariants as told
use Rattle.usb_trace.specs.Plan.{owner_of, origin_of, DriverQuestion, question_with, owner_question, question_at, reading, read_by, number_of, fresh, submit_fault, pass_of, host_call_of, main_pass}
use Rattle.usb_trace.specs.Run.{CallRecord, Giveback, IsRun, IsFramed, urbs_of, submit_of, killed_by, host_call_entries, call_entries, done_by, read_entries_by, read_entries, opening, kills_of, seen_quiet, closing}
use Rattle.usb_trace.specs.Claims.{numbers_of}
use Rattle.usb_trace.proofs.Stills.{IsStill, AreStill, AreStill-append, flags_still, unflags_still, marks_still}

-- where an entry is an accepted submit of URB u, its window begins at the first byte
abbrev pub Begins : ℕ → Event → Answer → Option Transfer → Type 0
Begins u (Submit v n) a (Some t) = v.0 ≡ u → accepted a ≡ true → t.from ≡ 0
Begins u (Submit v n) a None = Unit {0}
Begins u _ a c = Unit {0}

abbrev pub AllBegin : ℕ → List Entry → Type 0
AllBegin u [] = Unit {0}
AllBegin u (x ∷ xs) = Begins u x.event x.answer x.carried × AllBegin u xs

pub AllBegin-append : (u : ℕ) (xs ys : List Entry) → AllBegin u xs → AllBegin u ys → AllBegin u (xs ++ ys)
AllBegin-append u [] ys a b = b
AllBegin-append u (x ∷ xs) ys a b = (a.0, AllBegin-append u xs ys a.1 b)

flat_begins : {X : Type 0} (u : ℕ) (f : X → List Entry) → ((x : X) → AllBegin u (f x)) → (xs : List X) → AllBegin u (flat_map f xs)
flat_begins u f each [] = tt
flat_begins u f each (x ∷ xs) = subst (AllBegin u) (sym (flat_map-cons f x xs)) (AllBegin-append u (f x) (flat_map f xs) (each x) (flat_begins u f each xs))

still_begins : (u : ℕ) (e : Event) (a : Answer) (c : Option Transfer) → IsStill e → Begins u e a c
still_begins u (Submit v n) a c is = absurd is
still_begins u _ a c is = tt

stills_begin : (u : ℕ) (xs : List Entry) → AreStill xs → AllBegin u xs
stills_begin u [] is = tt
stills_begin u (x ∷ xs) is = (still_begins u x.event x.answer x.carried is.0, stills_begin u xs is.1)

claims_still : (p : ℕ) (us : List ℕ) (rests : List (Option ℕ)) → AreStill (claims_of p us rests)
claims_still p [] rests = tt
claims_still p (u ∷ us) [] = tt
claims_still p (u ∷ us) (rest ∷ rests) = (tt, (tt, claims_still p us rests))

module _ (u p : ℕ) where
  pub submit_begins : (v : ℕ) (t : Transfer) (c : Code) → t.from ≡ 0 → AllBegin u (submit_entries p v t c)
  submit_begins v t Zero is = (λ same ok. is, (tt, tt))
  submit_begins v t (Fault e) is = (λ same ok. is, tt)

  sent_begins : (o : Option Errno) (v : ℕ) (t : Transfer) (c : Code) → t.from ≡ 0 → AllBegin u (submit_of o p v t c)
  sent_begins None v t c is = submit_begins v t c is
  sent_begins (Some e) v t c is = tt

-- the entries of a call
module _ (u : ℕ) (s : Scene) (p : ℕ) (d : CallRecord) where
  host_call_begins : (dd : HostCall) (a : CallAnswer) → AllBegin u (host_call_entries s p d.call dd a d.marks (numbers_of d.rests) d.down)
  host_call_begins (host_call.Submit v) (told.Code c) = sent_begins u p (submit_fault s v d.call) v (fresh s v d.call) c refl
  host_call_begins (host_call.Unlink v) (told.Code c) = (tt, tt)
  host_call_begins (host_call.Kill v) (told.Buffer n) = go d.marks
    where
      go : (marks : List Code) → AllBegin u (killed_by (λ a. kill_entries p v a n) marks)
      go [] = tt
      go (a ∷ more) = (tt, (tt, (tt, (tt, (tt, tt)))))
  host_call_begins (host_call.Poison v) (told.Buffer n) = go d.marks
    where
      go : (marks : List Code) → AllBegin u (killed_by (λ a. poison_entries p v a n) marks)
      go [] = tt
      go (a ∷ more) = (tt, (tt, (tt, (tt, tt))))
  host_call_begins (host_call.Unpoison v) told.Done = (tt, tt)
  host_call_begins (host_call.Block v) told.Done = (tt, tt)
  host_call_begins (host_call.Unblock v) told.Done = (tt, tt)
  host_call_begins host_call.Down told.Done =
      let flags : List Entry = map (λ v. plain_entry p (Flag record { 0 = v } flag.Down)) (urbs_of s) in
      let marks : List Entry = marks_of p Shutdown (urbs_of s) d.marks in
      let claims : List Entry = claims_of p (urbs_of s) (numbers_of d.rests) in
      stills_begin u ((flags ++ marks) ++ claims)
      (AreStill-append (flags ++ marks) claims (AreStill-append flags marks (flags_still p flag.Down (urbs_of s)) (marks_still p Shutdown (urbs_of s) d.marks)) (claims_still p (urbs_of s) (numbers_of d.rests)))
  host_call_begins host_call.Up told.Done = go d.down
    where
      go : (b : Bool) → AllBegin u (host_call_entries s p d.call host_call.Up told.Done d.marks (numbers_of d.rests) b)
      go true = stills_begin u (host_call_entries s p d.call host_call.Up told.Done d.marks (numbers_of d.rests) true) (unflags_still p flag.Down (urbs_of s))
      go false = tt
  host_call_begins _ _ = tt

-- and those of main
module _ (u : ℕ) (s : Scene) where
  calls_begin : (ds : List CallRecord) → AllBegin u (flat_map (call_entries s) ds)
  calls_begin = flat_begins u (call_entries s) (λ d. host_call_begins u s (pass_of s d.thread) d (host_call_of s d.call) d.answer)

  read_begins : (v n : ℕ) (o : Option ℕ) → AllBegin u (read_entries_by s v (option_map (reading n) o))
  read_begins v n None = tt
  read_begins v n (Some k) = sent_begins u (main_pass s) (shape_fault (shape_at s (home s v)) (reading n k)) v (reading n k) Zero refl

  reads_begin : (v n : ℕ) (o : Option Owner) → AllBegin u (read_entries_by s v (read_by o n))
  reads_begin v n None = tt
  reads_begin v n (Some o) = read_begins v n o.size

  opening_begins : AllBegin u (opening s)
  opening_begins = flat_begins u (read_entries s) (λ v. reads_begin v (number_of s v) (owner_of s v)) (urbs_of s)

  kills_begin : (p : ℕ) (us : List ℕ) (marks : List Code) (rests : List (Option ℕ)) → AllBegin u (kills_of p us marks rests)
  kills_begin p [] marks rests = tt
  kills_begin p (v ∷ us) [] rests = tt
  kills_begin p (v ∷ us) (a ∷ marks) [] = tt
  kills_begin p (v ∷ us) (a ∷ marks) (rest ∷ rests) = AllBegin-append u (kill_entries p v a rest) (kills_of p us marks rests) (tt, (tt, (tt, (tt, (tt, tt))))) (kills_begin p us marks rests)

  closing_begins : (marks : List Code) (rests : List (Option ℕ)) → AllBegin u (closing s marks rests)
  closing_begins marks rests = AllBegin-append u (kills_of (main_pass s) (urbs_of s) marks rests) (flat_map (seen_quiet (main_pass s)) (urbs_of s))
      (kills_begin (main_pass s) (urbs_of s) marks rests) (flat_begins u (seen_quiet (main_pass s)) (λ v. (tt, (tt, tt))) (urbs_of s))

  main_begins : (h : List Entry) → IsFramed s h → AllBegin u (part_of h (main_pass s))
  main_begins h framed =
      let of : List Entry → List Entry = λ l. part_of l (main_pass s) in
      let parts : of h ≡ of framed.first ++ (of framed.middle ++ of framed.last)
      = ap of framed.split ∙ (filter-append (λ x. eqb x.pass (main_pass s)) framed.first (framed.middle ++ framed.last)
      ∙ ap (λ l. of framed.first ++ l) (filter-append (λ x. eqb x.pass (main_pass s)) framed.middle framed.last)) in
      let same : of h ≡ opening s ++ ([] ++ closing s framed.marks (numbers_of framed.rests)) = parts ∙ (λ i. framed.opens i ++ (framed.between i ++ framed.closes i)) in
      subst (AllBegin u) (sym same) (AllBegin-append u (opening s) (closing s framed.marks (numbers_of framed.rests)) opening_begins (closing_begins framed.marks (numbers_of framed.rests)))

  -- a pass is a thread's, or none's
  which : (p : ℕ) (G : Type 0) (n : ℕ) → ((i : ℕ) → i < n → p ≡ pass_of s i → G) → (((i : ℕ) → i < n → p ≢ pass_of s i) → G) → G
  which p G zero some none = none (λ i l. absurd (omega arith))
  which p G (suc n) some none = dite (ℕ_discrete p (pass_of s n))
      (λ is. some n (omega arith) is)
      (λ off. which p G n (λ i l is. some i (omega arith) is)
      (λ all. none (λ i l. dite (ℕ_discrete i n) (λ same e. off (e ∙ ap (pass_of s) same)) (λ other. all i (omega arith)))))

  -- what a pass beside the server submits
  pub parts_begin : (h : List Entry) (call_records : List CallRecord) (rounds : List Giveback) → IsRun s h call_records rounds → (p : ℕ) → p ≢ SERVER → AllBegin u (part_of h p)
  parts_begin h call_records rounds run p off = dite (ℕ_discrete p (main_pass s))
      (λ main. subst (λ p. AllBegin u (part_of h p)) (sym main) (main_begins h run.framed))
      (λ other. which p (AllBegin u (part_of h p)) (length s.threads)
      (λ i near is. subst (λ p. AllBegin u (part_of h p)) (sym is) (subst (AllBegin u) (sym (run.threads i near)) (calls_begin (done_by i call_records))))
      (λ none. subst (AllBegin u) (sym (run.others p off other none)) tt))

-- an entry of a pass
pub in_part : (u : ℕ) (before : List Entry) (x : Entry) (behind : List Entry) → AllBegin u (part_of (before ++ x ∷ behind) x.pass) → Begins u x.event x.answer x.carried
in_part u [] x behind all = (subst (λ b. AllBegin u (cond b (x ∷ part_of behind x.pass) (part_of behind x.pass))) (eq-eqb x.pass x.pass refl) all).0
in_part u (y ∷ before) x behind all = in_part u before x behind (go (eqb y.pass x.pass) all)
  where
    go : (b : Bool) → AllBegin u (cond b (y ∷ part_of (before ++ x ∷ behind) x.pass) (part_of (before ++ x ∷ behind) x.pass)) → AllBegin u (part_of (before ++ x ∷ behind) x.pass)
    go true all = all.1
    go false all = all

-- a driver's question
question_begins : (driver : Driver) (o : Origin) (t : Transfer) → question_by driver o ≡ Some t → t.from ≡ 0
question_begins Keyboard o t is = cc
question_begins Acm o t is = cc
question_begins Printer o t is = let same : question_of o.number o.interface ≡ t = cc in sym (ap (λ (t : Transfer). t.from) same)

with_begins : (c : Option UrbId) (q : Option Transfer) (a : DriverQuestion) → ((t : Transfer) → q ≡ Some t → t.from ≡ 0) → question_with c q ≡ Some a → a.transfer.from ≡ 0
with_begins None q a begins is = cc
with_begins (Some v) None a begins is = cc
with_begins (Some v) (Some t) a begins is = let same : record { urb = v.0; transfer = t } ≡ a = cc in sym (ap (λ (a : DriverQuestion). a.transfer.from) same) ∙ begins t refl

pub asking_begins : (s : Scene) (v : ℕ) (a : DriverQuestion) → question_at s v ≡ Some a → a.transfer.from ≡ 0
unfolding question_at
asking_begins s v a is = go (owner_of s v) is
  where
    by : (o : Owner) (b : Bool) → cond b None (question_with o.ctl (question_by o.driver (origin_of s o.place))) ≡ Some a → a.transfer.from ≡ 0
    by o true is = cc
    by o false is = with_begins o.ctl (question_by o.driver (origin_of s o.place)) a (question_begins o.driver (origin_of s o.place)) is

    go : (o : Option Owner) → owner_question s o ≡ Some a → a.transfer.from ≡ 0
    go None is = cc
    go (Some o) is = by o (is_ctl o.role) is
