-- What a printer's URB for writes brings back in a run is one job after another.
use Rattle.std.proofs.Common.{ℕ, ◌≡◌, ◌≢◌, ◌⊎◌, inl, inr, Bool, true, false, cond, eqb, min, ◌*◌, Option, Some, None, List, [], ◌∷◌, ◌++◌, length, filter, refl, sym, ap, ◌∙◌, subst, append_assoc, append-nil}
use Rattle.std.specs.Prelude.{All}
use Rattle.std.specs.List.{flat_map}
use Rattle.std.proofs.lemmas.List.Concat.{flat_map-cons}
use Rattle.std.proofs.lemmas.List.Elements.{All-nil, All-cons}
use Rattle.usb_types.specs.declared.errno.Code.TheVariants.{Zero, Fault}
use Rattle.usb_types.specs.declared.urb.Action.{Action}
use Rattle.usb_types.specs.declared.urb.Action.TheVariants.{Rest, Again, Ask}
use Rattle.usb_machine.specs.declared.layout.Shape.{Shape}
use Rattle.usb_machine.specs.declared.transfer.Transfer.{Transfer}
use Rattle.usb_machine.specs.declared.entry.Entry.{Entry}
use Rattle.usb_machine.proofs.Places.{by_test}
use Rattle.usb_xfer.specs.Output.{acks}
use Rattle.usb_xfer.proofs.Windows.{moved_window}
use Rattle.usb_printer.specs.Whole.{IsWindow, IsMovedOn, IsNotAgain, action_after, IsJob}
use Rattle.usb_class.specs.Handler.{action_of}
use Rattle.usb_scene.specs.declared.scene.Scene.{Scene}
use Rattle.usb_prepare.specs.Ends.{shape_at}
use Rattle.usb_prepare.specs.Layout.{home}
use Rattle.usb_trace.specs.declared.rows.Outcome.{Outcome}
use Rattle.usb_trace.specs.declared.rows.Outcome.TheVariants as outcome
use Rattle.usb_trace.specs.Plan.{owner_of, DriverQuestion, question_at}
use Rattle.usb_trace.specs.Run.{CallRecord, Giveback, IsRun, moved_in, resent, giveback_entries, may_again, question_out, asks_or_rests, acts, IsHandled, AreHandled}
use Rattle.usb_class.specs.Handlers.{action_by}
use Rattle.usb_trace.specs.RunLaws.{takes_packets, write_of, writes_of, IsRefused, IsCutOff, IsJobInRun, IsForWrites}
use Rattle.usb_trace.proofs.OneStatus.{sent_window}
use Rattle.usb_trace.proofs.Carrying.{carried_of, stands, sent_as, none_left}
use Rattle.usb_trace.proofs.Firsts.{IsFromZero, Leaves, IsLeft, left_own, left_other, carried_on, begins_at_first}
use Rattle.usb_trace.proofs.Windows.{handled_at, moved_on, kept_by_out, any_count}

-- the handler did what the driver says, which may rest where it would ask
abbrev Acts : Action → Outcome → Type 0
Acts (Again from len) (outcome.Again code) = Unit {0}
Acts (Again from len) outcome.Rest = ⊥
Acts (Again from len) (outcome.Asked code) = ⊥
Acts Rest (outcome.Again code) = ⊥
Acts Rest outcome.Rest = Unit {0}
Acts Rest (outcome.Asked code) = Unit {0}
Acts Ask (outcome.Again code) = ⊥
Acts Ask outcome.Rest = Unit {0}
Acts Ask (outcome.Asked code) = Unit {0}

acts_so : (a : Action) (asking : Option DriverQuestion) (out : Bool) (o : Outcome) → IsHandled (asks_or_rests asking out a) o → Acts a o
acts_so a asking out o is = go a asking out is
  where
    again : (from len : ℕ) (o : Outcome) → IsHandled (Again from len) o → Acts (Again from len) o
    again from len (outcome.Again code) is = tt
    again from len outcome.Rest is = is
    again from len (outcome.Asked code) is = is

    rests : (o : Outcome) → IsHandled Rest o → Acts Rest o
    rests (outcome.Again code) is = is
    rests outcome.Rest is = tt
    rests (outcome.Asked code) is = tt

    asks : (o : Outcome) → IsHandled Ask o → Acts Ask o
    asks (outcome.Again code) is = is
    asks outcome.Rest is = tt
    asks (outcome.Asked code) is = tt

    rather : (o : Outcome) → IsHandled Rest o → Acts Ask o
    rather (outcome.Again code) is = is
    rather outcome.Rest is = tt
    rather (outcome.Asked code) is = tt

    go : (a : Action) (asking : Option DriverQuestion) (out : Bool) → IsHandled (asks_or_rests asking out a) o → Acts a o
    go (Again from len) None out is = again from len o is
    go (Again from len) (Some q) true is = again from len o is
    go (Again from len) (Some q) false is = again from len o is
    go Rest None out is = rests o is
    go Rest (Some q) true is = rests o is
    go Rest (Some q) false is = rests o is
    go Ask None out is = rather o is
    go Ask (Some q) true is = rather o is
    go Ask (Some q) false is = asks o is

-- no transfer was sent on
abbrev IsEnd : Outcome → Type 0
IsEnd (outcome.Again Zero) = ⊥
IsEnd (outcome.Again (Fault e)) = Unit {0}
IsEnd outcome.Rest = Unit {0}
IsEnd (outcome.Asked code) = Unit {0}

abbrev IsEndOf : Option Giveback → Type 0
IsEndOf None = Unit {0}
IsEndOf (Some p) = IsEnd p.outcome

ended : (a : Action) (o : Outcome) → Acts a o → IsEnd o → IsNotAgain a ⊎ IsRefused a o
ended (Again from len) (outcome.Again Zero) is end = absurd end
ended (Again from len) (outcome.Again (Fault e)) is end = inr tt
ended (Again from len) outcome.Rest is end = absurd is
ended (Again from len) (outcome.Asked code) is end = absurd is
ended Rest o is end = inl tt
ended Ask o is end = inl tt

-- a giveback in a run
record IsBack (s : Scene) (r : Giveback) : Type 0 where
  pub window : IsWindow (write_of s r)
  pub acts : Acts (action_after (write_of s r)) r.outcome

-- a job came to its end or was cut off
abbrev IsOver : Scene → List Giveback → Type 0
IsOver s job = IsJob (writes_of s job) ⊎ IsCutOff s job

-- the job that a giveback begins or goes on with, and those after it
record Parted (s : Scene) (r : Giveback) (rs : List Giveback) : Type 0 where
  pub job : List Giveback
  pub jobs : List (List Giveback)
  pub parts : r ∷ rs ≡ r ∷ (job ++ flat_map (λ (l : List Giveback). l) jobs)
  pub over : IsOver s (r ∷ job)
  pub others : All (IsJobInRun s) jobs

module _ (s : Scene) where
  abbrev asked_by : Giveback → Action
  asked_by r = action_after (write_of s r)

  -- a giveback follows the one before it of its URB
  abbrev NextBy : Giveback → Outcome → Giveback → Type 0
  NextBy p (outcome.Again Zero) r = IsMovedOn (asked_by p) (moved_in s p) (moved_in s r)
  NextBy p (outcome.Again (Fault e)) r = (moved_in s r).from ≡ 0
  NextBy p outcome.Rest r = (moved_in s r).from ≡ 0
  NextBy p (outcome.Asked code) r = (moved_in s r).from ≡ 0

  abbrev IsNext : Option Giveback → Giveback → Type 0
  IsNext None r = (moved_in s r).from ≡ 0
  IsNext (Some p) r = NextBy p p.outcome r

  abbrev AreLinked : Option Giveback → List Giveback → Type 0
  AreLinked last [] = IsEndOf last
  AreLinked last (r ∷ rs) = IsNext last r × IsBack s r × AreLinked (Some r) rs

  alone : (r : Giveback) → IsBack s r → IsEnd r.outcome → IsOver s (r ∷ [])
  alone r back end = go (ended (asked_by r) r.outcome back.acts end)
    where
      go : IsNotAgain (asked_by r) ⊎ IsRefused (asked_by r) r.outcome → IsOver s (r ∷ [])
      go (inl rests) = inl (back.window, rests)
      go (inr refused) = inr (back.window, refused)

  longer : (r next : Giveback) (more : List Giveback) → IsBack s r → IsMovedOn (asked_by r) (moved_in s r) (moved_in s next) → IsOver s (next ∷ more) → IsOver s (r ∷ next ∷ more)
  longer r next more back moved (inl job) = inl (back.window, moved, job)
  longer r next more back moved (inr cut) = inr (back.window, moved, cut)

  part : (r : Giveback) (rs : List Giveback) → IsBack s r → AreLinked (Some r) rs → Parted s r rs
  part r [] back end = record { job = []; jobs = []; parts = refl; over = alone r back end; others = All-nil (IsJobInRun s) }
  part r (next ∷ rs) back linked = go r.outcome refl linked.0 (part next rs linked.1 linked.2)
    where
      fresh_job : IsEnd r.outcome → (moved_in s next).from ≡ 0 → Parted s next rs → Parted s r (next ∷ rs)
      fresh_job end zero rest = record {
        job = [];
        jobs = (next ∷ rest.job) ∷ rest.jobs;
        parts = ap (λ l. r ∷ l) (rest.parts ∙ sym (flat_map-cons (λ (l : List Giveback). l) (next ∷ rest.job) rest.jobs));
        over = alone r back end;
        others = All-cons (IsJobInRun s) (next ∷ rest.job) rest.jobs (zero, rest.over) rest.others;
      }

      go : (o : Outcome) → r.outcome ≡ o → NextBy r o next → Parted s next rs → Parted s r (next ∷ rs)
      go (outcome.Again Zero) did moved rest = record {
        job = next ∷ rest.job;
        jobs = rest.jobs;
        parts = ap (λ l. r ∷ l) rest.parts;
        over = longer r next rest.job back moved rest.over;
        others = rest.others;
      }
      go (outcome.Again (Fault e)) did zero rest = fresh_job (subst IsEnd (sym did) tt) zero rest
      go outcome.Rest did zero rest = fresh_job (subst IsEnd (sym did) tt) zero rest
      go (outcome.Asked code) did zero rest = fresh_job (subst IsEnd (sym did) tt) zero rest

  -- nothing of the URB is left out
  none_out : (last : Option Giveback) → IsLeft s last None → IsEndOf last
  none_out None left = tt
  none_out (Some p) left = go p.outcome left
    where
      go : (w : Outcome) → Leaves s p w None → IsEnd w
      go (outcome.Again Zero) is = cc
      go (outcome.Again (Fault e)) is = tt
      go outcome.Rest is = tt
      go (outcome.Asked code) is = tt

  -- what was sent on has the window that the driver asked for
  abbrev IsKnown : Option Giveback → Type 0
  IsKnown None = Unit {0}
  IsKnown (Some p) = p.outcome ≡ outcome.Again Zero → IsMovedOn (asked_by p) (moved_in s p) (resent s p)

  abbrev mine : ℕ → List Giveback → List Giveback
  mine u l = filter (λ (r : Giveback). eqb r.urb u) l

  module _ (h : List Entry) (call_records : List CallRecord) (rounds : List Giveback) (run : IsRun s h call_records rounds) (u : ℕ) (writer : IsForWrites s u) where
    -- one of the URB's givebacks
    module _ (before : List Giveback) (r : Giveback) (behind : List Giveback) (parts : rounds ≡ before ++ r ∷ behind) (same : r.urb ≡ u) where
      abbrev shape : Shape
      shape = shape_at s (home s r.urb)

      abbrev left_before : Option Transfer
      left_before = carried_of (flat_map (giveback_entries s) before) r.urb

      owned : owner_of s r.urb ≡ Some writer.owner
      owned = ap (owner_of s) same ∙ writer.owned

      says : action_of writer.owner.driver writer.owner.role r.status (moved_in s r) ≡ asked_by r
      says = (λ i. action_of (writer.driver i) (writer.role i) r.status (moved_in s r))

      handled : AreHandled s [] (before ++ r ∷ behind)
      handled = subst (AreHandled s []) parts run.handled

      known : IsKnown (Some r)
      known did = subst (λ a. IsMovedOn a (moved_in s r) (resent s r)) says (moved_on s before r behind writer.owner handled did owned)

      moved_is : moved_in s r ≡ record (r.sent) { actual = min r.sent.len (shape.max * acks r.replies) }
      moved_is = kept_by_out shape r.sent r.replies (ap (λ v. takes_packets (shape_at s (home s v))) same ∙ writer.packets)

      back : IsBack s r
      back = record {
        window = record { write = refl; window = moved_window shape r.sent r.replies (sent_window s h call_records rounds run (length before) r (stands s h call_records rounds run before r behind parts)) };
        acts = acts_so (asked_by r) (question_at s r.urb) (question_out s before (owner_of s r.urb)) r.outcome
            (subst (λ a. IsHandled (asks_or_rests (question_at s r.urb) (question_out s before (owner_of s r.urb)) a) r.outcome)
            (ap (λ o. action_by o (may_again s before r.urb) r.status (moved_in s r)) owned ∙ says) (handled_at s [] before r behind handled));
      }

      zero : IsFromZero left_before → (moved_in s r).from ≡ 0
      zero left = ap (λ (t : Transfer). t.from) moved_is ∙ begins_at_first s h call_records rounds run before r behind parts left

      next_of : (last : Option Giveback) → IsKnown last → IsLeft s last left_before → IsNext last r
      next_of None is left = zero left
      next_of (Some p) is left = go p.outcome refl left
        where
          sent_on : p.outcome ≡ outcome.Again Zero → left_before ≡ Some (resent s p) → IsMovedOn (asked_by p) (moved_in s p) (moved_in s r)
          sent_on did left =
              let sent = subst (IsMovedOn (asked_by p) (moved_in s p)) (sym (sent_as s h call_records rounds run before r behind parts (resent s p) left)) (is did) in
              subst (IsMovedOn (asked_by p) (moved_in s p)) (sym moved_is) (any_count (asked_by p) (moved_in s p) r.sent (min r.sent.len (shape.max * acks r.replies)) sent)

          go : (o : Outcome) → p.outcome ≡ o → Leaves s p o left_before → NextBy p o r
          go (outcome.Again Zero) did left = sent_on did left
          go (outcome.Again (Fault e)) did left = zero left
          go outcome.Rest did left = zero left
          go (outcome.Asked code) did left = zero left

    abbrev left_by : List Giveback → Option Transfer
    left_by before = carried_of (flat_map (giveback_entries s) before) u

    linked : (before behind : List Giveback) → rounds ≡ before ++ behind → (last : Option Giveback) → IsKnown last → IsLeft s last (left_by before) → AreLinked last (mine u behind)
    linked before [] parts last is left =
        let none : left_by before ≡ None = ap left_by (sym (append-nil before)) ∙ (ap left_by (sym parts) ∙ none_left s h call_records rounds run u) in
        none_out last (subst (IsLeft s last) none left)
    linked before (r ∷ behind) parts last is left =
        let more : rounds ≡ (before ++ r ∷ []) ++ behind = parts ∙ sym (append_assoc before (r ∷ []) behind) in
        by_test r.urb u (λ b. AreLinked last (cond b (r ∷ mine u behind) (mine u behind)))
        (λ same. (
          next_of before r behind parts same last is (subst (λ v. IsLeft s last (carried_of (flat_map (giveback_entries s) before) v)) (sym same) left),
          back before r behind parts same,
          linked (before ++ r ∷ []) behind more (Some r) (known before r behind parts same) (subst (IsLeft s (Some r)) (sym (carried_on s u before r)) (left_own s u r (left_by before) same)),
        ))
        (λ other. linked (before ++ r ∷ []) behind more last is (subst (IsLeft s last) (sym (carried_on s u before r)) (left_other s u r last (left_by before) other left)))

  pub are_jobs : (h : List Entry) (call_records : List CallRecord) (rounds : List Giveback) → IsRun s h call_records rounds → (u : ℕ) → IsForWrites s u
      → (jobs : List (List Giveback)) × (filter (λ r. eqb r.urb u) rounds ≡ flat_map (λ (l : List Giveback). l) jobs) × (All (IsJobInRun s) jobs)
  are_jobs h call_records rounds run u writer = go (mine u rounds) (linked h call_records rounds run u writer [] rounds refl None tt tt)
    where
      go : (l : List Giveback) → AreLinked None l → (jobs : List (List Giveback)) × (l ≡ flat_map (λ (l : List Giveback). l) jobs) × (All (IsJobInRun s) jobs)
      go [] linked = ([], refl, All-nil (IsJobInRun s))
      go (r ∷ rs) linked =
          let p = part r rs linked.1 linked.2 in
          ((r ∷ p.job) ∷ p.jobs, p.parts ∙ sym (flat_map-cons (λ (l : List Giveback). l) (r ∷ p.job) p.jobs), All-cons (IsJobInRun s) (r ∷ p.job) p.jobs (linked.0, p.over) p.others)
