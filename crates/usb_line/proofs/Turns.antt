-- The turns of a run keep what holds between blocks, and no other pass takes part in them.
use Rattle.std.proofs.Common.{ℕ, ◌≡◌, ◌≢◌, ◌<◌, Bool, true, false, cond, eqb, Option, Some, None, List, [], ◌∷◌, ◌++◌, length, refl, sym, ap, ◌∙◌, subst, arith, eq-eqb, eqb-true, true≢false}
use Rattle.std.specs.Prelude.{slice_get}
use Rattle.usb_types.specs.declared.errno.Code.{Code}
use Rattle.usb_types.specs.declared.errno.Code.TheVariants.{Fault}
use Rattle.usb_types.specs.declared.urb.Action.{Action}
use Rattle.usb_types.specs.declared.urb.Action.TheVariants as action
use Rattle.usb_types.specs.declared.urb.Why.{Why}
use Rattle.usb_types.specs.Codes.{errno_of}
use Rattle.usb_machine.specs.declared.entry.TheConstants.{SERVER}
use Rattle.usb_machine.specs.declared.state.Mark.{Mark as MarkState}
use Rattle.usb_machine.specs.declared.state.Mark.TheVariants.{Clear, Unlinked, Finished}
use Rattle.usb_machine.specs.declared.transfer.Transfer.{Transfer}
use Rattle.usb_machine.specs.State.{is_clear, status_of}
use Rattle.usb_machine.specs.Shapes.{HasWindow, Accepts}
use Rattle.usb_machine.specs.History.{state_of, pending_of, sent_of}
use Rattle.usb_machine.specs.Parts.{part_of}
use Rattle.usb_machine.specs.Legal.{times}
use Rattle.usb_machine.proofs.Rooms.{pending_is_queued, queued_has_home}
use Rattle.usb_machine.proofs.Sent.{queued_is_sent}
use Rattle.usb_xfer.specs.Replies.{Reply}
use Rattle.usb_xfer.specs.Moved.{moved, moved_state, IsWhole}
use Rattle.usb_xfer.specs.declared.packet.Step.TheVariants.{Ended}
use Rattle.usb_class.proofs.Facts.{unlinked_rests}
use Rattle.usb_scene.specs.declared.scene.Scene.{Scene}
use Rattle.usb_scene.specs.WellFormed.{IsWellFormed}
use Rattle.usb_class.specs.declared.owner.Owner.{Owner}
use Rattle.usb_prepare.specs.Ends.{ends_of, shape_at}
use Rattle.usb_prepare.specs.Layout.{home}
use Rattle.usb_trace.specs.Plan.{machine_of, owner_of, DriverQuestion, question_at}
use Rattle.usb_trace.specs.Run.{Giveback, resent, given_entries, giveback_entries, is_first, is_accepted, may_again, question_out, asks_or_rests, acts, IsGiveback, IsHandled, asked_in, asked_of}
use Rattle.usb_class.specs.Handlers.{action_by}
use Rattle.usb_line.specs.Line.{Progress, with_takes, takes_below, is_unlinked, marked_of, had_after, GoesTo, IsServed, IsMarked, outcome_by, outcome_at, round_of, given_back, replies_had, waits, Passes, none, over, stops, Gives, unlinked, ended, GivesBack, one, IsIdle}
use Rattle.usb_trace.specs.Due.{asks, next_due}
use Rattle.usb_line.proofs.Posing.{can_pose_any}
use Rattle.usb_trace.proofs.Entries.{stays}
use Rattle.usb_line.proofs.MayFollow.{once}
use Rattle.usb_line.proofs.Takes.{below_pass}
use Rattle.usb_line.proofs.Givebacks.{CanGive, IsGated, IsSettled, giveback_pass}
use Rattle.usb_line.proofs.Calm.{is_finished}
use Rattle.usb_line.proofs.Marked.{first_at_home, marked_at_home, first_unmarked}
use Rattle.usb_line.proofs.Resending.{moved_fits}
use Rattle.usb_line.proofs.Serving.{SentBare, Serves, takes_serve, waits_serve, longer_replies, whole_none}
use Rattle.usb_trace.proofs.Dues.{nothing_due}
use Rattle.usb_line.proofs.Returning.{CanReturn, back_serves}

-- the part of a pass that is not the server's stays, and no call was made
pub record IsTurned (f m : Progress) : Type 0 where
  pub parts : (p : ℕ) → p ≢ SERVER → part_of m.history p ≡ part_of f.history p
  pub call_records : m.call_records ≡ f.call_records
  pub down : m.down ≡ f.down

pub turned_none : (f : Progress) → IsTurned f f
turned_none f = record { parts = λ p off. refl; call_records = refl; down = refl }

pub turned_on : (f m k : Progress) → IsTurned f m → IsTurned m k → IsTurned f k
turned_on f m k a b = record { parts = λ p off. b.parts p off ∙ a.parts p off; call_records = b.call_records ∙ a.call_records; down = b.down ∙ a.down }

-- passing over endpoints leaves the history and the givebacks
pub record IsPassed (f m : Progress) : Type 0 where
  pub history : m.history ≡ f.history
  pub rounds : m.rounds ≡ f.rounds
  pub call_records : m.call_records ≡ f.call_records
  pub down : m.down ≡ f.down

pub passed : (s : Scene) (f m : Progress) (n : ℕ) → Passes s f n m → IsPassed f m
passed s f _ n none = record { history = refl; rounds = refl; call_records = refl; down = refl }
passed s f m _ (over e _ p skip) = passed s f m e p
passed s f _ _ (stops e m u t n p awake at goes) = let old = passed s f m e p in record { history = old.history; rounds = old.rounds; call_records = old.call_records; down = old.down }

passes_serve : (s : Scene) (f m : Progress) (n : ℕ) → Passes s f n m → Serves s f → Serves s m
passes_serve s f _ n none old = old
passes_serve s f m _ (over e _ p skip) old = passes_serve s f m e p old
passes_serve s f _ _ (stops e m u t n p awake at goes) old = woke (waits_serve s m (passes_serve s f m e p old) e u at.others t n at.first at.transfer goes.whole)
  where
    woke : Serves s (waits s m e t n) → Serves s (waits s m e t n)
    woke q = q

takes_turned : (s : Scene) (f : Progress) → IsTurned f (with_takes s f)
takes_turned s f = record { parts = λ p off. stays SERVER f.history (takes_below s f.history (ends_of s)) (below_pass s f.history (ends_of s)) p (λ i. off (sym i)); call_records = refl; down = refl }

back_turned : (s : Scene) (f : Progress) (r : Giveback) → IsTurned f (given_back s f r)
back_turned s f r = record { parts = λ p off. stays SERVER f.history (giveback_entries s r) (giveback_pass s f.history r) p (λ i. off (sym i)); call_records = refl; down = refl }

pub outcome_gated : (s : Scene) (f : Progress) (u : ℕ) (status : Code) (finished : Bool) (t : Transfer)
    → IsGated s (f.history ++ given_entries u status finished) u (question_at s u) (outcome_at s f u status finished t)
outcome_gated s f u status finished t = go (question_at s u) (acts s f.rounds u status t)
  where
    go : (asking : Option DriverQuestion) (act : Action) → IsGated s (f.history ++ given_entries u status finished) u asking (outcome_by s (f.history ++ given_entries u status finished) u asking act)
    go asking (action.Again from len) = refl
    go (Some a) action.Ask = refl
    go None action.Ask = tt
    go asking action.Rest = tt

outcome_handled : (s : Scene) (f : Progress) (u : ℕ) (status : Code) (finished : Bool) (t : Transfer) → IsHandled (acts s f.rounds u status t) (outcome_at s f u status finished t)
outcome_handled s f u status finished t = go (question_at s u) (question_out s f.rounds (owner_of s u)) (action_by (owner_of s u) (may_again s f.rounds u) status t)
  where
    go : (asking : Option DriverQuestion) (out : Bool) (raw : Action)
        → IsHandled (asks_or_rests asking out raw) (outcome_by s (f.history ++ given_entries u status finished) u asking (asks_or_rests asking out raw))
    go (Some a) false action.Ask = tt
    go (Some a) true action.Ask = tt
    go None false action.Ask = tt
    go None true action.Ask = tt
    go (Some a) false action.Rest = tt
    go (Some a) true action.Rest = tt
    go None false action.Rest = tt
    go None true action.Rest = tt
    go (Some a) false (action.Again from len) = tt
    go (Some a) true (action.Again from len) = tt
    go None false (action.Again from len) = tt
    go None true (action.Again from len) = tt

-- what was unlinked asks nothing
pub unlinked_unasked : (s : Scene) (f : Progress) (u : ℕ) (why : Why) (finished : Bool) (t : Transfer) → is_accepted (outcome_at s f u (Fault (errno_of why)) finished t) ≡ false
unlinked_unasked s f u why finished t = by_owner (owner_of s u) (question_at s u) (question_out s f.rounds (owner_of s u))
  where
    none : (raw : Action) → (raw ≡ action.Ask → ⊥) → (asking : Option DriverQuestion) (out : Bool)
        → is_accepted (outcome_by s (f.history ++ given_entries u (Fault (errno_of why)) finished) u asking (asks_or_rests asking out raw)) ≡ false
    none action.Ask off asking out = absurd (off refl)
    none action.Rest off (Some a) true = refl
    none action.Rest off (Some a) false = refl
    none action.Rest off None true = refl
    none action.Rest off None false = refl
    none (action.Again from len) off (Some a) true = refl
    none (action.Again from len) off (Some a) false = refl
    none (action.Again from len) off None true = refl
    none (action.Again from len) off None false = refl

    own : (b : Bool) → action_by None b (Fault (errno_of why)) t ≡ action.Ask → ⊥
    own true e = cc
    own false e = cc

    by_owner : (o : Option Owner) (asking : Option DriverQuestion) (out : Bool)
        → is_accepted (outcome_by s (f.history ++ given_entries u (Fault (errno_of why)) finished) u asking (asks_or_rests asking out (action_by o (may_again s f.rounds u) (Fault (errno_of why)) t))) ≡ false
    by_owner None asking out = none (action_by None (may_again s f.rounds u) (Fault (errno_of why)) t) (own (may_again s f.rounds u)) asking out
    by_owner (Some o) asking out = none (action_by (Some o) (may_again s f.rounds u) (Fault (errno_of why)) t) (λ e. let rests = unlinked_rests o.driver o.role why t in let x = sym rests ∙ e in cc) asking out

module _ (s : Scene) (good : IsWellFormed s) (f : Progress) (old : Serves s f) (u : ℕ) (t : Transfer) (among : 0 < times u (pending_of (machine_of s) f.history (home s u))) (sent : sent_of f.history u ≡ Some t) where
  queued : (state_of f.history u).queued ≡ true
  queued = pending_is_queued (machine_of s) f.history u old.legal among

  -- what was sent lies in its buffer, and its home takes it
  sent_fits : HasWindow t × Accepts (slice_get (machine_of s).layout.shapes (home s u)) t
  sent_fits = let is = queued_is_sent (machine_of s) u f.history old.legal queued in let x = sym is.is ∙ sent in let same : is.transfer ≡ t = cc in
      subst (λ t. HasWindow t × Accepts (slice_get (machine_of s).layout.shapes (home s u)) t) same (is.window, is.taken)

  module _ (status : Code) (finished : Bool) (replies : List Reply) where
    abbrev r : Giveback
    r = round_of s f u status finished t replies

    -- what is sent again has a window, and its home takes it
    again_fits : HasWindow (resent s r) × Accepts (slice_get (machine_of s).layout.shapes (home s u)) (resent s r)
    again_fits = moved_fits (owner_of s u) (slice_get (machine_of s).layout.shapes (home s u)) (shape_at s (home s u)) t replies status sent_fits.1 (subst (SentBare s u) sent (old.bare u)) sent_fits.0

    can_give : IsSettled s f.history r finished → CanGive s f.history r
    can_give settled = record {
      among = among;
      has = queued_has_home (machine_of s) u f.history old.legal queued;
      window = sent_fits.0;
      taken = sent_fits.1;
      goes = again_fits.0;
      fits = again_fits.1;
      settled = settled;
      asks = can_pose_any s good u;
      gated = outcome_gated s f u status finished (moved (shape_at s (home s u)) t replies);
    }

    returns : IsSettled s f.history r finished → IsGiveback s r → (0 < length replies → is_first u (pending_of (machine_of s) f.history (home s u)) ≡ true)
        → replies ≡ next_due s (home s u) (asked_of s (home s u) f.rounds) (asked_in s r) → CanReturn s f r
    returns settled back first due = record { can = can_give settled; sent = sent; giveback = back; handled = outcome_handled s f u status finished (moved (shape_at s (home s u)) t replies); first = first; replies = due }

-- the first unlinked URB comes back with the replies that it had
module _ (s : Scene) (good : IsWellFormed s) (f : Progress) (old : Serves s f) (u : ℕ) (why : Why) (t : Transfer) (is : IsMarked s f u why t) where
  abbrev back : Giveback
  back = round_of s f u (Fault (errno_of why)) false t (replies_had s f u)

  abbrev pending : List ℕ
  pending = pending_of (machine_of s) f.history (home s u)

  marked_whole : IsWhole (shape_at s (home s u)) t (replies_had s f u)
  marked_whole = go pending refl
    where
      go : (us : List ℕ) → pending ≡ us → IsWhole (shape_at s (home s u)) t (cond (is_first u us) (f.so_far (home s u)) [])
      go [] e = whole_none (shape_at s (home s u)) t [] refl
      go (v ∷ us) e = at (eqb v u) refl
        where
          at : (b : Bool) → eqb v u ≡ b → IsWhole (shape_at s (home s u)) t (cond b (f.so_far (home s u)) [])
          at false no_ = whole_none (shape_at s (home s u)) t [] refl
          at true here = (old.moving (home s u)).whole u us t (e ∙ ap (λ w. w ∷ us) (eqb-true v u here)) is.transfer

  marked_first : 0 < length (replies_had s f u) → is_first u pending ≡ true
  marked_first = go (is_first u pending)
    where
      go : (b : Bool) → 0 < length (cond b (f.so_far (home s u)) []) → b ≡ true
      go true l = refl
      go false l = absurd (omega arith)

  abbrev IsDue : List Reply → Type 0
  IsDue l = l ≡ next_due s (home s u) (asked_of s (home s u) f.rounds) (asks s (home s u) t (length l))

  marked_replies : IsDue (replies_had s f u)
  marked_replies = go pending refl
    where
      go : (us : List ℕ) → pending ≡ us → IsDue (cond (is_first u us) (f.so_far (home s u)) [])
      go [] e = nothing_due s (home s u) (asked_of s (home s u) f.rounds) t [] refl
      go (v ∷ us) e = at (eqb v u) refl
        where
          at : (b : Bool) → eqb v u ≡ b → IsDue (cond b (f.so_far (home s u)) [])
          at false no_ = nothing_due s (home s u) (asked_of s (home s u) f.rounds) t [] refl
          at true here = (old.moving (home s u)).due u us t (e ∙ ap (λ w. w ∷ us) (eqb-true v u here)) is.transfer

  pub marked_serves : Serves s (given_back s f back)
  marked_serves = back_serves s f back (returns s good f old u t (marked_at_home s f.history u is.others old.legal is.first) is.transfer (Fault (errno_of why)) false (replies_had s f u)
      (ap is_clear is.mark, ap status_of (sym is.mark))
      record { state = λ e. absurd (true≢false (sym e)); whole = marked_whole }
      marked_first marked_replies) old

pub clear_mark : (m : MarkState) → is_unlinked m ≡ false → is_finished m ≡ false → m ≡ Clear
clear_mark Clear a b = refl
clear_mark (Unlinked why) a b = absurd (true≢false a)
clear_mark (Finished code) a b = absurd (true≢false b)

-- the first pending URB of an endpoint comes back with the result of its transfer
module _ (s : Scene) (good : IsWellFormed s) (f : Progress) (old : Serves s f) (e u : ℕ) (t : Transfer) (n : ℕ) (code : Code) (near : e < ends_of s) (unmarked : marked_of s f.history ≡ []) (at : IsServed s f e u t)
    (goes : GoesTo s f e t n (Ended code)) where
  abbrev done : Giveback
  done = round_of s f u code true t (had_after s f e t n)

  here : e ≡ home s u
  here = first_at_home (machine_of s) f.history e u at.others old.legal at.first

  first_here : pending_of (machine_of s) f.history (home s u) ≡ u ∷ at.others
  first_here = ap (pending_of (machine_of s) f.history) (sym here) ∙ at.first

  is_first_here : is_first u (pending_of (machine_of s) f.history (home s u)) ≡ true
  is_first_here = ap (is_first u) first_here ∙ eq-eqb u u refl

  ended_replies : had_after s f e t n ≡ next_due s (home s u) (asked_of s (home s u) f.rounds) (asked_in s done)
  ended_replies = subst (λ (d : ℕ). had_after s f e t n ≡ next_due s d (asked_of s d f.rounds) (asks s d t (length (had_after s f e t n)))) here
      (longer_replies s f old e u at.others t n at.first at.transfer goes.whole)

  pub ended_serves : Serves s (given_back s f done)
  ended_serves = back_serves s f done (returns s good f old u t (once u _ at.others first_here) at.transfer code true (had_after s f e t n)
      ((at.others, first_here), clear_mark (state_of f.history u).mark (first_unmarked s f.history e u at.others near unmarked at.first) (old.calm u).mark)
      record {
        state = λ _. subst (λ d. moved_state (shape_at s d) t (had_after s f e t n) ≡ Ended code) here goes.state;
        whole = subst (λ d. IsWhole (shape_at s d) t (had_after s f e t n)) here goes.whole;
      }
      (λ _. is_first_here) ended_replies) old

module _ (s : Scene) (good : IsWellFormed s) where
  pub gives_serve : (f k : Progress) → Gives s f k → Serves s f → Serves s k
  gives_serve f _ (unlinked u why t is) old = marked_serves s good (with_takes s f) (takes_serve s f old) u why t is
  gives_serve f _ (ended e m u t n code unmarked passes near awake at goes) old =
      let same = passed s (with_takes s f) m e passes in
      ended_serves s good m (passes_serve s (with_takes s f) m e passes (takes_serve s f old)) e u t n code near (ap (marked_of s) same.history ∙ unmarked) at goes

module _ (s : Scene) where
  pub gives_turned : (f k : Progress) → Gives s f k → IsTurned f k
  gives_turned f _ (unlinked u why t is) = turned_on f (with_takes s f) _ (takes_turned s f) (back_turned s (with_takes s f) (round_of s (with_takes s f) u (Fault (errno_of why)) false t (replies_had s (with_takes s f) u)))
  gives_turned f _ (ended e m u t n code unmarked passes near awake at goes) =
      let same = passed s (with_takes s f) m e passes in
      turned_on f (with_takes s f) _ (takes_turned s f) (turned_on (with_takes s f) m _
      record { parts = λ p off. ap (λ h. part_of h p) same.history; call_records = same.call_records; down = same.down }
      (back_turned s m (round_of s m u code true t (had_after s m e t n))))

  pub idle_serves : (f e : Progress) → IsIdle s f e → Serves s f → Serves s e
  idle_serves f e idle old = passes_serve s (with_takes s f) e (ends_of s) idle.passed (takes_serve s f old)

  pub idle_turned : (f e : Progress) → IsIdle s f e → IsTurned f e
  idle_turned f e idle = let same = passed s (with_takes s f) e (ends_of s) idle.passed in
      turned_on f (with_takes s f) e (takes_turned s f) record { parts = λ p off. ap (λ h. part_of h p) same.history; call_records = same.call_records; down = same.down }

  pub gives_back_serve : IsWellFormed s → (f m : Progress) → GivesBack s f m → Serves s f → Serves s m
  gives_back_serve good f _ none old = old
  gives_back_serve good f _ (one m k before turn) old = gives_serve s good m k turn (gives_back_serve good f m before old)

  pub gives_back_turned : (f m : Progress) → GivesBack s f m → IsTurned f m
  gives_back_turned f _ none = turned_none f
  gives_back_turned f _ (one m k before turn) = turned_on f m k (gives_back_turned f m before) (gives_turned m k turn)
