-- A turn over a host, and the completion of what it gave back, in the words of a run.
use Rattle.std.proofs.Common.{ℕ, ◌≡◌, ◌<◌, Bool, true, false, not, cond, Option, Some, None, List, [], ◌∷◌, ◌++◌, length, refl, sym, ap, ◌∙◌, subst, append_assoc}
use Rattle.std.specs.Prelude.{slice_get}
use Rattle.usb_types.specs.declared.errno.Errno.{Errno}
use Rattle.usb_types.specs.declared.errno.Code.{Code}
use Rattle.usb_types.specs.declared.errno.Code.TheVariants.{Zero, Fault}
use Rattle.usb_types.specs.declared.urb.UrbId.{UrbId}
use Rattle.usb_machine.specs.declared.entry.TheConstants.{SERVER}
use Rattle.usb_machine.specs.declared.event.Event.{Event}
use Rattle.usb_machine.specs.declared.event.Event.TheVariants.{Take, Finish, Give, End}
use Rattle.usb_machine.specs.declared.event.Answer.{Answer}
use Rattle.usb_machine.specs.declared.event.Answer.TheVariants.{Code as Status}
use Rattle.usb_machine.specs.declared.layout.Shape.{Shape}
use Rattle.usb_machine.specs.declared.transfer.Transfer.{Transfer}
use Rattle.usb_machine.specs.declared.entry.Entry.{Entry}
use Rattle.usb_machine.specs.State.{is_zero}
use Rattle.usb_machine.specs.HostCalls.{fault_at, shape_of}
use Rattle.usb_machine.specs.Calls.{entry, plain_entry}
use Rattle.usb_machine.specs.History.{Machine, HasHome}
use Rattle.usb_machine.specs.Fresh.{Known}
use Rattle.usb_machine.proofs.Growing.{grown_more}
use Rattle.usb_machine.proofs.Rooms.{home_below}
use Rattle.usb_xfer.specs.Replies.{Reply}
use Rattle.usb_xfer.specs.Moved.{moved, moved_state, IsWhole}
use Rattle.usb_xfer.specs.declared.packet.Step.TheVariants.{Ended}
use Rattle.usb_serve.specs.declared.handler.Outcome.{Outcome as ServedOutcome}
use Rattle.usb_serve.specs.declared.handler.Outcome.TheVariants as served
use Rattle.usb_side.specs.Round as round
use Rattle.usb_side.specs.Handled.{Handled, Handles as Did, handled_by as done_by, rest_entry as rests_as, submit_of as submits}
use Rattle.usb_side.proofs.Behind.{gave_home}
use Rattle.usb_class.specs.declared.handlers.Handlers.{Handlers}
use Rattle.usb_class.specs.Handlers.{Completes, Asks, Unasks}
use Rattle.usb_scene.specs.declared.scene.Scene.{Scene}
use Rattle.usb_scene.specs.WellFormed.{IsWellFormed}
use Rattle.usb_prepare.specs.Ends.{or_control, shape_at}
use Rattle.usb_prepare.specs.Layout.{home, urb_count}
use Rattle.usb_trace.specs.Plan.{machine_of, owner_of, question_at}
use Rattle.usb_trace.specs.Due.{next_due}
use Rattle.usb_trace.specs.Run.{Giveback, is_aside, is_first, asked_in, asked_of, given_entries, moved_in, resent_as, IsGiveback}
use Rattle.usb_trace.specs.Handlers.{AreHandlersOf, Handles}
use Rattle.usb_trace.proofs.Handling.{further}
use Rattle.usb_threads.specs.Apt.{AreApt}
use Rattle.usb_threads.specs.Words.{outcome_in_run, question_in_run}
use Rattle.usb_threads.specs.Serving.{of_givebacks, completed_by, served_entries, GaveNothing, Gave}
use Rattle.usb_threads.proofs.Giving.{kept-append}
use Rattle.usb_threads.proofs.Handlers.{handles_in_run, entries_in_run}

-- what stands aside over a host stands aside in a run
same_aside : (e : Event) (a : Answer) → round.is_aside e a ≡ is_aside e a
same_aside (Take e) a = refl
same_aside (Finish u c) a = refl
same_aside _ a = refl

same_givebacks : (xs : List Entry) → round.of_givebacks xs ≡ of_givebacks xs
same_givebacks [] = refl
same_givebacks (x ∷ xs) = λ i. cond (not (same_aside x.event x.answer i)) (x ∷ same_givebacks xs i) (same_givebacks xs i)

same_first : (u : ℕ) (us : List ℕ) → round.is_first u us ≡ is_first u us
same_first u [] = refl
same_first u (v ∷ us) = refl

-- what a handler adds stands not aside
submits_kept : (fault : Option Errno) (u : ℕ) (t : Transfer) (a : Code) → of_givebacks (submits fault u t a) ≡ submits fault u t a
submits_kept (Some e) u t a = refl
submits_kept None u t Zero = refl
submits_kept None u t (Fault e) = refl

done_kept : (g : Machine) (u : ℕ) (back again : Transfer) (asking : Option (UrbId × Transfer)) (o : ServedOutcome) → of_givebacks (done_by g u back again asking o) ≡ done_by g u back again asking o
done_kept g u back again asking served.Rested = refl
done_kept g u back again asking (served.Again a) = let fault = fault_at (shape_of g u) again in
    kept-append (submits fault u again a) (cond (is_zero a) [] (rests_as u again ∷ [])) ∙ (λ i. submits_kept fault u again a i ++ rest a i)
  where
    rest : (a : Code) → of_givebacks (cond (is_zero a) [] (rests_as u again ∷ [])) ≡ cond (is_zero a) [] (rests_as u again ∷ [])
    rest Zero = refl
    rest (Fault e) = refl
done_kept g u back again None (served.Asked a) = refl
done_kept g u back again (Some q) (served.Asked a) = ap (λ (l : List Entry). rests_as u back ∷ l) (submits_kept (fault_at (shape_of g q.0.0) q.1) q.0.0 q.1 a)

-- a turn that gave nothing back
pub gave_none : (s : Scene) (p q : Known) → round.GaveNothing (machine_of s) p q → GaveNothing s p q
gave_none s p q n = record { more = n.more; went = record { grown = n.grown; sound = n.sound }; aside = sym (same_givebacks n.more) ∙ n.aside }

-- an URB that came back, and its handler, which came to this
module _ (s : Scene) (good : IsWellFormed s) (rounds : List Giveback) (p m q : Known) (u : ℕ) (status : Code) (t : Transfer) (old new : Handlers) (stands : AreHandlersOf s rounds old) (o : ServedOutcome)
    (b : round.GaveBack (machine_of s) p m u status (Some t)) (d : Handled (machine_of s) Completes Asks Unasks m q (record { 0 = u }) status t old o new) where
  abbrev g : Machine
  g = machine_of s

  abbrev pub r : Giveback
  r = record { urb = u; status = status; finished = b.finished; sent = b.sent; replies = b.replies; outcome = outcome_in_run o }

  pub given_near : u < urb_count s
  given_near = home_below g u (gave_home g p m u status (Some t) b)

  shape_is : b.shape ≡ shape_at s (home s u)
  shape_is = sym (ap or_control b.at)

  back_is : moved b.shape b.sent b.replies ≡ moved_in s r
  back_is = ap (λ (x : Shape). moved x b.sent b.replies) shape_is

  pub told_is : t ≡ moved_in s r
  told_is = let whole : Some t ≡ Some (moved b.shape b.sent b.replies) = b.back in let same : t ≡ moved b.shape b.sent b.replies = cc in same ∙ back_is

  did : Did Completes Asks Unasks old (record { 0 = u }) status (moved_in s r) d.asking d.again o new
  did = subst (λ (x : Transfer). Did Completes Asks Unasks old (record { 0 = u }) status x d.asking d.again o new) told_is d.handles

  in_run : Handles old (record { 0 = u }) status (moved_in s r) (question_in_run d.asking) (outcome_in_run o) new
  in_run = handles_in_run old new (record { 0 = u }) status (moved_in s r) d.again d.asking o did

  -- the handlers have come as far as one giveback more
  pub handlers_stand : AreHandlersOf s (rounds ++ r ∷ []) new
  handlers_stand = (further s rounds old stands r given_near (question_in_run d.asking) new in_run).stand

  abbrev done : Transfer → List Entry
  done x = done_by g u x d.again d.asking o

  abbrev ends : List Entry
  ends = plain_entry SERVER (End record { 0 = u }) ∷ []

  -- what the turn and the handler added
  abbrev more : List Entry
  more = b.more ++ (done t ++ ends)

  kept : of_givebacks more ≡ given_entries u status b.finished ++ (done t ++ ends)
  kept = kept-append b.more (done t ++ ends)
      ∙ (λ i. (sym (same_givebacks b.more) ∙ b.entries) i ++ (kept-append (done t) ends ∙ ap (λ l. l ++ ends) (done_kept g u t d.again d.asking o)) i)

  entries_are : of_givebacks more ≡ served_entries s r
  entries_are = kept ∙ (ap (λ (x : Transfer). given_entries u status b.finished ++ (done x ++ ends)) told_is
      ∙ ap (λ (l : List Entry). given_entries u status b.finished ++ (l ++ ends))
      (entries_in_run s rounds old stands u given_near status (moved_in s r) good new d.again d.asking o did
      (further s rounds old stands r given_near (question_in_run d.asking) new in_run).asks))

  moves : IsGiveback s r
  moves = record {
    state = λ is. ap (λ (x : Shape). moved_state x b.sent b.replies) (sym shape_is) ∙ b.state is;
    whole = subst (λ (x : Shape). IsWhole x b.sent b.replies) shape_is b.whole;
  }

  -- so a run goes on with this giveback, if its replies are those that were due
  pub gave_run : (AreApt s q.seen → b.replies ≡ next_due s (home s u) (asked_of s (home s u) rounds) (asked_in s r)) → Gave s rounds p q r
  gave_run due = record {
    more = more;
    went = record { grown = grown_more p m q b.more (done t ++ ends) b.grown d.grown; sound = d.sound };
    entries = entries_are;
    before = b.before;
    later = d.grown.begins.more;
    late = record { more = b.late.0; is = sym b.late.1 };
    split = d.grown.begins.is ∙ (ap (λ l. l ++ d.grown.begins.more) b.split ∙ append_assoc b.before (entry SERVER (Give record { 0 = u }) (Status status) None ∷ []) d.grown.begins.more);
    was_sent = b.was_sent;
    first = λ some. sym (same_first u _) ∙ b.first some;
    replies = due;
    moves = moves;
    handled = (further s rounds old stands r given_near (question_in_run d.asking) new in_run).handled;
  }
