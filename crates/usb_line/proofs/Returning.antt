-- A giveback keeps what holds of a run wherever no block is in the midst.
use Rattle.std.proofs.Common.{ℕ, ◌≡◌, ◌≢◌, ◌<◌, Bool, true, false, not, ◌&&◌, cond, eqb, Option, Some, None, List, [], ◌∷◌, ◌++◌, length, refl, sym, ap, ◌∙◌, subst, append_assoc, append-nil, eq-eqb, ne_eqb, eqb-true, arith, true≢false}
use Rattle.std.specs.List.{flat_map}
use Rattle.std.proofs.lemmas.List.{map-append}
use Rattle.std.proofs.lemmas.List.Elements.{filter-append, All-push}
use Rattle.std.proofs.lemmas.Grind.{flat_map-append}
use mathlib.Core.Logic.{dite}
use native.Mathlib.Decide.{ℕ_discrete}
use Rattle.usb_types.specs.declared.errno.Code.{Code}
use Rattle.usb_types.specs.declared.errno.Code.TheVariants.{Zero, Fault}
use Rattle.usb_machine.specs.declared.entry.TheConstants.{SERVER}
use Rattle.usb_machine.specs.declared.event.Event.TheVariants.{Finish, Give, End}
use Rattle.usb_machine.specs.declared.event.Answer.TheVariants.{Truth, Code as Status}
use Rattle.usb_machine.specs.declared.transfer.Transfer.{Transfer}
use Rattle.usb_machine.specs.declared.entry.Entry.{Entry}
use Rattle.usb_machine.specs.History.{Episode, episodes_after, without, pending_of, sent_of}
use Rattle.usb_machine.specs.Parts.{part_of}
use Rattle.usb_machine.specs.Calls.{entry, plain_entry, submit_entries}
use Rattle.usb_machine.specs.Legal.{IsLegal, times}
use Rattle.usb_machine.proofs.Rooms.{pending_is_queued}
use Rattle.usb_machine.proofs.Steps.{pending_of-snoc, sent_of-snoc}
use Rattle.usb_xfer.specs.Replies.{Reply}
use Rattle.usb_xfer.specs.Moved.{IsWhole}
use Rattle.usb_scene.specs.declared.scene.Scene.{Scene}
use Rattle.usb_trace.specs.declared.rows.Outcome.{Outcome}
use Rattle.usb_trace.specs.declared.rows.Outcome.TheVariants as outcome
use Rattle.usb_prepare.specs.Ends.{shape_at}
use Rattle.usb_prepare.specs.Layout.{home}
use Rattle.usb_trace.specs.Plan.{machine_of, owner_of, DriverQuestion, question_at}
use Rattle.usb_trace.specs.Devices.{IsBare}
use Rattle.usb_trace.specs.Run.{Giveback, moved_in, resent, rest_entry, handled_by, handler_entries, given_entries, giveback_entries, episode_of, is_aside, is_first, acts, IsGiveback, IsHandled, AreHandled, rounds_at, replies_in, firsts_of, firsts_after, asked_in, asked_of}
use Rattle.usb_line.specs.Line.{Progress, with_at, given_back}
use Rattle.usb_trace.specs.Due.{asks, next_due}
use Rattle.usb_trace.proofs.Entries.{grows, legal_after}
use Rattle.usb_line.proofs.MayFollow.{once}
use Rattle.usb_trace.proofs.AskedEach.{asked_each}
use Rattle.usb_line.proofs.Givebacks.{CanGive, resubmits, IsApart, posed, put, queued_apart, giveback_follow, giveback_pass, giveback_pending, giveback_sent, giveback_posed_sent}
use Rattle.usb_line.proofs.Calm.{calm_giveback}
use Rattle.usb_line.proofs.Marked.{first_at_home}
use Rattle.usb_trace.proofs.Dues.{nothing_due, asked-push_else, asked-push_none, replies-push}
use Rattle.usb_trace.proofs.Episodes.{episodes-append, firsts-append}
use Rattle.usb_trace.proofs.Moves.{moved_same}
use Rattle.usb_line.proofs.Resending.{resent_setup}
use Rattle.usb_line.proofs.Serving.{served, IsMoving, AreFirstGiven, SentBare, Serves, whole_none}

AreFirstGiven-push : (rounds : List Giveback) (bs : List Bool) (r : Giveback) (b : Bool) → AreFirstGiven rounds bs → (0 < length r.replies → b ≡ true) → AreFirstGiven (rounds ++ r ∷ []) (bs ++ b ∷ [])
AreFirstGiven-push [] [] r b all one = (one, tt)
AreFirstGiven-push [] (c ∷ bs) r b all one = absurd all
AreFirstGiven-push (q ∷ rounds) [] r b all one = absurd all
AreFirstGiven-push (q ∷ rounds) (c ∷ bs) r b all one = (all.0, AreFirstGiven-push rounds bs r b all.1 one)

pub AreHandled-push : (s : Scene) (before rounds : List Giveback) (r : Giveback) → AreHandled s before rounds → IsHandled (acts s (before ++ rounds) r.urb r.status (moved_in s r)) r.outcome → AreHandled s before (rounds ++ r ∷ [])
AreHandled-push s before [] r all one = (subst (λ l. IsHandled (acts s l r.urb r.status (moved_in s r)) r.outcome) (append-nil before) one, tt)
AreHandled-push s before (q ∷ rounds) r all one = (all.0, AreHandled-push s (before ++ q ∷ []) rounds r all.1 (subst (λ l. IsHandled (acts s l r.urb r.status (moved_in s r)) r.outcome) (sym (append_assoc before (q ∷ []) rounds)) one))

module _ (s : Scene) (f : Progress) (r : Giveback) where
  abbrev h : List Entry
  h = f.history

  abbrev pending : List ℕ
  pending = pending_of (machine_of s) h (home s r.urb)

  -- the replies that the URB's endpoint keeps for the next
  abbrev pub left : List Reply
  left = cond (is_first r.urb pending) [] (f.so_far (home s r.urb))

  -- what a giveback needs
  pub record CanReturn : Type 0 where
    pub can : CanGive s h r
    pub sent : sent_of h r.urb ≡ Some r.sent
    pub giveback : IsGiveback s r
    pub handled : IsHandled (acts s f.rounds r.urb r.status (moved_in s r)) r.outcome
    pub first : 0 < length r.replies → is_first r.urb pending ≡ true
    pub replies : r.replies ≡ next_due s (home s r.urb) (asked_of s (home s r.urb) f.rounds) (asked_in s r)

  abbrev finish_first : Entry
  finish_first = entry SERVER (Finish record { 0 = r.urb } r.status) (Truth true) None

  abbrev give_next : Entry
  give_next = entry SERVER (Give record { 0 = r.urb }) (Status r.status) None

  -- after the Give of an URB there are only what its handler does, and its End
  handler_episodes : (m : List Entry) (o : Outcome) → episodes_after m (handled_by s r.urb (moved_in s r) (resent s r) (question_at s r.urb) o ++ plain_entry SERVER (End record { 0 = r.urb }) ∷ []) ≡ []
  handler_episodes m outcome.Rest = refl
  handler_episodes m (outcome.Again Zero) = refl
  handler_episodes m (outcome.Again (Fault e)) = refl
  handler_episodes m (outcome.Asked c) =
      asked_each s (λ xs. (m : List Entry) → episodes_after m (xs ++ plain_entry SERVER (End record { 0 = r.urb }) ∷ []) ≡ []) (question_at s r.urb) c (λ m. refl) (λ a is none. some a c) (m ++ rest_entry SERVER r.urb (moved_in s r) ∷ [])
    where
      some : (a : DriverQuestion) (c : Code) (m : List Entry) → episodes_after m (submit_entries SERVER a.urb a.transfer c ++ plain_entry SERVER (End record { 0 = r.urb }) ∷ []) ≡ []
      some a Zero m = refl
      some a (Fault e) m = refl

  giveback_ends : sent_of h r.urb ≡ Some r.sent → episodes_after h (giveback_entries s r) ≡ episode_of r ∷ []
  giveback_ends sent = go r.finished
    where
      the_episode : Option Transfer → Episode
      the_episode t = record { urb = r.urb; status = Status r.status; transfer = t }

      late : sent_of (h ++ entry SERVER (Finish record { 0 = r.urb } r.status) (Truth true) None ∷ []) r.urb ≡ sent_of h r.urb
      late = sent_of-snoc h (entry SERVER (Finish record { 0 = r.urb } r.status) (Truth true) None) r.urb

      go : (b : Bool) → episodes_after h (given_entries r.urb r.status b ++ handler_entries s r) ≡ episode_of r ∷ []
      go true = (λ i. the_episode ((late ∙ sent) i) ∷ handler_episodes ((h ++ finish_first ∷ []) ++ give_next ∷ []) r.outcome i)
      go false = (λ i. the_episode (sent i) ∷ handler_episodes (h ++ give_next ∷ []) r.outcome i)

  handler_firsts : (m : List Entry) (o : Outcome) → firsts_after (machine_of s) m (handled_by s r.urb (moved_in s r) (resent s r) (question_at s r.urb) o ++ plain_entry SERVER (End record { 0 = r.urb }) ∷ []) ≡ []
  handler_firsts m outcome.Rest = refl
  handler_firsts m (outcome.Again Zero) = refl
  handler_firsts m (outcome.Again (Fault e)) = refl
  handler_firsts m (outcome.Asked c) =
      asked_each s (λ xs. (m : List Entry) → firsts_after (machine_of s) m (xs ++ plain_entry SERVER (End record { 0 = r.urb }) ∷ []) ≡ []) (question_at s r.urb) c (λ m. refl) (λ a is none. some a c) (m ++ rest_entry SERVER r.urb (moved_in s r) ∷ [])
    where
      some : (a : DriverQuestion) (c : Code) (m : List Entry) → firsts_after (machine_of s) m (submit_entries SERVER a.urb a.transfer c ++ plain_entry SERVER (End record { 0 = r.urb }) ∷ []) ≡ []
      some a Zero m = refl
      some a (Fault e) m = refl

  giveback_firsts : firsts_after (machine_of s) h (giveback_entries s r) ≡ is_first r.urb pending ∷ []
  giveback_firsts = go r.finished
    where
      late : pending_of (machine_of s) (h ++ entry SERVER (Finish record { 0 = r.urb } r.status) (Truth true) None ∷ []) (home s r.urb) ≡ pending
      late = pending_of-snoc h (entry SERVER (Finish record { 0 = r.urb } r.status) (Truth true) None) (machine_of s) (home s r.urb)

      go : (b : Bool) → firsts_after (machine_of s) h (given_entries r.urb r.status b ++ handler_entries s r) ≡ is_first r.urb pending ∷ []
      go true = (λ i. is_first r.urb (late i) ∷ handler_firsts ((h ++ finish_first ∷ []) ++ give_next ∷ []) r.outcome i)
      go false = (λ i. is_first r.urb pending ∷ handler_firsts (h ++ give_next ∷ []) r.outcome i)

  handler_served : (o : Outcome) → let xs = handled_by s r.urb (moved_in s r) (resent s r) (question_at s r.urb) o ++ plain_entry SERVER (End record { 0 = r.urb }) ∷ [] in served xs ≡ xs
  handler_served outcome.Rest = refl
  handler_served (outcome.Again Zero) = refl
  handler_served (outcome.Again (Fault e)) = refl
  handler_served (outcome.Asked c) = ap (λ xs. rest_entry SERVER r.urb (moved_in s r) ∷ xs)
      (asked_each s (λ xs. served (xs ++ plain_entry SERVER (End record { 0 = r.urb }) ∷ []) ≡ xs ++ plain_entry SERVER (End record { 0 = r.urb }) ∷ []) (question_at s r.urb) c refl (λ a is none. some a c))
    where
      some : (a : DriverQuestion) (c : Code) → let xs = submit_entries SERVER a.urb a.transfer c ++ plain_entry SERVER (End record { 0 = r.urb }) ∷ [] in served xs ≡ xs
      some a Zero = refl
      some a (Fault e) = refl

  giveback_served : served (giveback_entries s r) ≡ giveback_entries s r
  giveback_served = go r.finished
    where
      go : (b : Bool) → served (given_entries r.urb r.status b ++ handler_entries s r) ≡ given_entries r.urb r.status b ++ handler_entries s r
      go true = ap (λ xs. given_entries r.urb r.status true ++ xs) (handler_served r.outcome)
      go false = ap (λ xs. given_entries r.urb r.status false ++ xs) (handler_served r.outcome)

  -- what the endpoints keep
  pub left_at : (e : ℕ) → home s r.urb ≡ e → (given_back s f r).so_far e ≡ left
  left_at e is = go (is_first r.urb pending)
    where
      go : (b : Bool) → cond b (with_at (home s r.urb) [] f.so_far) f.so_far e ≡ cond b [] (f.so_far (home s r.urb))
      go true = ap (λ b. cond b [] (f.so_far e)) (eq-eqb e (home s r.urb) (sym is))
      go false = ap f.so_far (sym is)

  pub left_else : (e : ℕ) → home s r.urb ≢ e → (given_back s f r).so_far e ≡ f.so_far e
  left_else e off = go (is_first r.urb pending)
    where
      go : (b : Bool) → cond b (with_at (home s r.urb) [] f.so_far) f.so_far e ≡ f.so_far e
      go true = ap (λ b. cond b [] (f.so_far e)) (ne_eqb e (home s r.urb) (λ i. off (sym i)))
      go false = refl

  abbrev pub g : Progress
  g = given_back s f r

  pub still_sent : (v : ℕ) → v ≢ r.urb → IsApart v (posed s r) → sent_of g.history v ≡ sent_of h v
  still_sent v off apart = giveback_sent s h r v apart ∙ ap (λ b. cond (b && resubmits r.outcome) (Some (resent s r)) (sent_of h v)) (ne_eqb r.urb v (λ i. off (sym i)))

  -- what is first pending at an endpoint is no question that is asked
  pub first_apart : CanGive s h r → IsLegal (machine_of s) h → (e u : ℕ) (others : List ℕ) → pending_of (machine_of s) h e ≡ u ∷ others → IsApart u (posed s r)
  first_apart can legal e u others first = queued_apart s h r can.asks can.gated u
      (pending_is_queued (machine_of s) h u legal (subst (λ d. 0 < times u (pending_of (machine_of s) h d)) (first_at_home (machine_of s) h e u others legal first)
      (subst (λ us. 0 < times u us) (sym first) (once u (u ∷ others) others refl))))

  module _ (ready : CanReturn) (old : Serves s f) where
    back_replies : (e : ℕ) → replies_in (rounds_at s e g.rounds) ≡ next_due s e [] (asked_of s e g.rounds)
    back_replies = replies-push s f.rounds r old.replies ready.replies

    abbrev after_pending : ℕ → List ℕ
    after_pending e = pending_of (machine_of s) g.history e

    none_moving : g.so_far (home s r.urb) ≡ [] → IsMoving s g (home s r.urb)
    none_moving none = record {
      none = λ p. none;
      whole = λ u others t p q. whole_none (shape_at s (home s r.urb)) t (g.so_far (home s r.urb)) none;
      due = λ u others t p q. nothing_due s (home s r.urb) (asked_of s (home s r.urb) g.rounds) t (g.so_far (home s r.urb)) none;
    }

    -- an URB that is not first has had no replies
    no_replies : is_first r.urb pending ≡ false → r.replies ≡ []
    no_replies off = go r.replies refl
      where
        go : (l : List Reply) → r.replies ≡ l → l ≡ []
        go [] is = refl
        go (x ∷ l) is = absurd (true≢false (sym (ready.first (subst (λ (l : List Reply). 0 < length l) (sym is) (omega arith))) ∙ off))

    -- at the URB's endpoint either the replies are spent, or another URB is first
    moving_here : (us : List ℕ) → pending ≡ us → after_pending (home s r.urb) ≡ without r.urb us → IsMoving s g (home s r.urb)
    moving_here [] is now = none_moving (left_at (home s r.urb) refl ∙ (ap (λ us. cond (is_first r.urb us) [] (f.so_far (home s r.urb))) is ∙ (old.moving (home s r.urb)).none is))
    moving_here (v ∷ us) is now = dite (ℕ_discrete v r.urb)
        (λ same. none_moving (left_at (home s r.urb) refl ∙ (ap (λ us. cond (is_first r.urb us) [] (f.so_far (home s r.urb))) is ∙ ap (λ b. cond b [] (f.so_far (home s r.urb))) (eq-eqb v r.urb same))))
        (λ off.
        let keep = left_at (home s r.urb) refl ∙ (ap (λ us. cond (is_first r.urb us) [] (f.so_far (home s r.urb))) is ∙ ap (λ b. cond b [] (f.so_far (home s r.urb))) (ne_eqb v r.urb off)) in
        let first : after_pending (home s r.urb) ≡ v ∷ without r.urb us = now ∙ ap (λ b. cond (not b) (v ∷ without r.urb us) (without r.urb us)) (ne_eqb v r.urb off) in
        record {
          none = λ p. (let x = sym first ∙ p in cc);
          whole = λ u others t p q. (let x = sym p ∙ first in let urb : u ≡ v = cc in
              subst (λ l. IsWhole (shape_at s (home s r.urb)) t l) (sym keep) ((old.moving (home s r.urb)).whole v us t is (sym (still_sent v off (first_apart ready.can old.legal (home s r.urb) v us is)) ∙ (ap (sent_of g.history) (sym urb) ∙ q))));
          due = λ u others t p q. (let x = sym p ∙ first in let urb : u ≡ v = cc in
              let rounds = asked-push_none s f.rounds r (home s r.urb) (no_replies (ap (is_first r.urb) is ∙ ne_eqb v r.urb off)) in
              keep ∙ ((old.moving (home s r.urb)).due v us t is (sym (still_sent v off (first_apart ready.can old.legal (home s r.urb) v us is)) ∙ (ap (sent_of g.history) (sym urb) ∙ q))
              ∙ (λ i. next_due s (home s r.urb) (sym rounds i) (asks s (home s r.urb) t (length (sym keep i))))));
        })

    back_moving : (e : ℕ) → IsMoving s g e
    back_moving e = dite (ℕ_discrete (home s r.urb) e)
        (λ is. subst (IsMoving s g) is (moving_here pending refl
        (giveback_pending s h r (home s r.urb) ∙ ap (λ b. cond b (without r.urb pending) pending) (eq-eqb (home s r.urb) (home s r.urb) refl))))
        (λ off.
        let same : after_pending e ≡ pending_of (machine_of s) h e = giveback_pending s h r e ∙ ap (λ b. cond b (without r.urb (pending_of (machine_of s) h e)) (pending_of (machine_of s) h e)) (ne_eqb (home s r.urb) e off) in
        record {
          none = λ p. left_else e off ∙ (old.moving e).none (sym same ∙ p);
          whole = λ u others t p q.
              (let first = sym same ∙ p in
              let apart : u ≢ r.urb = λ i. off (ap (home s) (sym i) ∙ sym (first_at_home (machine_of s) h e u others old.legal first)) in
              subst (λ l. IsWhole (shape_at s e) t l) (sym (left_else e off)) ((old.moving e).whole u others t first (sym (still_sent u apart (first_apart ready.can old.legal e u others first)) ∙ q)));
          due = λ u others t p q.
              (let first = sym same ∙ p in
              let apart : u ≢ r.urb = λ i. off (ap (home s) (sym i) ∙ sym (first_at_home (machine_of s) h e u others old.legal first)) in
              left_else e off ∙ ((old.moving e).due u others t first (sym (still_sent u apart (first_apart ready.can old.legal e u others first)) ∙ q)
              ∙ (λ i. next_due s e (sym (asked-push_else s f.rounds r e off) i) (asks s e t (length (sym (left_else e off) i))))));
        })

    -- what is sent again has the setup packet of what was sent
    back_bare : (v : ℕ) → SentBare s v (sent_of g.history v)
    back_bare v = by_posed (posed s r) refl
      where
        again : IsBare (owner_of s r.urb) (resent s r).setup
        again = subst (IsBare (owner_of s r.urb)) (sym (resent_setup (owner_of s r.urb) r.status (moved_in s r) ∙ (moved_same (shape_at s (home s r.urb)) r.sent r.replies).setup))
            (subst (SentBare s r.urb) ready.sent (old.bare r.urb))

        go : (w : Bool) → eqb r.urb v ≡ w → (b : Bool) → SentBare s v (cond (w && b) (Some (resent s r)) (sent_of h v))
        go true is true = subst (λ (u : ℕ). IsBare (owner_of s u) (resent s r).setup) (eqb-true r.urb v is) again
        go true is false = old.bare v
        go false is b = old.bare v

        apart : IsApart v (posed s r) → SentBare s v (sent_of g.history v)
        apart off = subst (SentBare s v) (sym (giveback_sent s h r v off)) (go (eqb r.urb v) refl (resubmits r.outcome))

        by_posed : (o : Option DriverQuestion) → posed s r ≡ o → SentBare s v (sent_of g.history v)
        by_posed None is = apart (subst (IsApart v) (sym is) tt)
        by_posed (Some a) is = dite (ℕ_discrete v a.urb)
            (λ same.
            let p = put s h r ready.can.asks ready.can.gated a is in
            subst (λ v. SentBare s v (sent_of g.history v)) (sym same) (subst (SentBare s a.urb) (sym (giveback_posed_sent s h r a p.is p.did p.takes p.pose.apart)) p.pose.bare))
            (λ off. apart (subst (IsApart v) (sym is) off))

    pub back_serves : Serves s g
    back_serves = record {
      legal = legal_after (machine_of s) h (giveback_entries s r) old.legal (giveback_follow s h r ready.can);
      calm = calm_giveback s h r ready.can.asks old.calm;
      server = ap served (grows SERVER h (giveback_entries s r) (giveback_pass s h r))
          ∙ (filter-append (λ x. not (is_aside x.event x.answer)) (part_of h SERVER) (giveback_entries s r)
          ∙ ((λ i. old.server i ++ giveback_served i)
          ∙ (ap (λ l. flat_map (giveback_entries s) f.rounds ++ l) (sym (append-nil (giveback_entries s r))) ∙ sym (flat_map-append (giveback_entries s) f.rounds (r ∷ [])))));
      gives = episodes-append [] h (giveback_entries s r) ∙ ((λ i. old.gives i ++ giveback_ends ready.sent i) ∙ sym (map-append episode_of f.rounds (r ∷ [])));
      firsts = subst (AreFirstGiven g.rounds) (sym (firsts-append (machine_of s) [] h (giveback_entries s r) ∙ ap (λ l. firsts_of (machine_of s) h ++ l) giveback_firsts))
          (AreFirstGiven-push f.rounds (firsts_of (machine_of s) h) r (is_first r.urb pending) old.firsts ready.first);
      replies = back_replies;
      moving = back_moving;
      moves = All-push (IsGiveback s) f.rounds r old.moves ready.giveback;
      handled = AreHandled-push s [] f.rounds r old.handled ready.handled;
      bare = back_bare;
    }
