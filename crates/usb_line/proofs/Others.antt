-- An entry of a pass that is not the server's keeps what holds of the server's part.
use Rattle.std.proofs.Common.{ℕ, ◌≡◌, ◌≢◌, Bool, true, false, cond, eqb, Option, List, [], ◌∷◌, ◌++◌, refl, sym, ap, ◌∙◌, subst, append_assoc, append-nil, eqb-true, true≢false}
use Rattle.usb_machine.specs.declared.entry.TheConstants.{SERVER}
use Rattle.usb_machine.specs.declared.event.Event.{Event}
use Rattle.usb_machine.specs.declared.event.Event.TheVariants.{Submit, Take, Finish, Give, Rest, End}
use Rattle.usb_machine.specs.declared.event.Answer.{Answer}
use Rattle.usb_machine.specs.declared.transfer.Transfer.{Transfer}
use Rattle.usb_machine.specs.declared.entry.Entry.{Entry}
use Rattle.usb_machine.specs.State.{accepted, refusal, is_zero, answer_of}
use Rattle.usb_machine.specs.History.{line_of, pending_of, pending_after, home_of, state_of, sent_of, sent_after}
use Rattle.usb_machine.specs.Legal.{longer, Follows, May, urb_of, end_of}
use Rattle.usb_machine.proofs.Steps.{pending_of-snoc, sent_of-snoc, part_other}
use Rattle.usb_machine.proofs.Marks.{accepts_open}
use Rattle.usb_machine.proofs.Rooms.{pending_is_queued}
use Rattle.usb_scene.specs.declared.scene.Scene.{Scene}
use Rattle.usb_trace.specs.Plan.{machine_of}
use Rattle.usb_line.specs.Line.{Progress, adds}
use Rattle.usb_trace.proofs.Entries.{AreOf, AllFollow}
use Rattle.usb_line.proofs.MayFollow.{once}
use Rattle.usb_line.proofs.Calm.{IsQuietEvent, calm_entry}
use Rattle.usb_line.proofs.Marked.{first_at_home}
use Rattle.usb_trace.proofs.Episodes.{IsNoGive, no_episode, no_first_given}
use Rattle.usb_line.proofs.Serving.{served, IsMoving, AreFirstGiven, SentBare, IsBareEntry, AreBare, Serves}

-- an event that is not the server's alone
abbrev pub IsOther : Event → Type 0
IsOther (Take e) = ⊥
IsOther (Finish u c) = ⊥
IsOther (Give u) = ⊥
IsOther (Rest u n) = ⊥
IsOther (End u) = ⊥
IsOther _ = Unit {0}

other_event : (s : Scene) (h : List Entry) (p : ℕ) (e : Event) → p ≢ SERVER → May (machine_of s) h p e → IsOther e
other_event s h p (Take e) off may = off may.0
other_event s h p (Finish u c) off may = off may.0
other_event s h p (Give u) off may = off may.0
other_event s h p (Rest u n) off may = off may.0
other_event s h p (End u) off may = off may.0
other_event s h p _ off may = tt

quiet_event : (e : Event) → IsOther e → IsQuietEvent e
quiet_event (Finish u c) is = is
quiet_event (Give u) is = is
quiet_event (End u) is = is
quiet_event _ is = tt

no_give : (e : Event) → IsOther e → IsNoGive e
no_give (Give u) is = is
no_give _ is = tt

same_pending : (s : Scene) (e : ℕ) (us : List ℕ) (event : Event) (a : Answer) → IsOther event → pending_after (machine_of s) e us event a ≡ us
same_pending s e us (Take d) a is = absurd is
same_pending s e us (Give u) a is = absurd is
same_pending s e us _ a is = refl

-- an URB that is queued cannot be submitted
same_sent : (h : List Entry) (v : ℕ) (us : List ℕ) (event : Event) (a : Answer) (c : Option Transfer) → a ≡ answer_of event (state_of h (urb_of event)) us → (state_of h v).queued ≡ true
    → sent_after v (sent_of h v) event a c ≡ sent_of h v
same_sent h v us (Submit u n) a c is queued = go (eqb u.0 v) refl (accepted a) refl
  where
    go : (b : Bool) → eqb u.0 v ≡ b → (k : Bool) → accepted a ≡ k → cond b (cond k c (sent_of h v)) (sent_of h v) ≡ sent_of h v
    go false here k ok = refl
    go true here false ok = refl
    go true here true ok =
        let zero : is_zero (refusal (state_of h u.0)) ≡ true = sym (ap accepted is) ∙ ok in
        let none : (state_of h v).queued ≡ false = subst (λ w. (state_of h w).queued ≡ false) (eqb-true u.0 v here) (accepts_open (state_of h u.0) zero).queued in
        absurd (true≢false (sym queued ∙ none))
same_sent h v us _ a c is queued = refl

-- what an URB was sent with stays bare
sent_bare : (s : Scene) (v : ℕ) (t : Option Transfer) (event : Event) (a : Answer) (c : Option Transfer) → IsBareEntry s event c → SentBare s v t → SentBare s v (sent_after v t event a c)
sent_bare s v t (Submit u n) a c is old = go (eqb u.0 v) refl (accepted a)
  where
    go : (b : Bool) → eqb u.0 v ≡ b → (k : Bool) → SentBare s v (cond b (cond k c t) t)
    go false off k = old
    go true here false = old
    go true here true = subst (λ (w : ℕ). SentBare s w c) (eqb-true u.0 v here) is
sent_bare s v t _ a c is old = old

module _ (s : Scene) (f : Progress) (x : Entry) (off : x.pass ≢ SERVER) (follows : Follows (machine_of s) f.history x) (bare : IsBareEntry s x.event x.carried) (old : Serves s f) where
  is : IsOther x.event
  is = other_event s f.history x.pass x.event off follows.may

  pending_stays : (e : ℕ) → pending_of (machine_of s) (f.history ++ x ∷ []) e ≡ pending_of (machine_of s) f.history e
  pending_stays e = pending_of-snoc f.history x (machine_of s) e ∙ same_pending s e (pending_of (machine_of s) f.history e) x.event x.answer is

  -- what is first pending was sent as it was
  first_stays : (e u : ℕ) (others : List ℕ) → pending_of (machine_of s) f.history e ≡ u ∷ others → sent_of (f.history ++ x ∷ []) u ≡ sent_of f.history u
  first_stays e u others first =
      let here = first_at_home (machine_of s) f.history e u others old.legal first in
      let queued = pending_is_queued (machine_of s) f.history u old.legal (once u (pending_of (machine_of s) f.history (home_of (machine_of s) u)) others (ap (pending_of (machine_of s) f.history) (sym here) ∙ first)) in
      sent_of-snoc f.history x u ∙ same_sent f.history u (line_of (machine_of s) f.history (end_of x.event)) x.event x.answer x.carried follows.answers queued

  other_moving : (e : ℕ) → IsMoving s (adds f (x ∷ [])) e
  other_moving e = record {
    none = λ p. (old.moving e).none (sym (pending_stays e) ∙ p);
    whole = λ u others t p q. (let first = sym (pending_stays e) ∙ p in (old.moving e).whole u others t first (sym (first_stays e u others first) ∙ q));
    due = λ u others t p q. (let first = sym (pending_stays e) ∙ p in (old.moving e).due u others t first (sym (first_stays e u others first) ∙ q));
  }

  pub other_serves : Serves s (adds f (x ∷ []))
  other_serves = record {
    legal = longer f.history x old.legal follows;
    calm = calm_entry f.history x (quiet_event x.event is) old.calm;
    server = ap served (part_other f.history x SERVER (λ e. off (sym e))) ∙ old.server;
    gives = no_episode f.history (x ∷ []) (no_give x.event is, tt) ∙ old.gives;
    firsts = subst (AreFirstGiven f.rounds) (sym (no_first_given (machine_of s) f.history (x ∷ []) (no_give x.event is, tt))) old.firsts;
    replies = old.replies;
    moving = other_moving;
    moves = old.moves;
    handled = old.handled;
    bare = λ v. subst (SentBare s v) (sym (sent_of-snoc f.history x v)) (sent_bare s v (sent_of f.history v) x.event x.answer x.carried bare (old.bare v));
  }

-- and so do more of them
pub others_serve : (s : Scene) (f : Progress) (q : ℕ) (xs : List Entry) → q ≢ SERVER → AreOf q xs → AllFollow (machine_of s) f.history xs → AreBare s xs → Serves s f → Serves s (adds f xs)
others_serve s f q [] off are follow bare old = subst (λ h. Serves s record f { history = h }) (sym (append-nil f.history)) old
others_serve s f q (x ∷ xs) off are follow bare old = subst (λ h. Serves s record f { history = h }) (append_assoc f.history (x ∷ []) xs)
    (others_serve s (adds f (x ∷ [])) q xs off are.1 follow.1 bare.1 (other_serves s f x (λ e. off (sym are.0 ∙ e)) follow.0 bare.0 old))
