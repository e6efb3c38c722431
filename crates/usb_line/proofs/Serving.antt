-- What holds of a run's history, givebacks and replies wherever no block of entries is in the midst, and that takes keep it.
use Rattle.std.proofs.Common.{ℕ, zero, suc, ◌≡◌, ◌<◌, Bool, true, false, not, cond, eqb, Option, Some, None, List, [], ◌∷◌, ◌++◌, length, map, filter, refl, sym, ap, ◌∙◌, subst, arith, append-nil, length-append, eq-eqb, ne_eqb, ◌+◌}
use Rattle.std.specs.List.{flat_map, All}
use Rattle.std.proofs.lemmas.List.{length-replicate, replicate-append-replicate}
use Rattle.std.proofs.lemmas.List.Elements.{filter-append}
use mathlib.Core.Logic.{dite}
use native.Mathlib.Decide.{ℕ_discrete, dec_lt}
use Rattle.usb_types.specs.declared.errno.Code.{Code}
use Rattle.usb_types.specs.declared.errno.Code.TheVariants.{Zero, Fault}
use Rattle.usb_machine.specs.declared.entry.TheConstants.{SERVER}
use Rattle.usb_machine.specs.declared.event.Event.{Event}
use Rattle.usb_machine.specs.declared.event.Event.TheVariants.{Submit}
use Rattle.usb_machine.specs.declared.transfer.Transfer.{Transfer}
use Rattle.usb_machine.specs.declared.entry.Entry.{Entry}
use Rattle.usb_machine.specs.declared.layout.Shape.{Shape}
use Rattle.usb_machine.specs.History.{episodes_of, line_of, pending_of, sent_of}
use Rattle.usb_machine.specs.Parts.{part_of}
use Rattle.usb_machine.specs.Legal.{IsLegal}
use Rattle.usb_machine.specs.Calls.{submit_entries}
use Rattle.usb_xfer.specs.Replies.{Reply, Question}
use Rattle.usb_xfer.specs.Moved.{IsWhole, question_of}
use Rattle.usb_scene.specs.declared.scene.Scene.{Scene}
use Rattle.usb_prepare.specs.Ends.{ends_of, shape_at}
use Rattle.usb_trace.specs.Plan.{machine_of, owner_of}
use Rattle.usb_trace.specs.Run.{Giveback, giveback_entries, episode_of, is_aside, IsGiveback, AreHandled, rounds_at, replies_in, firsts_of, asked_of}
use Rattle.usb_trace.specs.Devices.{IsBare}
use Rattle.usb_line.specs.Line.{Progress, takes, takes_below, with_takes, had_after, waits, asked_so_far}
use Rattle.usb_trace.specs.Due.{asks, next_due}
use Rattle.usb_trace.proofs.Entries.{grows, legal_after}
use Rattle.usb_line.proofs.Takes.{below_pass, below_follow, below_sent, pending_above, pending_below}
use Rattle.usb_trace.proofs.Stills.{IsStill, AreStill}
use Rattle.usb_line.proofs.Calm.{IsCalm, calm_takes}
use Rattle.usb_trace.proofs.Dues.{due-append, nothing_due, length-due}
use Rattle.usb_trace.proofs.Episodes.{HaveNoGive, no_episode, no_first_given}

-- the entries of the server that belong to its givebacks
abbrev pub served : List Entry → List Entry
served m = filter (λ x. not (is_aside x.event x.answer)) m

-- the replies that the endpoint gave since its last giveback move the transfer that is first pending
pub record IsMoving (s : Scene) (f : Progress) (e : ℕ) : Type 0 where
  pub none : pending_of (machine_of s) f.history e ≡ [] → f.so_far e ≡ []
  pub whole : (u : ℕ) (others : List ℕ) (t : Transfer) → pending_of (machine_of s) f.history e ≡ u ∷ others → sent_of f.history u ≡ Some t
      → IsWhole (shape_at s e) t (f.so_far e)
  pub due : (u : ℕ) (others : List ℕ) (t : Transfer) → pending_of (machine_of s) f.history e ≡ u ∷ others → sent_of f.history u ≡ Some t
      → f.so_far e ≡ next_due s e (asked_of s e f.rounds) (asks s e t (length (f.so_far e)))

-- each giveback whose transfer had replies was of a first pending URB
abbrev pub AreFirstGiven : List Giveback → List Bool → Type 0
AreFirstGiven [] [] = Unit {0}
AreFirstGiven [] (b ∷ bs) = ⊥
AreFirstGiven (r ∷ rounds) [] = ⊥
AreFirstGiven (r ∷ rounds) (b ∷ bs) = (0 < length r.replies → b ≡ true) × AreFirstGiven rounds bs

-- what was sent with an URB has no setup packet, where its driver may go on with it
abbrev pub SentBare : Scene → ℕ → Option Transfer → Type 0
SentBare s u None = Unit {0}
SentBare s u (Some t) = IsBare (owner_of s u) t.setup

-- an entry submits such a transfer, or none
abbrev pub IsBareEntry : Scene → Event → Option Transfer → Type 0
IsBareEntry s (Submit u n) c = SentBare s u.0 c
IsBareEntry s _ c = Unit {0}

abbrev pub AreBare : Scene → List Entry → Type 0
AreBare s [] = Unit {0}
AreBare s (x ∷ xs) = IsBareEntry s x.event x.carried × AreBare s xs

pub AreBare-append : (s : Scene) (xs ys : List Entry) → AreBare s xs → AreBare s ys → AreBare s (xs ++ ys)
AreBare-append s [] ys a b = b
AreBare-append s (x ∷ xs) ys a b = (a.0, AreBare-append s xs ys a.1 b)

still_bare : (s : Scene) (e : Event) (c : Option Transfer) → IsStill e → IsBareEntry s e c
still_bare s (Submit u n) c is = absurd is
still_bare s _ c is = tt

pub stills_bare : (s : Scene) (xs : List Entry) → AreStill xs → AreBare s xs
stills_bare s [] is = tt
stills_bare s (x ∷ xs) is = (still_bare s x.event x.carried is.0, stills_bare s xs is.1)

pub submit_bare : (s : Scene) (p u : ℕ) (t : Transfer) (c : Code) → IsBare (owner_of s u) t.setup → AreBare s (submit_entries p u t c)
submit_bare s p u t Zero is = (is, (tt, tt))
submit_bare s p u t (Fault e) is = (is, tt)

pub record Serves (s : Scene) (f : Progress) : Type 0 where
  pub legal : IsLegal (machine_of s) f.history
  pub calm : IsCalm f.history
  pub server : served (part_of f.history SERVER) ≡ flat_map (giveback_entries s) f.rounds
  pub gives : episodes_of f.history ≡ map episode_of f.rounds
  pub firsts : AreFirstGiven f.rounds (firsts_of (machine_of s) f.history)
  pub replies : (e : ℕ) → replies_in (rounds_at s e f.rounds) ≡ next_due s e [] (asked_of s e f.rounds)
  pub moving : (e : ℕ) → IsMoving s f e
  pub moves : All (IsGiveback s) f.rounds
  pub handled : AreHandled s [] f.rounds
  pub bare : (u : ℕ) → SentBare s u (sent_of f.history u)

pub no_middle : {X : Type 0} (before : List X) (x : X) (after : List X) → [] ≡ before ++ x ∷ after → ⊥
no_middle [] x after e = cc
no_middle (y ∷ before) x after e = cc

pub whole_none : (shape : Shape) (t : Transfer) (l : List Reply) → l ≡ [] → IsWhole shape t l
whole_none shape t l none = λ before r after e stop. absurd (no_middle before r after (sym none ∙ e))

takes_aside : (e : ℕ) (us : List ℕ) → served (takes e us) ≡ []
takes_aside e [] = refl
takes_aside e (u ∷ us) = takes_aside e us

below_aside : (s : Scene) (h : List Entry) (n : ℕ) → served (takes_below s h n) ≡ []
below_aside s h zero = refl
below_aside s h (suc e) = filter-append (λ x. not (is_aside x.event x.answer)) (takes_below s h e) (takes e (line_of (machine_of s) h e))
    ∙ (λ i. below_aside s h e i ++ takes_aside e (line_of (machine_of s) h e) i)

HaveNoGive-append : (xs ys : List Entry) → HaveNoGive xs → HaveNoGive ys → HaveNoGive (xs ++ ys)
HaveNoGive-append [] ys a b = b
HaveNoGive-append (x ∷ xs) ys a b = (a.0, HaveNoGive-append xs ys a.1 b)

takes_no_give : (e : ℕ) (us : List ℕ) → HaveNoGive (takes e us)
takes_no_give e [] = tt
takes_no_give e (u ∷ us) = (tt, takes_no_give e us)

below_no_give : (s : Scene) (h : List Entry) (n : ℕ) → HaveNoGive (takes_below s h n)
below_no_give s h zero = tt
below_no_give s h (suc e) = HaveNoGive-append (takes_below s h e) (takes e (line_of (machine_of s) h e)) (below_no_give s h e) (takes_no_give e (line_of (machine_of s) h e))

-- entries of the server that are aside
pub server_aside : (h xs : List Entry) → served xs ≡ [] → part_of (h ++ xs) SERVER ≡ part_of h SERVER ++ xs → served (part_of (h ++ xs) SERVER) ≡ served (part_of h SERVER)
server_aside h xs none part = ap served part ∙ (filter-append (λ x. not (is_aside x.event x.answer)) (part_of h SERVER) xs
    ∙ (ap (λ l. served (part_of h SERVER) ++ l) none ∙ append-nil (served (part_of h SERVER))))

-- a longer pending list moves the same transfer
longer_pending : (s : Scene) (f g : Progress) (e : ℕ) (more : List ℕ) → IsMoving s f e → pending_of (machine_of s) g.history e ≡ pending_of (machine_of s) f.history e ++ more
    → ((u : ℕ) → sent_of g.history u ≡ sent_of f.history u) → g.so_far e ≡ f.so_far e → g.rounds ≡ f.rounds → IsMoving s g e
longer_pending s f g e more old longer sent same rounds = go (pending_of (machine_of s) f.history e) refl
  where
    go : (us : List ℕ) → pending_of (machine_of s) f.history e ≡ us → IsMoving s g e
    go [] is = let none = same ∙ old.none is in record {
      none = λ p. none;
      whole = λ u others t p q. whole_none (shape_at s e) t (g.so_far e) none;
      due = λ u others t p q. nothing_due s e (asked_of s e g.rounds) t (g.so_far e) none;
    }
    go (v ∷ us) is = let first : pending_of (machine_of s) g.history e ≡ v ∷ (us ++ more) = longer ∙ ap (λ l. l ++ more) is in record {
      none = λ p. (let x = sym first ∙ p in cc);
      whole = λ u others t p q. (let x = sym p ∙ first in let urb : u ≡ v = cc in
          subst (λ l. IsWhole (shape_at s e) t l) (sym same) (old.whole v us t is (sym (sent v) ∙ (ap (sent_of g.history) (sym urb) ∙ q))));
      due = λ u others t p q. (let x = sym p ∙ first in let urb : u ≡ v = cc in
          same ∙ (old.due v us t is (sym (sent v) ∙ (ap (sent_of g.history) (sym urb) ∙ q)) ∙ (λ i. next_due s e (asked_of s e (sym rounds i)) (asks s e t (length (sym same i))))));
    }

module _ (s : Scene) (f : Progress) (old : Serves s f) where
  abbrev xs : List Entry
  xs = takes_below s f.history (ends_of s)

  takes_moving : (e : ℕ) → IsMoving s (with_takes s f) e
  takes_moving e = dite (dec_lt e (ends_of s))
      (λ l. longer_pending s f (with_takes s f) e (line_of (machine_of s) f.history e) (old.moving e) (pending_below s f.history (ends_of s) e l) (below_sent s f.history (ends_of s)) refl refl)
      (λ off. longer_pending s f (with_takes s f) e [] (old.moving e) (pending_above s f.history (ends_of s) e (omega arith) ∙ sym (append-nil (pending_of (machine_of s) f.history e))) (below_sent s f.history (ends_of s)) refl refl)

  pub takes_serve : Serves s (with_takes s f)
  takes_serve = record {
    legal = legal_after (machine_of s) f.history xs old.legal (below_follow s f.history (ends_of s));
    calm = calm_takes s f.history (ends_of s) old.calm;
    server = server_aside f.history xs (below_aside s f.history (ends_of s)) (grows SERVER f.history xs (below_pass s f.history (ends_of s))) ∙ old.server;
    gives = no_episode f.history xs (below_no_give s f.history (ends_of s)) ∙ old.gives;
    firsts = subst (AreFirstGiven f.rounds) (sym (no_first_given (machine_of s) f.history xs (below_no_give s f.history (ends_of s)))) old.firsts;
    replies = old.replies;
    moving = takes_moving;
    moves = old.moves;
    handled = old.handled;
    bare = λ u. subst (SentBare s u) (sym (below_sent s f.history (ends_of s) u)) (old.bare u);
  }

  module _ (e u : ℕ) (others : List ℕ) (t : Transfer) (n : ℕ) (first : pending_of (machine_of s) f.history e ≡ u ∷ others) (sent : sent_of f.history u ≡ Some t)
      (whole : IsWhole (shape_at s e) t (had_after s f e t n)) where
    at_end : (d : ℕ) (w : Bool) → eqb d e ≡ w → cond w (had_after s f e t n) (f.so_far d) ≡ (waits s f e t n).so_far d
    at_end d w is = ap (λ b. cond b (had_after s f e t n) (f.so_far d)) (sym is)

    -- the replies so far with the next n are those due
    pub longer_replies : had_after s f e t n ≡ next_due s e (asked_of s e f.rounds) (asks s e t (length (had_after s f e t n)))
    longer_replies =
        let before : List Question = asked_of s e f.rounds in let m = length (f.so_far e) in
        let more : List Reply = next_due s e (asked_so_far s f e t) (asks s e t n) in
        let long : m + n ≡ length (had_after s f e t n) = sym (length-append (f.so_far e) more ∙ ap (λ k. m + k) (length-due s e (asked_so_far s f e t) (asks s e t n) ∙ length-replicate n (question_of (shape_at s e) t))) in
        ap (λ l. l ++ more) ((old.moving e).due u others t first sent) ∙ (sym (due-append s e before (asks s e t m) (asks s e t n))
        ∙ ap (next_due s e before) (replicate-append-replicate m n (question_of (shape_at s e) t) ∙ ap (asks s e t) long))

    waits_moving : (d : ℕ) → IsMoving s (waits s f e t n) d
    waits_moving d = dite (ℕ_discrete d e)
        (λ is. subst (λ d. IsMoving s (waits s f e t n) d) (sym is) record {
          none = λ p. (let x = sym first ∙ p in cc);
          whole = λ v rest r p q. (let x = sym first ∙ p in let urb : u ≡ v = cc in let y = sym sent ∙ (ap (sent_of f.history) urb ∙ q) in let same : t ≡ r = cc in
              subst (λ l. IsWhole (shape_at s e) r l) (at_end e true (eq-eqb e e refl)) (subst (λ r. IsWhole (shape_at s e) r (had_after s f e t n)) same whole));
          due = λ v rest r p q. (let x = sym first ∙ p in let urb : u ≡ v = cc in let y = sym sent ∙ (ap (sent_of f.history) urb ∙ q) in let same : t ≡ r = cc in
              let now = at_end e true (eq-eqb e e refl) in
              sym now ∙ (longer_replies ∙ (λ i. next_due s e (asked_of s e f.rounds) (asks s e (same i) (length (now i))))));
        })
        (λ off. let keep = at_end d false (ne_eqb d e off) in record {
          none = λ p. sym keep ∙ (old.moving d).none p;
          whole = λ v rest r p q. subst (λ l. IsWhole (shape_at s d) r l) keep ((old.moving d).whole v rest r p q);
          due = λ v rest r p q. sym keep ∙ ((old.moving d).due v rest r p q ∙ ap (λ (l : List Reply). next_due s d (asked_of s d f.rounds) (asks s d r (length l))) keep);
        })

    pub waits_serve : Serves s (waits s f e t n)
    waits_serve = record {
      legal = old.legal;
      calm = old.calm;
      server = old.server;
      gives = old.gives;
      firsts = old.firsts;
      replies = old.replies;
      moving = waits_moving;
      moves = old.moves;
      handled = old.handled;
      bare = old.bare;
    }
