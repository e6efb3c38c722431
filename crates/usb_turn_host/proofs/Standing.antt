-- A stock after one entry more.
use Rattle.std.proofs.Common.{◌≡◌, ℕ, ◌+◌, ◌%◌, ◌^◌, ◌<◌, Bool, true, false, cond, List, [], ◌∷◌, ◌++◌, length, Option, Some, sym, refl, ap, ◌∙◌, subst, length-append}
use Rattle.usb_turn.proofs.Turning.{mod_more}
use Rattle.usb_machine.specs.declared.transfer.Transfer.{Transfer}
use Rattle.usb_machine.specs.declared.event.Event.{Event}
use Rattle.usb_machine.specs.declared.event.Event.TheVariants.{Submit, Link, Take, Mark, Finish, Give, Rest, End, Reject, Withdraw, Quiet, Claim, Flag, Unflag}
use Rattle.usb_machine.specs.declared.event.Answer.{Answer}
use Rattle.usb_machine.specs.declared.entry.Entry.{Entry}
use Rattle.usb_machine.specs.declared.state.UrbState.{UrbState}
use Rattle.usb_machine.specs.declared.plain.Plain.{Plain}
use Rattle.usb_machine.specs.State.{after, unlinks, finishes}
use Rattle.usb_machine.specs.History.{Machine, home_of, is_of, state_of, pending_of, pending_after, sent_of, sent_after}
use Rattle.usb_machine.specs.Legal.{times}
use Rattle.usb_machine.specs.Plain.{Stands, urbs_of}
use Rattle.usb_machine.proofs.Steps.{state_of-snoc, pending_of-snoc, sent_of-snoc}
use Rattle.usb_machine.specs.HostCalls.{rested_of, rested_after}
use Rattle.usb_machine.proofs.Growing.{rested_of-snoc}
use Rattle.usb_turn_host.specs.declared.stock.Stock.{Stock}
use Rattle.usb_turn_host.specs.declared.stock.Made.{Made}
use Rattle.usb_turn_host.specs.Stock.{IsStock, IsStill, machine_of}

pub either_queued : (b : Bool) (s t : UrbState) → s.queued ≡ t.queued → (cond b s t).queued ≡ t.queued
either_queued true s t e = e
either_queued false s t e = refl

still_queued : (e : Event) (a : Answer) (s : UrbState) → IsStill e → (after e a s).queued ≡ s.queued
still_queued (Submit u n) a s h = absurd h
still_queued (Link u) a s h = refl
still_queued (Take e) a s h = absurd h
still_queued (Mark u w) a s h = either_queued (unlinks a) _ s refl
still_queued (Finish u c) a s h = either_queued (finishes a) _ s refl
still_queued (Give u) a s h = absurd h
still_queued (Rest u n) a s h = absurd h
still_queued (End u) a s h = refl
still_queued (Reject u) a s h = refl
still_queued (Withdraw u) a s h = refl
still_queued (Quiet u) a s h = refl
still_queued (Claim u) a s h = absurd h
still_queued (Flag u f) a s h = refl
still_queued (Unflag u f) a s h = refl

still_pending : (g : Machine) (d : ℕ) (us : List ℕ) (e : Event) (a : Answer) → IsStill e → pending_after g d us e a ≡ us
still_pending g d us (Submit u n) a h = absurd h
still_pending g d us (Take e) a h = absurd h
still_pending g d us (Give u) a h = absurd h
still_pending g d us _ a h = refl

still_sent : (u : ℕ) (t : Option Transfer) (e : Event) (a : Answer) (c : Option Transfer) → IsStill e → sent_after u t e a c ≡ t
still_sent u t (Submit v n) a c h = absurd h
still_sent u t _ a c h = refl

still_rested : (u : ℕ) (t : Option Transfer) (e : Event) (c : Option Transfer) → IsStill e → rested_after u t e c ≡ t
still_rested u t (Rest v n) c h = absurd h
still_rested u t (Claim v) c h = absurd h
still_rested u t _ c h = refl

module _ (old : Stock) (h : List Entry) (x : Entry) (plain : Plain) (made : Option Made) where
  abbrev next : Stock
  next = record { plain = plain; flight = old.flight; resting = old.resting; rows = (old.rows + 1) % 2 ^ 64; setup = old.setup; made = made }

  -- the count goes on
  pub counted : old.rows ≡ length h % 2 ^ 64 → (old.rows + 1) % 2 ^ 64 ≡ length (h ++ x ∷ []) % 2 ^ 64
  counted e = ap (λ n. (n + 1) % 2 ^ 64) e ∙ (mod_more (length h) (2 ^ 64) ∙ ap (λ n. n % 2 ^ 64) (sym (length-append h (x ∷ []))))

  -- an event that moves no transfer
  pub still : IsStill x.event → IsStock old h → urbs_of plain ≡ urbs_of old.plain → Stands plain (machine_of old.setup) (h ++ x ∷ []) → IsStock next (h ++ x ∷ [])
  still is s urbs stands =
      let g : Machine = machine_of old.setup in
      record {
        plain = stands;
        count = counted s.count;
        flights = λ u lt queued none.
            let was : (state_of h u).queued ≡ true = sym (either_queued (is_of u x.event) (after x.event x.answer (state_of h u)) (state_of h u) (still_queued x.event x.answer (state_of h u) is)) ∙ (sym (ap (λ (z : UrbState). z.queued) (state_of-snoc h x u)) ∙ queued) in
            let pending_is : pending_of g (h ++ x ∷ []) (home_of g u) ≡ pending_of g h (home_of g u) = pending_of-snoc h x g (home_of g u) ∙ still_pending g (home_of g u) (pending_of g h (home_of g u)) x.event x.answer is in
            let sent : sent_of (h ++ x ∷ []) u ≡ sent_of h u = sent_of-snoc h x u ∙ still_sent u (sent_of h u) x.event x.answer x.carried is in
            s.flights u (subst (λ n. u < n) urbs lt) was (sym (ap (times u) pending_is) ∙ none) ∙ ap Some (sym sent);
        rests = λ u lt. s.rests u (subst (λ n. u < n) urbs lt) ∙ ap Some (sym (rested_of-snoc h x u ∙ still_rested u (rested_of h u) x.event x.carried is));
        sizes = (s.sizes.0 ∙ sym urbs, s.sizes.1 ∙ sym urbs);
      }
