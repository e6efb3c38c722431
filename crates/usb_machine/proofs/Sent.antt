-- A queued URB was sent with a transfer that had moved nothing and that its home takes.
use Rattle.std.proofs.Common.{◌≡◌, ℕ, Bool, true, false, cond, eqb, List, sym, refl, ap, ◌∙◌, subst, Option, Some, None, true≢false, eqb-true}
use Rattle.std.specs.Prelude.{slice_get}
use Rattle.usb_types.specs.declared.urb.UrbId.{UrbId}
use Rattle.usb_machine.specs.declared.event.Event.{Event}
use Rattle.usb_machine.specs.declared.event.Event.TheVariants.{Submit, Take, Mark, Finish, Give}
use Rattle.usb_machine.specs.declared.event.Answer.{Answer}
use Rattle.usb_machine.specs.declared.state.Mark.TheVariants.{Unlinked, Finished}
use Rattle.usb_machine.specs.declared.entry.Entry.{Entry}
use Rattle.usb_machine.specs.History.{Machine}
use Rattle.usb_machine.specs.declared.transfer.Transfer.{Transfer}
use Rattle.usb_machine.specs.declared.state.UrbState.{UrbState}
use Rattle.usb_machine.specs.State.{after, accepted, unlinks, finishes}
use Rattle.usb_machine.specs.History.{home_of, state_of, is_of, sent_of, sent_after}
use Rattle.usb_machine.specs.Shapes.{HasWindow, Accepts}
use Rattle.usb_machine.specs.Legal.{Carries, IsLegal, empty, longer}
use Rattle.usb_machine.proofs.Steps.{state_of-snoc, sent_of-snoc}

-- an URB was sent with a transfer that had moved nothing and that its home takes
pub record IsSent (g : Machine) (u : ℕ) (sent : Option Transfer) : Type 0 where
  pub transfer : Transfer
  pub is : sent ≡ Some transfer
  pub actual : transfer.actual ≡ 0
  pub window : HasWindow transfer
  pub taken : Accepts (slice_get g.layout.shapes (home_of g u)) transfer

carried : (g : Machine) (u : ℕ) (v : UrbId) (n : ℕ) (o : Option Transfer) → eqb v.0 u ≡ true → Carries g (Submit v n) o → IsSent g u o
carried g u v n None is c = absurd c
carried g u v n (Some t) is c = record { transfer = t; is = refl; window = c.1; actual = c.2; taken = subst (λ w. Accepts (slice_get g.layout.shapes (home_of g w)) t) (eqb-true v.0 u is) c.3 }

either : (b c : Bool) (s now : UrbState) → now.queued ≡ s.queued → (cond b (cond c now s) s).queued ≡ true → s.queued ≡ true
either true true s now e q = sym e ∙ q
either true false s now e q = q
either false c s now e q = q

same : (b : Bool) (s now : UrbState) → now.queued ≡ s.queued → (cond b now s).queued ≡ true → s.queued ≡ true
same true s now e q = sym e ∙ q
same false s now e q = q

module _ (g : Machine) (u : ℕ) where
  by_submit : (b z : Bool) (s now : UrbState) (o before : Option Transfer) → (b ≡ true → IsSent g u o) → (s.queued ≡ true → IsSent g u before) → (cond b (cond z now s) s).queued ≡ true → IsSent g u (cond b (cond z o before) before)
  by_submit true true s now o before c old q = c refl
  by_submit true false s now o before c old q = old q
  by_submit false z s now o before c old q = old q

  sent_step : (e : Event) (a : Answer) (o before : Option Transfer) (s : UrbState) → Carries g e o → (s.queued ≡ true → IsSent g u before) → (cond (is_of u e) (after e a s) s).queued ≡ true → IsSent g u (sent_after u before e a o)
  sent_step (Submit v n) a o before s c old q = by_submit (eqb v.0 u) (accepted a) s _ o before (λ is. carried g u v n o is c) old q
  sent_step (Give v) a o before s c old q = old (given (eqb v.0 u) q)
    where
      given : (b : Bool) → (cond b (after (Give v) a s) s).queued ≡ true → s.queued ≡ true
      given true q = absurd (true≢false (sym q))
      given false q = q
  sent_step (Mark v w) a o before s c old q = old (either (eqb v.0 u) (unlinks a) s (record s { mark = Unlinked w }) refl q)
  sent_step (Finish v w) a o before s c old q = old (either (eqb v.0 u) (finishes a) s (record s { mark = Finished w }) refl q)
  sent_step (Take e) a o before s c old q = old q
  sent_step e a o before s c old q = old (same (is_of u e) s (after e a s) refl q)

  pub queued_is_sent : (h : List Entry) → IsLegal g h → (state_of h u).queued ≡ true → IsSent g u (sent_of h u)
  queued_is_sent _ empty q = absurd (true≢false (sym q))
  queued_is_sent _ (longer h x legal f) q = subst (IsSent g u) (sym (sent_of-snoc h x u))
      (sent_step x.event x.answer x.carried (sent_of h u) (state_of h u) f.carries (queued_is_sent h legal) (sym (ap (λ (s : UrbState). s.queued) (state_of-snoc h x u)) ∙ q))
