-- A stock whose URB rests a transfer, sends one, or is claimed.
use Rattle.std.proofs.Common.{◌≡◌, ◌≢◌, ℕ, ◌+◌, ◌%◌, ◌^◌, ◌<◌, Bool, true, false, cond, eqb, List, [], ◌∷◌, ◌++◌, length, Option, Some, None, sym, refl, ap, ◌∙◌, subst, slice_get, set, length-set, eqb-true, eq-eqb}
use Rattle.std.specs.Vec.{with_item}
use Rattle.circular_buffer.proofs.Places.{slice_get-set_same, slice_get-set_other}
use Rattle.usb_types.specs.declared.errno.Code.TheVariants.{Zero, Fault}
use Rattle.usb_machine.specs.declared.transfer.Transfer.{Transfer}
use Rattle.usb_machine.specs.declared.event.Event.{Event}
use Rattle.usb_machine.specs.declared.event.Event.TheVariants.{Submit, Link, Take, Mark, Finish, Give, Rest, End, Reject, Withdraw, Quiet, Claim, Flag, Unflag}
use Rattle.usb_machine.specs.declared.event.Answer.{Answer}
use Rattle.usb_machine.specs.declared.event.Answer.TheVariants.{Code as Status, Number, Nothing}
use Rattle.usb_machine.specs.declared.entry.Entry.{Entry}
use Rattle.usb_machine.specs.declared.state.UrbState.{UrbState}
use Rattle.usb_machine.specs.declared.state.Mark.TheVariants.{Clear}
use Rattle.usb_types.specs.declared.errno.Errno.{Errno}
use Rattle.usb_machine.specs.declared.plain.Plain.{Plain}
use Rattle.usb_machine.specs.State.{after, unlinks, finishes, accepted}
use Rattle.usb_machine.specs.History.{Machine, home_of, is_of, state_of, pending_of, sent_of}
use Rattle.usb_machine.specs.Legal.{times, IsLegal, empty, longer, Carries}
use Rattle.usb_machine.specs.Plain.{Stands, urbs_of}
use Rattle.usb_machine.specs.Calls.{entry}
use Rattle.usb_machine.proofs.Steps.{state_of-snoc, pending_of-snoc, sent_of-snoc}
use Rattle.usb_machine.specs.HostCalls.{rested_of, rested_after, number_of}
use Rattle.usb_machine.proofs.Growing.{rested_of-snoc}
use Rattle.usb_turn_host.specs.declared.stock.Stock.{Stock}
use Rattle.usb_turn_host.specs.declared.stock.Made.{Made}
use Rattle.usb_turn_host.specs.Stock.{IsStock, machine_of}
use Rattle.usb_turn_host.proofs.Standing.{counted, either_queued}

either_rest : (b : Bool) (s t : UrbState) → t.rest ≡ s.rest → (cond b t s).rest ≡ s.rest
either_rest true s t e = e
either_rest false s t e = refl

-- no other event changes what rests
abbrev Leaves : Event → Type 0
Leaves (Rest u n) = ⊥
Leaves (Claim u) = ⊥
Leaves _ = Unit {0}

leaves_rest : (e : Event) (a : Answer) (s : UrbState) → Leaves e → (after e a s).rest ≡ s.rest
leaves_rest (Submit u n) a s h = either_rest (accepted a) s _ refl
leaves_rest (Link u) a s h = refl
leaves_rest (Take e) a s h = refl
leaves_rest (Mark u w) a s h = either_rest (unlinks a) s _ refl
leaves_rest (Finish u c) a s h = either_rest (finishes a) s _ refl
leaves_rest (Give u) a s h = refl
leaves_rest (Rest u n) a s h = absurd h
leaves_rest (End u) a s h = refl
leaves_rest (Reject u) a s h = refl
leaves_rest (Withdraw u) a s h = refl
leaves_rest (Quiet u) a s h = refl
leaves_rest (Claim u) a s h = absurd h
leaves_rest (Flag u f) a s h = refl
leaves_rest (Unflag u f) a s h = refl

rest_put : (b : Bool) (n : ℕ) (s : UrbState) (c t : Option Transfer) → Some n ≡ number_of c → s.rest ≡ number_of t → (cond b (record s { rest = Some n }) s).rest ≡ number_of (cond b c t)
rest_put true n s c t is e = is
rest_put false n s c t is e = e

rest_taken : (b : Bool) (s : UrbState) (t : Option Transfer) → s.rest ≡ number_of t → (cond b (record s { rest = None }) s).rest ≡ number_of (cond b None t)
rest_taken true s t e = refl
rest_taken false s t e = e

carried_number : (g : Machine) (v : ℕ) (n : ℕ) (c : Option Transfer) → Carries g (Rest record { 0 = v } n) c → Some n ≡ number_of c
carried_number g v n None h = absurd h
carried_number g v n (Some t) h = ap Some (sym h.0)

step_rest : (g : Machine) (u : ℕ) (e : Event) (a : Answer) (c : Option Transfer) (s : UrbState) (t : Option Transfer) → Carries g e c → s.rest ≡ number_of t → (cond (is_of u e) (after e a s) s).rest ≡ number_of (rested_after u t e c)
step_rest g u (Rest v n) a c s t carries is = rest_put (eqb v.0 u) n s c t (carried_number g v.0 n c carries) is
step_rest g u (Claim v) a c s t carries is = rest_taken (eqb v.0 u) s t is
step_rest g u (Submit v n) a c s t carries is = either_rest (eqb v.0 u) s _ (leaves_rest (Submit v n) a s tt) ∙ is
step_rest g u (Link v) a c s t carries is = either_rest (eqb v.0 u) s _ refl ∙ is
step_rest g u (Take e) a c s t carries is = is
step_rest g u (Mark v w) a c s t carries is = either_rest (eqb v.0 u) s _ (leaves_rest (Mark v w) a s tt) ∙ is
step_rest g u (Finish v w) a c s t carries is = either_rest (eqb v.0 u) s _ (leaves_rest (Finish v w) a s tt) ∙ is
step_rest g u (Give v) a c s t carries is = either_rest (eqb v.0 u) s _ refl ∙ is
step_rest g u (End v) a c s t carries is = either_rest (eqb v.0 u) s _ refl ∙ is
step_rest g u (Reject v) a c s t carries is = either_rest (eqb v.0 u) s _ refl ∙ is
step_rest g u (Withdraw v) a c s t carries is = either_rest (eqb v.0 u) s _ refl ∙ is
step_rest g u (Quiet v) a c s t carries is = either_rest (eqb v.0 u) s _ refl ∙ is
step_rest g u (Flag v f) a c s t carries is = either_rest (eqb v.0 u) s _ refl ∙ is
step_rest g u (Unflag v f) a c s t carries is = either_rest (eqb v.0 u) s _ refl ∙ is

-- the machine's number is that of the transfer that rests
pub rests_number : (g : Machine) (u : ℕ) (h : List Entry) → IsLegal g h → (state_of h u).rest ≡ number_of (rested_of h u)
rests_number g u _ empty = refl
rests_number g u _ (longer h x legal f) =
    ap (λ (s : UrbState). s.rest) (state_of-snoc h x u)
    ∙ (step_rest g u x.event x.answer x.carried (state_of h u) (rested_of h u) f.carries (rests_number g u h legal)
    ∙ ap number_of (sym (rested_of-snoc h x u)))

differ : (a b : ℕ) → eqb a b ≡ false → b ≢ a
differ a b off e = let bad : true ≡ false = sym (eq-eqb a b (sym e)) ∙ off in absurd (cc)

-- a list of transfers after one of them was set
set_if : (xs : List (Option Transfer)) (u v : ℕ) (t t' : Option Transfer) (b : Bool) → eqb u v ≡ b → u < length xs → slice_get xs v ≡ Some t' → slice_get (set xs u t) v ≡ Some (cond b t t')
set_if xs u v t t' true is lt at = subst (λ k. slice_get (set xs u t) k ≡ Some t) (eqb-true u v is) (slice_get-set_same xs u t lt)
set_if xs u v t t' false is lt at = slice_get-set_other xs u v t (differ u v is) ∙ at

same_either : (b : Bool) (t : Option Transfer) → cond b t t ≡ t
same_either true t = refl
same_either false t = refl

-- the transfer in flight, where one was put there if b is true
sent_if : (xs : List (Option Transfer)) (u v : ℕ) (t t' : Option Transfer) (s : UrbState) (b : Bool) → eqb u v ≡ b → u < length xs → (cond b (record s { queued = true; mark = Clear }) s).queued ≡ true → (s.queued ≡ true → slice_get xs v ≡ Some t') → slice_get (set xs u t) v ≡ Some (cond b t t')
sent_if xs u v t t' s true is lt queued at = subst (λ k. slice_get (set xs u t) k ≡ Some t) (eqb-true u v is) (slice_get-set_same xs u t lt)
sent_if xs u v t t' s false is lt queued at = slice_get-set_other xs u v t (differ u v is) ∙ at queued

module _ (old : Stock) (h : List Entry) (p u : ℕ) (plain : Plain) (made : Option Made) where
  -- a Claim takes what rests
  pub claimed : IsStock old h → u < urbs_of old.plain → urbs_of plain ≡ urbs_of old.plain → Stands plain (machine_of old.setup) (h ++ entry p (Claim record { 0 = u }) (Number (number_of (rested_of h u))) None ∷ [])
      → IsStock (record { plain = plain; flight = old.flight; resting = with_item old.resting u None; rows = (old.rows + 1) % 2 ^ 64; setup = old.setup; made = made }) (h ++ entry p (Claim record { 0 = u }) (Number (number_of (rested_of h u))) None ∷ [])
  claimed s within urbs stands =
      let g : Machine = machine_of old.setup in
      let x : Entry = entry p (Claim record { 0 = u }) (Number (number_of (rested_of h u))) None in
      record {
        plain = stands;
        count = counted old h x plain made s.count;
        flights = λ v lt queued none.
            let was : (state_of h v).queued ≡ true = sym (either_queued (eqb u v) _ (state_of h v) refl) ∙ (sym (ap (λ (z : UrbState). z.queued) (state_of-snoc h x v)) ∙ queued) in
            let pending_is : pending_of g (h ++ x ∷ []) (home_of g v) ≡ pending_of g h (home_of g v) = pending_of-snoc h x g (home_of g v) in
            let sent : sent_of (h ++ x ∷ []) v ≡ sent_of h v = sent_of-snoc h x v in
            s.flights v (subst (λ n. v < n) urbs lt) was (sym (ap (times v) pending_is) ∙ none) ∙ ap Some (sym sent);
        rests = λ v lt. set_if old.resting.items u v None (rested_of h v) (eqb u v) refl (subst (λ n. u < n) (sym s.sizes.1) within) (s.rests v (subst (λ n. v < n) urbs lt)) ∙ ap Some (sym (rested_of-snoc h x v));
        sizes = (s.sizes.0 ∙ sym urbs, length-set old.resting.items u None ∙ (s.sizes.1 ∙ sym urbs));
      }

  -- a Submit that was refused keeps nothing
  pub refused : (n : ℕ) (e : Errno) (t : Transfer) → IsStock old h → urbs_of plain ≡ urbs_of old.plain → Stands plain (machine_of old.setup) (h ++ entry p (Submit record { 0 = u } n) (Status (Fault e)) (Some t) ∷ [])
      → IsStock (record { plain = plain; flight = old.flight; resting = old.resting; rows = (old.rows + 1) % 2 ^ 64; setup = old.setup; made = made }) (h ++ entry p (Submit record { 0 = u } n) (Status (Fault e)) (Some t) ∷ [])
  refused n e t s urbs stands =
      let g : Machine = machine_of old.setup in
      let x : Entry = entry p (Submit record { 0 = u } n) (Status (Fault e)) (Some t) in
      record {
        plain = stands;
        count = counted old h x plain made s.count;
        flights = λ v lt queued none.
            let was : (state_of h v).queued ≡ true = sym (either_queued (eqb u v) (state_of h v) (state_of h v) refl) ∙ (sym (ap (λ (z : UrbState). z.queued) (state_of-snoc h x v)) ∙ queued) in
            let pending_is : pending_of g (h ++ x ∷ []) (home_of g v) ≡ pending_of g h (home_of g v) = pending_of-snoc h x g (home_of g v) in
            let sent : sent_of (h ++ x ∷ []) v ≡ sent_of h v = sent_of-snoc h x v ∙ same_either (eqb u v) (sent_of h v) in
            s.flights v (subst (λ n. v < n) urbs lt) was (sym (ap (times v) pending_is) ∙ none) ∙ ap Some (sym sent);
        rests = λ v lt. s.rests v (subst (λ n. v < n) urbs lt) ∙ ap Some (sym (rested_of-snoc h x v));
        sizes = (s.sizes.0 ∙ sym urbs, s.sizes.1 ∙ sym urbs);
      }

  -- one that was accepted keeps its transfer in flight
  pub accepts : (n : ℕ) (t : Transfer) → IsStock old h → u < urbs_of old.plain → urbs_of plain ≡ urbs_of old.plain → Stands plain (machine_of old.setup) (h ++ entry p (Submit record { 0 = u } n) (Status Zero) (Some t) ∷ [])
      → IsStock (record { plain = plain; flight = with_item old.flight u (Some t); resting = old.resting; rows = (old.rows + 1) % 2 ^ 64; setup = old.setup; made = made }) (h ++ entry p (Submit record { 0 = u } n) (Status Zero) (Some t) ∷ [])
  accepts n t s within urbs stands =
      let g : Machine = machine_of old.setup in
      let x : Entry = entry p (Submit record { 0 = u } n) (Status Zero) (Some t) in
      record {
        plain = stands;
        count = counted old h x plain made s.count;
        flights = λ v lt queued none.
            let queued' : (cond (eqb u v) (record (state_of h v) { queued = true; mark = Clear }) (state_of h v)).queued ≡ true = sym (ap (λ (z : UrbState). z.queued) (state_of-snoc h x v)) ∙ queued in
            let pending_is : pending_of g (h ++ x ∷ []) (home_of g v) ≡ pending_of g h (home_of g v) = pending_of-snoc h x g (home_of g v) in
            sent_if old.flight.items u v (Some t) (sent_of h v) (state_of h v) (eqb u v) refl (subst (λ n. u < n) (sym s.sizes.0) within) queued' (λ q. s.flights v (subst (λ n. v < n) urbs lt) q (sym (ap (times v) pending_is) ∙ none)) ∙ ap Some (sym (sent_of-snoc h x v));
        rests = λ v lt. s.rests v (subst (λ n. v < n) urbs lt) ∙ ap Some (sym (rested_of-snoc h x v));
        sizes = (length-set old.flight.items u (Some t) ∙ (s.sizes.0 ∙ sym urbs), s.sizes.1 ∙ sym urbs);
      }

  -- a Rest leaves its transfer
  pub rests : (n : ℕ) (t : Transfer) → IsStock old h → u < urbs_of old.plain → urbs_of plain ≡ urbs_of old.plain → Stands plain (machine_of old.setup) (h ++ entry p (Rest record { 0 = u } n) Nothing (Some t) ∷ [])
      → IsStock (record { plain = plain; flight = old.flight; resting = with_item old.resting u (Some t); rows = (old.rows + 1) % 2 ^ 64; setup = old.setup; made = made }) (h ++ entry p (Rest record { 0 = u } n) Nothing (Some t) ∷ [])
  rests n t s within urbs stands =
      let g : Machine = machine_of old.setup in
      let x : Entry = entry p (Rest record { 0 = u } n) Nothing (Some t) in
      record {
        plain = stands;
        count = counted old h x plain made s.count;
        flights = λ v lt queued none.
            let was : (state_of h v).queued ≡ true = sym (either_queued (eqb u v) _ (state_of h v) refl) ∙ (sym (ap (λ (z : UrbState). z.queued) (state_of-snoc h x v)) ∙ queued) in
            let pending_is : pending_of g (h ++ x ∷ []) (home_of g v) ≡ pending_of g h (home_of g v) = pending_of-snoc h x g (home_of g v) in
            let sent : sent_of (h ++ x ∷ []) v ≡ sent_of h v = sent_of-snoc h x v in
            s.flights v (subst (λ n. v < n) urbs lt) was (sym (ap (times v) pending_is) ∙ none) ∙ ap Some (sym sent);
        rests = λ v lt. set_if old.resting.items u v (Some t) (rested_of h v) (eqb u v) refl (subst (λ n. u < n) (sym s.sizes.1) within) (s.rests v (subst (λ n. v < n) urbs lt)) ∙ ap Some (sym (rested_of-snoc h x v));
        sizes = (s.sizes.0 ∙ sym urbs, length-set old.resting.items u (Some t) ∙ (s.sizes.1 ∙ sym urbs));
      }
