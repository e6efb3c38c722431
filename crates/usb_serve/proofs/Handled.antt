-- What the steps of a handler add, and that they keep what a controller agrees on.
use Rattle.std.proofs.Common.{ℕ, ◌≡◌, ◌≢◌, ◌-◌, ◌<◌, Bool, true, false, cond, Option, Some, List, [], ◌∷◌, ◌++◌, refl, sym, ap, ◌∙◌, subst, eq-eqb, ne_eqb, append_assoc, inl, inr, Result}
use Rattle.std.specs.Prelude.{slice_get}
use mathlib.Core.Logic.{dite}
use native.Mathlib.Decide.{ℕ_discrete}
use Rattle.usb_types.specs.declared.urb.UrbId.{UrbId}
use Rattle.usb_types.specs.declared.urb.Action.{Action}
use Rattle.usb_types.specs.declared.errno.Code.{Code}
use Rattle.usb_types.specs.declared.errno.Code.TheVariants.{Zero, Fault}
use Rattle.usb_types.specs.declared.outside.Memory.{Memory}
use Rattle.usb_machine.specs.declared.entry.Entry.{Entry}
use Rattle.usb_machine.specs.declared.entry.TheConstants.{SERVER}
use Rattle.usb_machine.specs.declared.event.Event.{Event}
use Rattle.usb_machine.specs.declared.event.Event.TheVariants.{Submit, Link, Take, Mark, Finish, Give, Rest, End, Reject, Withdraw, Quiet, Claim, Flag, Unflag}
use Rattle.usb_machine.specs.declared.event.Answer.{Answer}
use Rattle.usb_machine.specs.declared.event.Answer.TheVariants.{Code as Status}
use Rattle.usb_machine.specs.declared.state.UrbState.{UrbState}
use Rattle.usb_machine.specs.declared.state.Mark.TheVariants.{Clear, Unlinked, Finished}
use Rattle.usb_machine.specs.declared.transfer.Transfer.{Transfer}
use Rattle.usb_machine.specs.State.{after, accepted, unlinks, finishes}
use Rattle.usb_machine.specs.History.{Machine, state_of, pending_of, is_of}
use Rattle.usb_machine.specs.Legal.{times}
use Rattle.usb_machine.specs.Calls.{entry, plain_entry, submit_entries}
use Rattle.usb_machine.proofs.Steps.{state_of-snoc}
use Rattle.usb_serve.specs.declared.plain_side.PlainSide.{PlainSide}
use Rattle.usb_serve.specs.declared.plain_side.Slots.{Slots}
use Rattle.usb_serve.specs.declared.controller.Controller.{Controller}
use Rattle.usb_serve.specs.declared.handler.Outcome.{Outcome}
use Rattle.usb_serve.specs.Held.{Agrees}
use Rattle.usb_serve.specs.Handlers.{windowed}
use Rattle.usb_serve.specs.Completing.{Acts, Completes, silent, asked, refused, accepted as took, rejected, rested, again, asking, lacking}
use Rattle.usb_serve.specs.Plain.{IsPlainAt, plain_knows, number_in}
use Rattle.usb_serve.specs.PlainHandlers.{PlainRests, PlainSubmits, PlainEnds, Queued}
use Rattle.usb_serve.specs.Growing.{HandlerAdds, rest_entry, end_entry}
use Rattle.usb_serve.specs.Growing as adds
use Rattle.usb_serve.proofs.Lookups.{set_here, set_there}
use Rattle.usb_xfer.specs.Replies.{Reply}
use Rattle.usb_serve.specs.SoFar.{IsSoFar}
use Rattle.usb_serve.proofs.Keeping.{Kept, kept_mild, kept_submit, kept_both, agrees_kept, so_kept, pending_queued}
use Rattle.usb_serve.proofs.PlainHandling.{accepts_idle}

-- an event that begins and ends no handler
abbrev pub IsStill : Event → Type 0
IsStill (Give u) = ⊥
IsStill (End u) = ⊥
IsStill event = Unit {0}

still_handlers : (event : Event) → IsStill event → (a : Answer) (b : Bool) (s : UrbState) → (cond b (after event a s) s).handlers ≡ s.handlers
still_handlers event m a false s = refl
still_handlers (Submit u n) m a true s = go (accepted a)
  where
    go : (b : Bool) → (cond b (record s { queued = true; mark = Clear }) s).handlers ≡ s.handlers
    go true = refl
    go false = refl
still_handlers (Link u) m a true s = refl
still_handlers (Take e) m a true s = refl
still_handlers (Mark u w) m a true s = go (unlinks a)
  where
    go : (b : Bool) → (cond b (record s { mark = Unlinked w }) s).handlers ≡ s.handlers
    go true = refl
    go false = refl
still_handlers (Finish u c) m a true s = go (finishes a)
  where
    go : (b : Bool) → (cond b (record s { mark = Finished c }) s).handlers ≡ s.handlers
    go true = refl
    go false = refl
still_handlers (Rest u n) m a true s = refl
still_handlers (Reject u) m a true s = refl
still_handlers (Withdraw u) m a true s = refl
still_handlers (Quiet u) m a true s = refl
still_handlers (Claim u) m a true s = refl
still_handlers (Flag u f) m a true s = refl
still_handlers (Unflag u f) m a true s = refl
still_handlers (Give u) m a true s = absurd m
still_handlers (End u) m a true s = absurd m

pub handlers_still : (h : List Entry) (x : Entry) → IsStill x.event → (v : ℕ) → (state_of (h ++ x ∷ []) v).handlers ≡ (state_of h v).handlers
handlers_still h x still v = ap (λ (s : UrbState). s.handlers) (state_of-snoc h x v) ∙ still_handlers x.event still x.answer (is_of v x.event) (state_of h v)

-- these entries were added, and what is pending, its marks, its transfers' numbers and the running handlers stay
pub record Goes (g : Machine) (h es : List Entry) (old new : PlainSide) : Type 0 where
  pub at : IsPlainAt new g (h ++ es)
  pub kept : Kept g h (h ++ es)
  pub numbers : (e v : ℕ) → 0 < times v (pending_of g h e) → number_in (slice_get new.urbs.items v) ≡ number_in (slice_get old.urbs.items v)
  pub handlers : (v : ℕ) → (state_of (h ++ es) v).handlers ≡ (state_of h v).handlers

pub goes_both : (g : Machine) (h es fs : List Entry) (a b c : PlainSide) → Goes g h es a b → Goes g (h ++ es) fs b c → Goes g h (es ++ fs) a c
goes_both g h es fs a b c p q = record {
  at = subst (IsPlainAt c g) (append_assoc h es fs) q.at;
  kept = subst (Kept g h) (append_assoc h es fs) (kept_both g h (h ++ es) ((h ++ es) ++ fs) p.kept q.kept);
  numbers = λ e v l. q.numbers e v (subst (λ us. 0 < times v us) (sym (p.kept.pending e)) l) ∙ p.numbers e v l;
  handlers = λ v. ap (λ k. (state_of k v).handlers) (sym (append_assoc h es fs)) ∙ (q.handlers v ∙ p.handlers v);
}

-- a rest
pub goes_rest : (g : Machine) (h : List Entry) (old new : PlainSide) (u : UrbId) (t : Transfer) → IsPlainAt old g h → PlainRests old u t new → Goes g h (rest_entry u t ∷ []) old new
goes_rest g h old new u t at r = record {
  at = r.entered g h at;
  kept = kept_mild g h (rest_entry u t) tt;
  numbers = λ e v l. dite (ℕ_discrete v u.0)
      (λ same. ap (λ w. number_in (slice_get new.urbs.items w)) same ∙ (ap (λ (l : List Slots). number_in (slice_get l u.0)) r.slots ∙ (ap number_in (set_here old.urbs.items u.0 (record r.row { rest = Some t }) r.row r.at) ∙ (ap number_in (sym r.at) ∙ ap (λ w. number_in (slice_get old.urbs.items w)) (sym same)))))
      (λ off. ap (λ (l : List Slots). number_in (slice_get l v)) r.slots ∙ ap number_in (set_there old.urbs.items u.0 v (record r.row { rest = Some t }) off));
  handlers = handlers_still h (rest_entry u t) tt;
}

-- a submit that the endpoint takes
pub goes_queued : (g : Machine) (h : List Entry) (old new : PlainSide) (p : ℕ) (u : UrbId) (t : Transfer) (code : Code) → IsPlainAt old g h → Queued old p u t code new → Goes g h (submit_entries p u.0 t code) old new
goes_queued g h old new p u t (Fault errno) at q = record {
  at = q.entered g h at;
  kept = kept_submit g h p u t.number (Fault errno) (Some t) at.stands.legal (q.gate g h at);
  numbers = λ e v l. ap (λ w. number_in (slice_get w.items v)) (q.refused_so errno refl);
  handlers = handlers_still h (entry p (Submit u t.number) (Status (Fault errno)) (Some t)) tt;
}
goes_queued g h old new p u t Zero at q = record {
  at = q.entered g h at;
  kept = subst (Kept g h) both (kept_both g h (h ++ x ∷ []) ((h ++ x ∷ []) ++ l ∷ []) (kept_submit g h p u t.number Zero (Some t) at.stands.legal (q.gate g h at)) (kept_mild g (h ++ x ∷ []) l tt));
  numbers = λ e v m. ap number_in (q.others v (λ is. idle e v m is));
  handlers = λ v. ap (λ k. (state_of k v).handlers) (sym both) ∙ (handlers_still (h ++ x ∷ []) l tt v ∙ handlers_still h x tt v);
}
  where
    x : Entry
    x = entry p (Submit u t.number) (Status Zero) (Some t)

    l : Entry
    l = plain_entry p (Link u)

    both : (h ++ x ∷ []) ++ l ∷ [] ≡ h ++ x ∷ l ∷ []
    both = append_assoc h (x ∷ []) (l ∷ [])

    idle : (e v : ℕ) → 0 < times v (pending_of g h e) → v ≡ u.0 → ⊥
    idle e v m is = let a : (state_of h u.0).queued ≡ false = accepts_idle (state_of h u.0) (sym (q.gate g h at)) in let b : (state_of h u.0).queued ≡ true = subst (λ w. (state_of h w).queued ≡ true) is (pending_queued g h at.stands.legal e v m) in cc

module _ {H : Type 0} (completes : H → UrbId → Code → Transfer → Result Action Memory → H → Type 0) (asks : H → Option (UrbId × Transfer) → H → Type 0) (unasks : H → Transfer → H → Type 0) (g : Machine) where
  -- what a handler adds before its end
  pub acted : (k : List Entry) (u : UrbId) (code : Code) (t : Transfer) (b c : PlainSide) (h i : H) (r : Result Outcome Memory) → IsPlainAt b g k → Acts PlainRests PlainSubmits completes asks unasks u code t b h r c i
      → (es : List Entry) × HandlerAdds u t r es × Goes g k es b c
  acted k u code t b c h i _ at (rested _ _ done rests) = (rest_entry u t ∷ [], adds.rested, goes_rest g k b c u t at rests)
  acted k u code t b c h i _ at (lacking m _ _ done rests) = (rest_entry u t ∷ [], adds.lacking m, goes_rest g k b c u t at rests)
  acted k u code t b c h i _ at (again from len _ _ _ done (took _ q)) = (_, adds.accepted from len, goes_queued g k b c SERVER u (windowed from len t) Zero at q)
  acted k u code t b c h i _ at (again from len _ _ _ done (rejected errno m _ (inl same) rests)) = (_, adds.unfit from len errno, subst (λ (z : PlainSide). Goes g k (rest_entry u (windowed from len t) ∷ []) z c) same.0 (goes_rest g k m c u (windowed from len t) (subst (λ (z : PlainSide). IsPlainAt z g k) (sym same.0) at) rests))
  acted k u code t b c h i _ at (again from len _ _ _ done (rejected errno m _ (inr q) rests)) = (
    _,
    adds.refused from len errno,
    (let f = goes_queued g k b m SERVER u (windowed from len t) (Fault errno) at q in goes_both g k _ _ b m c f (goes_rest g _ m c u (windowed from len t) f.at rests)),
  )
  acted k u code t b c h i _ at (asking _ _ m _ _ done rests (silent _ a)) = (_, adds.rested, goes_rest g k b c u t at rests)
  acted k u code t b c h i _ at (asking _ _ m _ _ done rests (asked v q _ _ a s)) = (_, adds.asked v q, (let f = goes_rest g k b m u t at rests in goes_both g k _ _ b m c f (goes_queued g _ m c SERVER v q Zero f.at s)))
  acted k u code t b c h i _ at (asking _ _ m _ _ done rests (refused v q errno _ _ _ a (inl same) un)) = (_, adds.asked_unfit errno, subst (λ (z : PlainSide). Goes g k (rest_entry u t ∷ []) b z) (sym same.0) (goes_rest g k b m u t at rests))
  acted k u code t b c h i _ at (asking _ _ m _ _ done rests (refused v q errno _ _ _ a (inr s) un)) = (_, adds.asked_refused v q errno, (let f = goes_rest g k b m u t at rests in goes_both g k _ _ b m c f (goes_queued g _ m c SERVER v q (Fault errno) f.at s)))

-- what a whole completion adds, and what it keeps
pub record Done (g : Machine) (k : List Entry) (u : UrbId) (t : Transfer) (r : Result Outcome Memory) (b c : PlainSide) : Type 0 where
  pub adds : List Entry
  pub handled : HandlerAdds u t r adds
  pub at : IsPlainAt c g (k ++ (adds ++ end_entry u ∷ []))
  pub kept : Kept g k (k ++ (adds ++ end_entry u ∷ []))
  pub numbers : (e v : ℕ) → 0 < times v (pending_of g k e) → number_in (slice_get c.urbs.items v) ≡ number_in (slice_get b.urbs.items v)
  pub others : (v : ℕ) → v ≢ u.0 → (state_of (k ++ (adds ++ end_entry u ∷ [])) v).handlers ≡ (state_of k v).handlers
  pub less : (state_of (k ++ (adds ++ end_entry u ∷ [])) u.0).handlers ≡ (state_of k u.0).handlers - 1

module _ {H : Type 0} (completes : H → UrbId → Code → Transfer → Result Action Memory → H → Type 0) (asks : H → Option (UrbId × Transfer) → H → Type 0) (unasks : H → Transfer → H → Type 0) (g : Machine) where
  pub completed : (k : List Entry) (u : UrbId) (code : Code) (t : Transfer) (b c : PlainSide) (h i : H) (r : Result Outcome Memory) → IsPlainAt b g k → Completes PlainRests PlainSubmits PlainEnds completes asks unasks u code t b h r c i → Done g k u t r b c
  completed k u code t b c h i r at x =
      let a = acted completes asks unasks g k u code t b x.middle h i r at x.acts in
      let es = a.0 in let f = a.2 in let y = end_entry u in
      let all : (k ++ es) ++ y ∷ [] ≡ k ++ (es ++ y ∷ []) = append_assoc k es (y ∷ []) in record {
        adds = es;
        handled = a.1;
        at = subst (IsPlainAt c g) all (x.ended.entered g (k ++ es) f.at);
        kept = subst (Kept g k) all (kept_both g k (k ++ es) ((k ++ es) ++ y ∷ []) f.kept (kept_mild g (k ++ es) y tt));
        numbers = λ e v l. ap (λ w. number_in (slice_get w.items v)) x.ended.slots ∙ f.numbers e v l;
        others = λ v off. ap (λ k. (state_of k v).handlers) (sym all) ∙ (ap (λ (s : UrbState). s.handlers) (state_of-snoc (k ++ es) y v) ∙ (ap (λ b. (cond b (record (state_of (k ++ es) v) { handlers = (state_of (k ++ es) v).handlers - 1 }) (state_of (k ++ es) v)).handlers) (ne_eqb u.0 v (λ i. off (sym i))) ∙ f.handlers v));
        less = ap (λ k. (state_of k u.0).handlers) (sym all) ∙ (ap (λ (s : UrbState). s.handlers) (state_of-snoc (k ++ es) y u.0) ∙ (ap (λ b. (cond b (record (state_of (k ++ es) u.0) { handlers = (state_of (k ++ es) u.0).handlers - 1 }) (state_of (k ++ es) u.0)).handlers) (eq-eqb u.0 u.0 refl) ∙ ap (λ n. n - 1) (f.handlers u.0)));
      }

  -- a controller that agreed before agrees after
  pub completed_agrees : {D : Type 0} (d : Controller D) (k : List Entry) (u : UrbId) (code : Code) (t : Transfer) (b c : PlainSide) (h i : H) (r : Result Outcome Memory) → IsPlainAt b g k → Completes PlainRests PlainSubmits PlainEnds completes asks unasks u code t b h r c i
      → Agrees (plain_knows b) d → Agrees (plain_knows c) d
  completed_agrees d k u code t b c h i r at x a = let o = completed k u code t b c h i r at x in agrees_kept b c d g k _ at o.at o.kept o.numbers a

  -- and the replies so far are the same
  pub completed_so : {D : Type 0} (d : Controller D) (so : ℕ → List Reply) (k : List Entry) (u : UrbId) (code : Code) (t : Transfer) (b c : PlainSide) (h i : H) (r : Result Outcome Memory) → IsPlainAt b g k → Completes PlainRests PlainSubmits PlainEnds completes asks unasks u code t b h r c i
      → Agrees (plain_knows b) d → IsSoFar (plain_knows b) so d.ends.items → IsSoFar (plain_knows c) so d.ends.items
  completed_so d so k u code t b c h i r at x a s = let o = completed k u code t b c h i r at x in so_kept b c d so g k _ at o.at o.kept o.numbers a s
