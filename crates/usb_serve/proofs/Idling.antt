-- A turn that gives nothing back leaves an URB that was rejected and unlinked out of the queues.
use Rattle.std.proofs.Common.{ℕ, zero, suc, ◌≡◌, ◌<◌, Bool, true, false, cond, Some, None, List, [], ◌∷◌, ◌++◌, length, refl, sym, ap, ◌∙◌, subst, arith, eq-eqb, ne_eqb, true≢false, append_assoc, append-nil, filter, Option}
use Rattle.std.specs.Prelude.{slice_get, All}
use Rattle.std.proofs.lemmas.Option.{get_or_from_slice_get}
use Rattle.std.proofs.lemmas.List.Elements.{All-head, All-tail}
use mathlib.Core.Logic.{dite}
use native.Mathlib.Decide.{ℕ_discrete}
use Rattle.usb_types.specs.declared.errno.Code.{Code}
use Rattle.usb_machine.specs.declared.entry.Entry.{Entry}
use Rattle.usb_machine.specs.declared.layout.Layout.{Layout}
use Rattle.usb_machine.specs.declared.state.Mark.{Mark as MarkState}
use Rattle.usb_machine.specs.declared.state.Mark.TheVariants.{Clear, Unlinked, Finished}
use Rattle.usb_machine.specs.State.{is_clear}
use Rattle.usb_machine.specs.History.{Machine, home_of, state_of, line_of, pending_of, without_first, or_zero}
use Rattle.usb_machine.specs.Legal.{times}
use Rattle.usb_machine.specs.Parts.{part_of, owes}
use Rattle.usb_machine.proofs.Places.{placed, bit}
use Rattle.usb_machine.proofs.Totals.{total_same, total_none}
use Rattle.usb_machine.proofs.Rooms.{queued_has_home, home_below}
use Rattle.usb_machine.proofs.Steps.{line_of-snoc}
use Rattle.usb_serve.specs.declared.controller.Held.{Held}
use Rattle.usb_serve.specs.declared.controller.EndRow.{EndRow}
use Rattle.usb_serve.specs.declared.controller.Controller.{Controller}
use Rattle.usb_serve.specs.declared.plain_side.PlainSide.{PlainSide}
use Rattle.usb_serve.specs.Held.{held_in, urbs_in, IsHeld, Agrees}
use Rattle.usb_serve.specs.Plain.{plain_knows, mark_at, IsPlainAt}
use Rattle.usb_serve.specs.Bridge.{took, takes_of, takes_below, marked_below, is_unlinked}
use Rattle.usb_serve.proofs.Lookups.{there}
use Rattle.usb_serve.proofs.Plains.{pending_is, mark_is}
use Rattle.usb_serve.proofs.PlainSteps.{urb_known}
use Rattle.usb_serve.proofs.Bridging.{line_other, line_above}
use Rattle.usb_types.specs.declared.urb.UrbId.{UrbId}
use Rattle.usb_machine.specs.Legal.{IsLegal}
use Rattle.usb_serve.specs.declared.solo.Solo.{Solo}
use Rattle.usb_serve.specs.Growing.{TurnAdds, marked, ended, idle}
use Rattle.usb_serve.specs.Solo.{IsSoloAt, Served, IsQuiet, stop_entries}
use Rattle.usb_serve.proofs.Asides.{OwesNone, IsStopped, Asides, both, of_turn, of_rounds, stopped_all, stop_stops}

-- takes from a line leave its rest
lines_taken : (g : Machine) (h : List Entry) (e : ℕ) (us rest : List ℕ) → line_of g h e ≡ us ++ rest → line_of g (h ++ takes_of e us) e ≡ rest
lines_taken g h e [] rest is = ap (λ k. line_of g k e) (append-nil h) ∙ is
lines_taken g h e (u ∷ us) rest is = ap (λ k. line_of g k e) (sym (append_assoc h (took e u ∷ []) (takes_of e us))) ∙ lines_taken g (h ++ took e u ∷ []) e us rest
    (line_of-snoc h (took e u) g e ∙ (ap (λ b. cond b (without_first (line_of g h e)) (line_of g h e)) (eq-eqb e e refl) ∙ ap without_first is))

-- after the takes of a turn the lines are empty
empty_below : (g : Machine) (h : List Entry) (n e : ℕ) → e < n → line_of g (h ++ takes_below g h n) e ≡ []
empty_below g h zero e l = absurd (omega arith)
empty_below g h (suc d) e l = ap (λ k. line_of g k e) (sym (append_assoc h (takes_below g h d) (takes_of d (line_of g h d)))) ∙ dite (ℕ_discrete e d)
    (λ same. ap (line_of g ((h ++ takes_below g h d) ++ takes_of d (line_of g h d))) same ∙ lines_taken g (h ++ takes_below g h d) d (line_of g h d) [] (line_above g h d d (omega arith) ∙ sym (append-nil (line_of g h d))))
    (λ off. line_other g (h ++ takes_below g h d) d e (line_of g h d) off ∙ empty_below g h d e (omega arith))

first_none : {X : Type 0} (xs ys : List X) → xs ++ ys ≡ [] → (xs ≡ []) × (ys ≡ [])
first_none [] ys is = (refl, is)
first_none (x ∷ xs) ys is = cc

marked_none : (g : Machine) (h : List Entry) (n : ℕ) → marked_below g h n ≡ [] → (e : ℕ) → e < n → filter (λ u. is_unlinked (state_of h u).mark) (pending_of g h e) ≡ []
marked_none g h zero is e l = absurd (omega arith)
marked_none g h (suc d) is e l = let parts = first_none (marked_below g h d) (filter (λ u. is_unlinked (state_of h u).mark) (pending_of g h d)) is in dite (ℕ_discrete e d)
    (λ same. ap (λ c. filter (λ u. is_unlinked (state_of h u).mark) (pending_of g h c)) same ∙ parts.1)
    (λ off. marked_none g h d parts.0 e (omega arith))

none_among : (p : ℕ → Bool) (us : List ℕ) (u : ℕ) → filter p us ≡ [] → 0 < times u us → p u ≡ false
none_among p [] u is l = absurd (omega arith)
none_among p (v ∷ vs) u is l = go (p v) refl is (λ none less. none_among p vs u none less)
  where
    go : (b : Bool) → p v ≡ b → cond b (v ∷ filter p vs) (filter p vs) ≡ [] → (filter p vs ≡ [] → 0 < times u vs → p u ≡ false) → p u ≡ false
    go true e none rest = cc
    go false e none rest = dite (ℕ_discrete v u) (λ same. ap p (sym same) ∙ e) (λ off. rest none (let b = ap (λ b. cond {A = ℕ} b 1 0) (ne_eqb v u off) in omega arith))

-- an URB among the held ones has what they all have
held_among : (P : Held → Type 0) (hs : List Held) (u : ℕ) → All P hs → 0 < times u (urbs_in hs) → (h : Held) × (h.urb.0 ≡ u) × P h
held_among P [] u all l = absurd (omega arith)
held_among P (h ∷ hs) u all l = dite (ℕ_discrete h.urb.0 u) (λ same. (h, same, All-head P h hs all))
    (λ off. held_among P hs u (All-tail P h hs all) (let b = ap (λ b. cond {A = ℕ} b 1 0) (ne_eqb h.urb.0 u off) in omega arith))

clear_mark : (m : MarkState) → is_unlinked m ≡ false → ((c : Code) → m ≡ Finished c → ⊥) → is_clear m ≡ true
clear_mark Clear off none = refl
clear_mark (Unlinked w) off none = absurd (true≢false off)
clear_mark (Finished c) off none = absurd (none c refl)

module _ {D : Type 0} (s : PlainSide) (c : Controller D) (g : Machine) (h : List Entry) (k : List Entry) (taken : k ≡ h ++ takes_below g h (length g.layout.shapes)) (at : IsPlainAt s g k) (agrees : Agrees (plain_knows s) c) (links : OwesNone k)
    (none_marked : marked_below g k (length g.layout.shapes) ≡ []) (u : ℕ) where
  -- a pending URB has no mark
  pending_clear : (e : ℕ) → e < length g.layout.shapes → 0 < times u (pending_of g k e) → is_clear (state_of k u).mark ≡ true
  pending_clear e near l = clear_mark (state_of k u).mark (none_among (λ v. is_unlinked (state_of k v).mark) (pending_of g k e) u (marked_none g k (length g.layout.shapes) none_marked e near) l) unfinished
    where
      there_is : e < length c.ends.items
      there_is = let all : length c.ends.items ≡ length g.layout.shapes = agrees.layout.all ∙ ap (λ (x : Layout). length x.shapes) (sym at.layout) in omega arith

      row : (r : EndRow) × (slice_get c.ends.items e ≡ Some r)
      row = there c.ends.items e there_is

      urbs : urbs_in row.0.held.items ≡ pending_of g k e
      urbs = ap (λ o. urbs_in (held_in o)) (sym row.1) ∙ (agrees.holds.urbs e there_is ∙ pending_is s.plain g k at.stands e (let n = at.stands.ends in omega arith))

      held : (f : Held) × (f.urb.0 ≡ u) × IsHeld (plain_knows s) row.0.shape f
      held = held_among (IsHeld (plain_knows s) row.0.shape) row.0.held.items u (agrees.holds.each e row.0 row.1) (let n = ap (times u) urbs in omega arith)

      unfinished : (code : Code) → (state_of k u).mark ≡ Finished code → ⊥
      unfinished code is = held.2.unfinished (code, ap (mark_at s) held.1 ∙ (mark_is s.plain g k at.stands u (urb_known s.plain g k at.stands u e l) ∙ is))

  pub not_queued : IsStopped (state_of k u) → (state_of k u).queued ≡ false
  not_queued stopped = go (state_of k u).queued refl
    where
      go : (b : Bool) → (state_of k u).queued ≡ b → b ≡ false
      go false is = refl
      go true is =
          let legal = at.stands.legal in
          let home = queued_has_home g u k legal is in
          let row = there g.layout.homes u (home_below g u home) in
          let home_is : slice_get g.layout.homes u ≡ Some (Some home.0) = row.1 ∙ ap Some (sym (get_or_from_slice_get g.layout.homes u row.0 None row.1) ∙ home.1) in
          let same : home_of g u ≡ home.0 = ap or_zero home.1 in
          let inside = s.plain.inside u home.0 (ap (λ l. slice_get l u) at.stands.homes ∙ home_is) in
          let near : home_of g u < length g.layout.shapes = let n = at.stands.ends in omega arith in
          let once = (placed g u k legal).once in
          let owed = total_same g.passes (λ p. 0) (λ p. bit (owes (part_of k p) u)) (λ p l. ap bit (links p u)) in
          let zero_sum = total_none g.passes in
          let line = ap (times u) (ap (λ l. line_of g l (home_of g u)) taken ∙ empty_below g h (length g.layout.shapes) (home_of g u) near) in
          let queued = ap bit is in
          let pending : 0 < times u (pending_of g k (home_of g u)) = omega arith in
          absurd (true≢false (sym (pending_clear (home_of g u) near pending) ∙ stopped.marks is))

-- a wait for an URB that was rejected and unlinked never ends idle
pub never_idle : {D H : Type 0} (asks_with : H → List ℕ) (s : Solo D H) (g : Machine) (h : List Entry) (p u : ℕ) (code : Code) (es : List Entry) → IsLegal g (h ++ stop_entries p u code) → IsSoloAt asks_with s g ((h ++ stop_entries p u code) ++ es)
    → Served g (h ++ stop_entries p u code) es → (IsQuiet (state_of ((h ++ stop_entries p u code) ++ es) u) → ⊥) → ⊥
never_idle asks_with s g h p u code es legal solo served busy = go None served.last served.turned refl all_is
  where
    k : List Entry
    k = h ++ stop_entries p u code

    all_is : k ++ es ≡ (k ++ served.before) ++ served.last
    all_is = ap (λ l. k ++ l) served.is ∙ sym (append_assoc k served.before served.last)

    stopped : IsStopped (state_of (k ++ es) u)
    stopped = stopped_all g k es u (subst Asides (sym served.is) (both served.before served.last (of_rounds g k served.before served.rounds) (of_turn g (k ++ served.before) None served.last served.turned))) solo.at.stands.legal (stop_stops g h p u code legal)

    go : (o : Option UrbId) (last : List Entry) → TurnAdds g (k ++ served.before) o last → o ≡ None → k ++ es ≡ (k ++ served.before) ++ last → ⊥
    go _ _ (marked v c) is all = cc
    go _ _ (ended v c status) is all = cc
    go _ _ (idle none) is all = busy (not_queued s.side s.controller g (k ++ served.before) (k ++ es) all solo.at solo.agrees solo.linked (subst (λ l. marked_below g l (length g.layout.shapes) ≡ []) (sym all) none) u stopped, solo.calm u)
