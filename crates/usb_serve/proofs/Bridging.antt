-- The takes and looks of a turn over a machine with its transfers.
use Rattle.std.proofs.Common.{ℕ, zero, suc, ◌≡◌, ◌≢◌, ◌≤◌, cond, List, [], ◌∷◌, ◌++◌, length, refl, sym, ap, ◌∙◌, subst, arith, append_assoc, append-nil, length-append, length-set, eq-eqb, ne_eqb, filter, Bool, ◌<◌, false, slice_get, Some, slice_set, None}
use Rattle.std.specs.Prelude.{slice_get, slice_set}
use mathlib.Core.Logic.{dite}
use native.Mathlib.Decide.{ℕ_discrete}
use Rattle.usb_types.specs.declared.urb.UrbId.{UrbId}
use Rattle.std.proofs.lemmas.List.{map-append}
use Rattle.usb_machine.specs.declared.entry.Entry.{Entry}
use Rattle.usb_machine.specs.History.{Machine, state_of, line_of, pending_of, without_first}
use Rattle.usb_machine.proofs.Steps.{line_of-snoc}
use Rattle.usb_serve.specs.declared.plain_side.PlainSide.{PlainSide}
use Rattle.usb_serve.specs.Held.{Holds, held_in, held_at, urbs_in, Serving}
use Rattle.usb_serve.specs.Taking.{TakesSome, TakesLine, TakesBelow, none, one, line}
use Rattle.usb_serve.specs.Plain.{plain_knows, mark_at, pending_in, look_by, IsPlainAt, PlainTakes, PlainLooks}
use Rattle.usb_machine.specs.declared.state.Mark.{Mark as MarkState}
use Rattle.usb_machine.specs.declared.state.Mark.TheVariants.{Clear, Unlinked, Finished}
use Rattle.usb_machine.specs.State.{why_of}
use Rattle.usb_machine.specs.Legal.{times}
use Rattle.usb_machine.specs.Plain.{ends_of}
use Rattle.usb_machine.specs.declared.host_answers.Look.{Look}
use Rattle.usb_types.specs.declared.errno.Code.{Code}
use Rattle.usb_machine.specs.declared.transfer.Transfer.{Transfer}
use Rattle.usb_xfer.specs.Replies.{Question, Reply}
use Rattle.usb_serve.specs.declared.plain_side.PlainGiven.{PlainGiven}
use Rattle.usb_serve.specs.declared.controller.EndRow.{EndRow}
use Rattle.usb_serve.specs.Turn.{Turned, idle}
use Rattle.usb_serve.proofs.Lookups.{set_here, set_there}
use Rattle.std.proofs.lemmas.Option.{slice_get_within}
use Rattle.usb_serve.specs.declared.controller.Held.{Held}
use Rattle.usb_serve.specs.Looking.{with_clean, LooksBelow, end, has_reason, PassesOver, LooksAtEnd, none, one}
use Rattle.usb_serve.proofs.Plains.{pending_is, mark_is}
use Rattle.usb_serve.proofs.PlainSteps.{urb_known}
use Rattle.std.proofs.lemmas.List.Elements.{filter-append}
use Rattle.usb_serve.specs.Bridge.{marked_below, is_unlinked, took, takes_of, takes_below}

-- takes at one endpoint leave the line of another
pub line_other : (g : Machine) (h : List Entry) (e d : ℕ) (us : List ℕ) → d ≢ e → line_of g (h ++ takes_of e us) d ≡ line_of g h d
line_other g h e d [] off = ap (λ l. line_of g l d) (append-nil h)
line_other g h e d (u ∷ us) off = ap (λ l. line_of g l d) (sym (append_assoc h (took e u ∷ []) (takes_of e us))) ∙ (line_other g (h ++ took e u ∷ []) e d us off ∙ (line_of-snoc h (took e u) g d
    ∙ ap (λ b. cond b (without_first (line_of g h d)) (line_of g h d)) (ne_eqb e d (λ i. off (sym i)))))

pub line_above : (g : Machine) (h : List Entry) (n d : ℕ) → n ≤ d → line_of g (h ++ takes_below g h n) d ≡ line_of g h d
line_above g h zero d l = ap (λ l. line_of g l d) (append-nil h)
line_above g h (suc e) d l = ap (λ l. line_of g l d) (sym (append_assoc h (takes_below g h e) (takes_of e (line_of g h e)))) ∙ (line_other g (h ++ takes_below g h e) e d (line_of g h e) (λ is. absurd (omega arith)) ∙ line_above g h e d (omega arith))

-- these were taken from the line of e
pub record Taken (s : PlainSide) (g : Machine) (h : List Entry) (e n : ℕ) : Type 0 where
  pub urbs : List ℕ
  pub count : length urbs ≡ n
  pub shows : IsPlainAt s g (h ++ takes_of e urbs)
  pub split : line_of g h e ≡ urbs ++ line_of g (h ++ takes_of e urbs) e

module _ {D : Type 0} (g : Machine) where
  taken_some : (h : List Entry) (e : ℕ) (x : Serving PlainSide D) → IsPlainAt x.side g h → (n : ℕ) (y : Serving PlainSide D) → TakesSome PlainTakes e x n y → Taken y.side g h e n
  taken_some h e x at _ _ none = record { urbs = []; count = refl; shows = subst (IsPlainAt x.side g) (sym (append-nil h)) at; split = ap (λ l. line_of g l e) (sym (append-nil h)) }
  taken_some h e x at _ _ (one n m row u t s some there took_so) = let r = taken_some h e x at n m some in
      let f = took_so.first g (h ++ takes_of e r.urbs) r.shows in
      let all : (h ++ takes_of e r.urbs) ++ took e u.0 ∷ [] ≡ h ++ takes_of e (r.urbs ++ u.0 ∷ []) = append_assoc h (takes_of e r.urbs) (took e u.0 ∷ []) ∙ ap (λ l. h ++ l) (sym (map-append (took e) r.urbs (u.0 ∷ []))) in
      let now = line_of-snoc (h ++ takes_of e r.urbs) (took e u.0) g e ∙ (ap (λ b. cond b (without_first (line_of g (h ++ takes_of e r.urbs) e)) (line_of g (h ++ takes_of e r.urbs) e)) (eq-eqb e e refl) ∙ ap without_first f.1) in
      record {
        urbs = r.urbs ++ u.0 ∷ [];
        count = let a = length-append r.urbs (u.0 ∷ []) in let c = r.count in omega arith;
        shows = subst (IsPlainAt s g) all (took_so.entered g (h ++ takes_of e r.urbs) r.shows);
        split = r.split ∙ (ap (λ l. r.urbs ++ l) (f.1 ∙ ap (λ l. u.0 ∷ l) (sym now ∙ ap (λ l. line_of g l e) all)) ∙ sym (append_assoc r.urbs (u.0 ∷ []) (line_of g (h ++ takes_of e (r.urbs ++ u.0 ∷ [])) e)));
      }

  -- the history after a line was taken
  pub taken_line : (h : List Entry) (e n : ℕ) (x y : Serving PlainSide D) → IsPlainAt x.side g h → TakesLine PlainTakes e x n y → IsPlainAt y.side g (h ++ takes_of e (line_of g h e)) × (length (line_of g h e) ≡ n)
  taken_line h e n x y at t = let r = taken_some h e x at n t.middle t.some in
      let rest = t.last.1 g (h ++ takes_of e r.urbs) r.shows in
      let same : line_of g h e ≡ r.urbs = r.split ∙ (ap (λ l. r.urbs ++ l) rest ∙ append-nil r.urbs) in
      let shows = subst (λ us. IsPlainAt t.middle.side g (h ++ takes_of e us)) (sym same) r.shows in
      (subst (λ (z : PlainSide). IsPlainAt z g (h ++ takes_of e (line_of g h e))) (sym (ap (λ (z : Serving PlainSide D). z.side) t.is ∙ t.last.0)) shows, ap length same ∙ r.count)

  -- and after all lines were
  pub taken_below : (h : List Entry) (x : Serving PlainSide D) → IsPlainAt x.side g h → (k n : ℕ) (y : Serving PlainSide D) → TakesBelow PlainTakes x k n y → IsPlainAt y.side g (h ++ takes_below g h k)
  taken_below h x at _ _ _ none = subst (IsPlainAt x.side g) (sym (append-nil h)) at
  taken_below h x at _ _ y (line e n k m _ below more) = let r = taken_below h x at e n m below in
      let t = (taken_line (h ++ takes_below g h e) e k m y r more).0 in
      subst (IsPlainAt y.side g) (ap (λ us. (h ++ takes_below g h e) ++ takes_of e us) (line_above g h e e (omega arith)) ∙ append_assoc h (takes_below g h e) (takes_of e (line_of g h e))) t

-- looks on a machine with its transfers leave it, and find no URB unlinked
pub over_plain : (s m : PlainSide) (hs : List Held) (answers : List Look) → PassesOver PlainLooks s hs answers m → (m ≡ s) × (filter (λ u. is_unlinked (mark_at s u)) (urbs_in hs) ≡ [])
over_plain s _ _ _ none = (refl, refl)
over_plain s _ _ _ (one hs answers m h a t passed look off) = let r = over_plain s m hs answers passed in
    let off_here : is_unlinked (mark_at s h.urb.0) ≡ false = unmarked (mark_at s h.urb.0) (subst (λ (z : PlainSide). has_reason (look_by (why_of (mark_at z h.urb.0))) ≡ false) r.0 (ap has_reason (sym look.1) ∙ off)) in
    (look.0 ∙ r.0, ap (filter (λ u. is_unlinked (mark_at s u))) (map-append (λ (h : Held). h.urb.0) hs (h ∷ [])) ∙ (filter-append (λ u. is_unlinked (mark_at s u)) (urbs_in hs) (h.urb.0 ∷ []) ∙ (ap (λ l. l ++ filter (λ u. is_unlinked (mark_at s u)) (h.urb.0 ∷ [])) r.1 ∙ ap (λ b. cond b (h.urb.0 ∷ []) []) off_here)))
  where
    unmarked : (mark : MarkState) → has_reason (look_by (why_of mark)) ≡ false → is_unlinked mark ≡ false
    unmarked Clear is = refl
    unmarked (Unlinked w) is = cc
    unmarked (Finished c) is = refl

same_filter : (p q : ℕ → Bool) (us : List ℕ) → ((u : ℕ) → 0 < times u us → p u ≡ q u) → filter p us ≡ filter q us
same_filter p q [] f = refl
same_filter p q (u ∷ us) f = let here = f u (let b = ap (λ b. cond {A = ℕ} b 1 0) (eq-eqb u u refl) in omega arith) in
    ap (λ b. cond b (u ∷ filter p us) (filter p us)) here ∙ ap (λ l. cond (q u) (u ∷ l) l) (same_filter p q us (λ v l. f v (omega arith)))

module _ {D : Type 0} (g : Machine) (h : List Entry) where
  -- an endpoint at which none looks marked has no URB that was unlinked
  looked_end : (e : ℕ) (x y : Serving PlainSide D) → IsPlainAt x.side g h → e < ends_of x.side.plain → urbs_in (held_at x.ends e) ≡ pending_in (slice_get x.side.plain.ends.items e) → LooksAtEnd PlainLooks e x y
      → (y.side ≡ x.side) × (filter (λ u. is_unlinked (state_of h u).mark) (pending_of g h e) ≡ [])
  looked_end e x y at near urbs l = let r = over_plain x.side y.side l.row.held.items l.finds.answers l.finds.passed in
      let here : urbs_in l.row.held.items ≡ pending_of g h e = ap (λ o. urbs_in (held_in o)) (sym l.at) ∙ (urbs ∙ pending_is x.side.plain g h at.stands e near) in (
        r.0,
        same_filter (λ u. is_unlinked (state_of h u).mark) (λ u. is_unlinked (mark_at x.side u)) (pending_of g h e) (λ u l. ap is_unlinked (sym (mark_is x.side.plain g h at.stands u (urb_known x.side.plain g h at.stands u e l))))
            ∙ (ap (filter (λ u. is_unlinked (mark_at x.side u))) (sym here) ∙ r.1),
      )

held_clean : (ends after : List EndRow) (e d : ℕ) (row : EndRow) (clean : Bool) → slice_get ends e ≡ Some row → after ≡ slice_set ends e (with_clean clean row) → held_at after d ≡ held_at ends d
held_clean ends after e d row clean at is = ap (λ l. held_at l d) is ∙ dite (ℕ_discrete d e)
    (λ same. ap (λ f. held_at (slice_set ends e (with_clean clean row)) f) same ∙ (ap held_in (set_here ends e (with_clean clean row) row at) ∙ (ap held_in (sym at) ∙ ap (held_at ends) (sym same))))
    (λ off. ap held_in (set_there ends e d (with_clean clean row) off))

-- what looking below an endpoint left and found
pub record LookedBelow {D : Type 0} (g : Machine) (h : List Entry) (n : ℕ) (x y : Serving PlainSide D) : Type 0 where
  pub side : y.side ≡ x.side
  pub held : (d : ℕ) → held_at y.ends d ≡ held_at x.ends d
  pub count : length y.ends ≡ length x.ends
  pub none_marked : marked_below g h n ≡ []

module _ {D : Type 0} (g : Machine) (h : List Entry) (x : Serving PlainSide D) (at : IsPlainAt x.side g h) (holds : Holds (plain_knows x.side) x.ends) where
  -- no pending URB was unlinked where none looks marked
  pub looked_below : (n : ℕ) (y : Serving PlainSide D) → LooksBelow PlainLooks x n y → n ≤ length g.layout.shapes → LookedBelow g h n x y
  looked_below _ _ none l = record { side = refl; held = λ d. refl; count = refl; none_marked = refl }
  looked_below _ y (end e m _ below more) l =
      let r = looked_below e m below (omega arith) in
      let here = subst (λ (z : PlainSide). IsPlainAt z g h) (sym r.side) at in
      let near : e < ends_of m.side.plain = let a = here.stands.ends in omega arith in
      let in_ : e < length x.ends = let w = slice_get_within m.ends e more.row more.at in omega (arith, r.count, w) in
      let urbs = ap urbs_in (r.held e) ∙ (holds.urbs e in_ ∙ ap (λ (z : PlainSide). pending_in (slice_get z.plain.ends.items e)) (sym r.side)) in
      let z = looked_end g h e m y here near urbs more in
      let ends = ap (λ (z : Serving PlainSide D). z.ends) more.is in record {
        side = z.0 ∙ r.side;
        held = λ d. held_clean m.ends y.ends e d more.row more.clean more.at ends ∙ r.held d;
        count = ap length ends ∙ (length-set m.ends e (with_clean more.clean more.row) ∙ r.count);
        none_marked = (λ i. r.none_marked i ++ z.1 i);
      }

-- a turn that gives nothing back takes what the lines hold, and then no pending URB is unlinked
pub idle_turn : {D : Type 0} (finishes : PlainSide → UrbId → Code → Bool → PlainSide → Type 0) (gives : PlainSide → UrbId → Transfer → PlainGiven → PlainSide → Type 0) (replies : D → ℕ → Question → Reply → D → Type 0) (items_used : D → ℕ)
    (g : Machine) (h : List Entry) (x y : Serving PlainSide D) (changed : Bool) → IsPlainAt x.side g h → length x.ends ≡ length g.layout.shapes → Turned plain_knows PlainTakes PlainLooks finishes gives replies items_used x None changed y
    → marked_below g (h ++ takes_below g h (length x.ends)) (length x.ends) ≡ []
idle_turn finishes gives replies items_used g h x y _ at all (idle taken moved t l _ below holds looked after passed) =
    let now = taken_below g h x at (length x.ends) taken t below in
    (looked_below g (h ++ takes_below g h (length x.ends)) t now holds (length x.ends) l looked (omega arith)).none_marked
