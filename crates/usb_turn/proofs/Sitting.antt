-- What is always so of a pass stays so after it met another, and after it gave the turn back.
use Rattle.std.proofs.Common.{◌≡◌, ℕ, Bool, true, false, List, [], ◌∷◌, ◌++◌, length, Option, sym, refl, ap, subst, ◌∙◌, inl, inr, append-nil, nat_lt, if◌then◌else◌}
use Rattle.atomic_table.specs.Table.{Me}
use Rattle.usb_turn.specs.Rows.{part, longer, number_of, mine_of}
use Rattle.usb_turn.specs.Held.{In, note, both, grown, rested, compared, Compared}
use Rattle.usb_turn.specs.Pass.{AtMostOne, Sits}
use Rattle.usb_turn.specs.declared.rule.View.{View}
use Rattle.usb_turn.proofs.Rows.{part_own}
use Rattle.usb_turn.proofs.Views.{true_false, in_left}

one_of : {A : Type 0} (P : A → Type 0) (t : Bool) (a b : A) → P a → P b → P (if t then b else a)
one_of P true a b p q = q
one_of P false a b p q = p

module _ {V R : Type 0} (stands : V → List R → Type 0) (by : R → ℕ) (rows : ℕ) where
  pub has_number : (m : Me (Option V) (View R)) → Sits stands by rows m → In m.0.parts (number_of m.0.parts) (mine_of m.0.parts)
  has_number m s = subst (λ (l : List (ℕ × List R)). In l (number_of m.0.parts) (mine_of m.0.parts)) (sym s.parts) (inl (refl, refl))

  -- a pass has heard what another has seen
  pub sits_met : (m w : Me (Option V) (View R)) (o : View R) (seen : List R) → Sits stands by rows m → (x : V) × stands x seen → m.0.has ≡ false → o ≡ note seen → Compared by (both m.0 o) → w ≡ (compared (both m.0 o), m.1) → Sits stands by rows w
  sits_met m w o seen s stood idle o_is facts w_is =
      let nil : m.0.parts ++ o.parts ≡ m.0.parts = ap (λ (z : View R). m.0.parts ++ z.parts) o_is ∙ append-nil m.0.parts in
      let all : List R = longer m.0.seen o.seen in
      let stood' : (x : V) × stands x o.seen = subst (λ (z : View R). (x : V) × stands x z.seen) (sym o_is) stood in
      let new : Sits stands by rows (compared (both m.0 o), m.1) = record {
        stood = one_of (λ (l : List R). (x : V) × stands x l) (nat_lt (length m.0.seen) (length o.seen)) m.0.seen o.seen s.stood stood';
        parts = subst (λ (l : List (ℕ × List R)). l ≡ (number_of l, mine_of l) ∷ []) (sym nil) s.parts;
        own = subst (λ (l : List (ℕ × List R)). part by (number_of l) all ≡ mine_of l) (sym nil) (facts.own (number_of m.0.parts) (mine_of m.0.parts) (in_left m.0.parts o.parts (number_of m.0.parts) (mine_of m.0.parts) (has_number m s)) s.own);
        plain = s.plain;
        idle = s.idle;
        busy = λ h. absurd (true_false m.0.has h idle);
      } in
      subst (λ (z : Me (Option V) (View R)). Sits stands by rows z) (sym w_is) new

pub number_met : {V R : Type 0} (m w : Me (Option V) (View R)) (o : View R) (seen : List R) → o ≡ note seen → w ≡ (compared (both m.0 o), m.1) → number_of w.0.parts ≡ number_of m.0.parts
number_met {V} {R} m w o seen o_is w_is =
    let nil : m.0.parts ++ o.parts ≡ m.0.parts = ap (λ (z : View R). m.0.parts ++ z.parts) o_is ∙ append-nil m.0.parts in
    ap (λ (z : Me (Option V) (View R)). number_of z.0.parts) w_is ∙ ap (λ (l : List (ℕ × List R)). number_of l) nil

pub number_left : {V R : Type 0} (was grew at last : Me (Option V) (View R)) (c : List (ℕ × Option V)) (more : List R) → grew ≡ (grown was.0 more, was.1) → at ≡ (grew.0, c) → last ≡ (rested at.0, []) → number_of last.0.parts ≡ number_of was.0.parts
number_left {V} {R} was grew at last c more grew_is at_is last_is =
    ap (λ (z : Me (Option V) (View R)). number_of z.0.parts) last_is ∙ (ap (λ (z : Me (Option V) (View R)). number_of z.0.parts) at_is ∙ ap (λ (z : Me (Option V) (View R)). number_of z.0.parts) grew_is)

-- a pass has given the turn back, with rows of its own
module _ {V R : Type 0} (stands : V → List R → Type 0) (by : R → ℕ) (rows : ℕ) where
  own_more : (k : ℕ) (seen mine more : List R) → part by k seen ≡ mine → AtMostOne by k more → part by k (seen ++ more) ≡ mine ++ more
  own_more k seen mine more own (inl nil) = ap (part by k) (ap (λ l. seen ++ l) nil ∙ append-nil seen) ∙ (own ∙ sym (ap (λ l. mine ++ l) nil ∙ append-nil mine))
  own_more k seen mine more own (inr one) = ap (λ l. part by k (seen ++ l)) one.1 ∙ (part_own by k seen one.0 one.2 ∙ (ap (λ l. l ++ one.0 ∷ []) own ∙ ap (λ l. mine ++ l) (sym one.1)))

  pub sits_left : (was grew at last : Me (Option V) (View R)) (c : List (ℕ × Option V)) (value : V) (more : List R) → Sits stands by rows was → AtMostOne by (number_of was.0.parts) more → stands value (was.0.seen ++ more)
      → grew ≡ (grown was.0 more, was.1) → at ≡ (grew.0, c) → last ≡ (rested at.0, []) → Sits stands by rows last
  sits_left was grew at last c value more s one stood grew_is at_is last_is =
      let view : at.0 ≡ grown was.0 more = ap (λ (m : Me (Option V) (View R)). m.0) at_is ∙ ap (λ (m : Me (Option V) (View R)). m.0) grew_is in
      let new : Sits {V = V} stands by rows (rested (grown was.0 more), []) = record {
        stood = (value, stood);
        parts = refl;
        own = own_more (number_of was.0.parts) was.0.seen (mine_of was.0.parts) more s.own one;
        plain = s.plain;
        idle = λ h. refl;
        busy = λ h. absurd (true_false false h refl);
      } in
      subst (λ (z : Me (Option V) (View R)). Sits stands by rows z) (sym last_is) (subst (λ (z : View R). Sits {V = V} stands by rows (rested z, [])) (sym view) new)
