-- A script with one call more holds the rejects that it withdraws.
use Rattle.std.proofs.Common.{◌≡◌, ℕ, ◌<◌, ◌≤◌, Bool, true, false, cond, List, [], ◌∷◌, ◌++◌, refl, sym, ap, ◌∙◌, arith, subst, append_assoc}
use Rattle.std.specs.Prelude.{nat_lt}
use Rattle.std.proofs.lemmas.Bool.{ltb-true}
use Rattle.std.proofs.lemmas.List.{same_from_push}
use Rattle.usb_scene.specs.declared.scene.Call.{Call}
use Rattle.usb_scene.specs.declared.scene.Target.{Target}
use Rattle.usb_statement.specs.declared.keyword.UrbCall.{UrbCall}
use Rattle.usb_statement.specs.declared.keyword.UrbCall.TheVariants as on
use Rattle.usb_statement.specs.Statements.{is_empty}
use Rattle.usb_scene.specs.WellFormed.{is_on, withdrawn, held_on, AreHeld}
use Rattle.usb_scene.specs.Rules.{raises, withdraws}
use Rattle.usb_scene.specs.Counts.{AreFair}
use Rattle.usb_scene.proofs.HeldCounts.{one_if, urb_call, withdrawn_said, IsQuiet, held_quiet, held_same, held_other, next_most}
use Rattle.usb_scene.proofs.Scenes.{has_last}
use Rattle.usb_scene.proofs.Targets.{same_urb}

append_none : (calls : List Call) → calls ≡ calls ++ []
append_none [] = refl
append_none (c ∷ calls) = ap (λ (cs : List Call). c ∷ cs) (append_none calls)

-- where a list that grew by one is cut in two
data Cut (calls : List Call) (c : Call) (before behind : List Call) : Type 0 where
  AtEnd : before ≡ calls ++ c ∷ [] → behind ≡ [] → Cut calls c before behind
  Inside : (rest : List Call) → behind ≡ rest ++ c ∷ [] → calls ≡ before ++ rest → Cut calls c before behind

cut_at : (t : Bool) (calls before behind : List Call) (c : Call) → is_empty behind ≡ t → calls ++ c ∷ [] ≡ before ++ behind → Cut calls c before behind
cut_at true calls before [] c e h = AtEnd (append_none before ∙ sym h) refl
cut_at true calls before (b ∷ behind) c e h = cc
cut_at false calls before behind c e h =
    let l = has_last behind e in
    let split : calls ++ c ∷ [] ≡ (before ++ l.before) ++ l.last ∷ [] = h ∙ ap (λ (cs : List Call). before ++ cs) l.split ∙ sym (append_assoc before l.before (l.last ∷ [])) in
    let same = same_from_push calls (before ++ l.before) c l.last split in
    Inside l.before (l.split ∙ ap (λ (x : Call). l.before ++ x ∷ []) (sym same.1)) same.0

-- where a list that grew by one is cut at an item
data CutAt (calls : List Call) (c : Call) (before : List Call) (x : Call) : Type 0 where
  New : before ≡ calls → x ≡ c → CutAt calls c before x
  Old : (rest : List Call) → calls ≡ before ++ x ∷ rest → CutAt calls c before x

cut_item : (t : Bool) (calls before behind : List Call) (c x : Call) → is_empty behind ≡ t → calls ++ c ∷ [] ≡ before ++ x ∷ behind → CutAt calls c before x
cut_item true calls before [] c x e h = let same = same_from_push calls before c x h in New (sym same.0) (sym same.1)
cut_item true calls before (b ∷ behind) c x e h = cc
cut_item false calls before behind c x e h =
    let l = has_last behind e in
    let split : calls ++ c ∷ [] ≡ (before ++ x ∷ l.before) ++ l.last ∷ [] = h ∙ ap (λ (cs : List Call). before ++ x ∷ cs) l.split ∙ sym (append_assoc before (x ∷ l.before) (l.last ∷ [])) in
    Old l.before (same_from_push calls (before ++ x ∷ l.before) c l.last split).0

held_at : (calls : List Call) (c : Call) (before : List Call) (x : Call) (u : Target) → AreHeld calls → ((u : Target) → withdrawn u c ≡ 1 → 0 < held_on u calls)
    → CutAt calls c before x → withdrawn u x ≡ 1 → 0 < held_on u before
held_at calls c before x u h new (New same is) w = subst (λ (cs : List Call). 0 < held_on u cs) (sym same) (new u (ap (withdrawn u) (sym is) ∙ w))
held_at calls c before x u h new (Old rest split) w = h.held before x rest u split w

most_at : (calls : List Call) (c : Call) (before behind : List Call) (u : Target) → AreHeld calls → ((u : Target) → held_on u (calls ++ c ∷ []) ≤ 100)
    → Cut calls c before behind → held_on u before ≤ 100
most_at calls c before behind u h few (AtEnd same none) = subst (λ (cs : List Call). held_on u cs ≤ 100) (sym same) (few u)
most_at calls c before behind u h few (Inside rest end split) = h.most before rest u split

held_more : (calls : List Call) (c : Call) → AreHeld calls → ((u : Target) → withdrawn u c ≡ 1 → 0 < held_on u calls) → ((u : Target) → held_on u (calls ++ c ∷ []) ≤ 100) → AreHeld (calls ++ c ∷ [])
held_more calls c h new few = record {
  held = λ before x behind u e w. held_at calls c before x u h new (cut_item (is_empty behind) calls before behind c x refl e) w;
  most = λ before behind u e. most_at calls c before behind u h few (cut_at (is_empty behind) calls before behind c refl e);
}

-- a call that changes no rejects
pub held_calmly : (calls : List Call) (c : Call) → IsQuiet c → AreHeld calls → AreHeld (calls ++ c ∷ [])
held_calmly calls c quiet h =
    held_more calls c h (λ u w. let none = quiet.withdraws_none u in absurd (let e : 0 ≡ 1 = sym none ∙ w in omega arith))
    (λ u. let e = held_quiet u calls c quiet in let old = h.most calls [] u (append_none calls) in omega arith)

withdraws_one : (call : UrbCall) (t : Bool) → cond t (one_if (withdraws call)) 0 ≡ 1 → (t ≡ true) × (withdraws call ≡ true)
withdraws_one call false h = absurd (let e : 0 ≡ 1 = h in omega arith)
withdraws_one on.Unlink true h = absurd (let e : 0 ≡ 1 = h in omega arith)
withdraws_one on.Kill true h = absurd (let e : 0 ≡ 1 = h in omega arith)
withdraws_one on.Poison true h = absurd (let e : 0 ≡ 1 = h in omega arith)
withdraws_one on.Unpoison true h = (refl, refl)
withdraws_one on.Block true h = absurd (let e : 0 ≡ 1 = h in omega arith)
withdraws_one on.Unblock true h = (refl, refl)

found_held : (call : UrbCall) (line : ℕ) (v u : Target) (calls : List Call) → cond (withdraws call) (nat_lt 0 (held_on v calls)) true ≡ true
    → withdrawn u (urb_call line v call) ≡ 1 → 0 < held_on u calls
found_held call line v u calls held w =
    let one = withdraws_one call (is_on u v) (sym (withdrawn_said call line v u) ∙ w) in
    let there : nat_lt 0 (held_on v calls) ≡ true = ap (λ t. cond t (nat_lt 0 (held_on v calls)) true) (sym one.1) ∙ held in
    subst (λ k. 0 < held_on k calls) (sym (same_urb u v one.0)) (ltb-true 0 (held_on v calls) there)

few_held : (call : UrbCall) (line : ℕ) (v u : Target) (calls : List Call) (t : Bool) → AreFair calls → AreHeld calls
    → cond (raises call) (nat_lt (held_on v calls) 100) true ≡ true → is_on u v ≡ t → held_on u (calls ++ urb_call line v call ∷ []) ≤ 100
few_held call line v u calls true fair h free e =
    let same : u ≡ v = same_urb u v e in
    let next = next_most call (held_on u calls) (h.most calls [] u (append_none calls)) (ap (λ k. cond (raises call) (nat_lt (held_on k calls) 100) true) same ∙ free) in
    let behind = held_same call line v u calls fair e in
    omega arith
few_held call line v u calls false fair h free e =
    let behind = held_other call line v u calls e in
    let old = h.most calls [] u (append_none calls) in
    omega arith

-- a call that withdraws only what is held, and raises no more than may be held
pub held_said : (call : UrbCall) (line : ℕ) (v : Target) (calls : List Call) → AreFair calls → cond (raises call) (nat_lt (held_on v calls) 100) true ≡ true
    → cond (withdraws call) (nat_lt 0 (held_on v calls)) true ≡ true → AreHeld calls → AreHeld (calls ++ urb_call line v call ∷ [])
held_said call line v calls fair free held h =
    held_more calls (urb_call line v call) h (λ u w. found_held call line v u calls held w) (λ u. few_held call line v u calls (is_on u v) fair h free refl)

no_calls : (before behind : List Call) (c : Call) → [] ≡ before ++ c ∷ behind → ⊥
no_calls [] behind c h = cc
no_calls (b ∷ before) behind c h = cc

empty_front : (before behind : List Call) → [] ≡ before ++ behind → before ≡ []
empty_front [] behind h = refl
empty_front (b ∷ before) behind h = cc

pub held_none : AreHeld []
held_none = record {
  held = λ before c behind u e w. absurd (no_calls before behind c e);
  most = λ before behind u e. subst (λ (cs : List Call). held_on u cs ≤ 100) (sym (empty_front before behind e)) (omega arith);
}
