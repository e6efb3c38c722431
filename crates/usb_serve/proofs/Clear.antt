-- Where a first URB looked clean in a turn over a machine with its transfers, no mark stands on it.
use Rattle.std.proofs.Common.{ℕ, ◌≡◌, ◌+◌, ◌<◌, ◌≤◌, Bool, true, false, Option, Some, None, List, [], ◌∷◌, ◌++◌, length, length-append, refl, sym, ap, ◌∙◌, subst, arith}
use Rattle.std.specs.Prelude.{slice_get}
use Rattle.std.proofs.lemmas.Option.{same_Some}
use mathlib.Core.Logic.{dite}
use native.Mathlib.Decide.{ℕ_discrete}
use Rattle.usb_types.specs.declared.urb.UrbId.{UrbId}
use Rattle.usb_types.specs.declared.urb.Why.{Why}
use Rattle.usb_types.specs.declared.errno.Code.{Code}
use Rattle.usb_machine.specs.declared.entry.Entry.{Entry}
use Rattle.usb_machine.specs.State.{is_clear, why_of}
use Rattle.usb_machine.specs.History.{Machine, home_of, state_of, pending_of}
use Rattle.usb_machine.proofs.Mays.{first_times}
use Rattle.usb_machine.proofs.Prefixes.{follows_before}
use Rattle.usb_xfer.specs.Replies.{Question, Reply}
use Rattle.usb_machine.specs.declared.host_answers.Look.{Look}
use Rattle.usb_serve.specs.declared.controller.Held.{Held}
use Rattle.usb_serve.specs.declared.controller.EndRow.{EndRow}
use Rattle.usb_serve.specs.declared.plain_side.PlainSide.{PlainSide}
use Rattle.usb_serve.specs.Held.{Serving, Holds, IsHeld}
use Rattle.usb_serve.specs.Looking.{is_clean, first_clean, with_clean, PassesOver, LooksBelow, end, none, one}
use Rattle.usb_serve.specs.Serving.{PassesEnd, skips, waits, late}
use Rattle.usb_serve.specs.Plain.{plain_knows, mark_at, look_by, answered_truth, IsPlainAt, PlainLooks, PlainFinishes}
use Rattle.usb_serve.specs.Growing.{finish_entry}
use Rattle.usb_serve.proofs.Lookups.{set_read, set_there}
use Rattle.usb_serve.proofs.Agreeing.{all_first}
use Rattle.usb_serve.proofs.Plains.{mark_is}
use Rattle.usb_serve.proofs.PlainSteps.{urb_known, clear_unmarked}
use Rattle.usb_serve.proofs.Bridging.{over_plain}

-- looks leave the side
pub looked : {D : Type 0} (x : Serving PlainSide D) (n : ℕ) (y : Serving PlainSide D) → LooksBelow PlainLooks x n y → y.side ≡ x.side
looked x _ _ none = refl
looked x _ y (end e m _ below more) = (over_plain m.side y.side more.row.held.items more.finds.answers more.finds.passed).0 ∙ looked x e m below

look_none : (o : Option Why) → is_clean (look_by o) ≡ true → o ≡ None
look_none None is = refl
look_none (Some why) is = cc

-- as many answers as looks
passes_long : (s m : PlainSide) (hs : List Held) (answers : List Look) → PassesOver PlainLooks s hs answers m → length answers ≡ length hs
passes_long s _ _ _ none = refl
passes_long s _ _ _ (one hs answers m h a t passed look off) = let n = passes_long s m hs answers passed in let p = length-append answers (a ∷ []) in let q = length-append hs (h ∷ []) in omega arith

-- one look more leaves the first
first_step : (s m : PlainSide) (hs : List Held) (answers : List Look) (h : Held) (a : Look) → length answers ≡ length hs → m ≡ s → a ≡ look_by (why_of (mark_at m h.urb.0))
    → ((f : Held) (others : List Held) → hs ≡ f ∷ others → first_clean answers ≡ true → why_of (mark_at s f.urb.0) ≡ None)
    → (f : Held) (others : List Held) → hs ++ h ∷ [] ≡ f ∷ others → first_clean (answers ++ a ∷ []) ≡ true → why_of (mark_at s f.urb.0) ≡ None
first_step s m [] [] h a long same look was f others is clean =
    let first : f ≡ h = same_Some f h (sym (ap (λ (l : List Held). slice_get l 0) is)) in
    subst (λ (z : PlainSide). why_of (mark_at z f.urb.0) ≡ None) same (subst (λ (q : Held). why_of (mark_at m q.urb.0) ≡ None) (sym first) (look_none (why_of (mark_at m h.urb.0)) (ap is_clean (sym look) ∙ clean)))
first_step s m [] (b ∷ bs) h a long same look was f others is clean = absurd (omega arith)
first_step s m (y ∷ ys) [] h a long same look was f others is clean = absurd (omega arith)
first_step s m (y ∷ ys) (b ∷ bs) h a long same look was f others is clean =
    let first : f ≡ y = same_Some f y (sym (ap (λ (l : List Held). slice_get l 0) is)) in
    subst (λ (q : Held). why_of (mark_at s q.urb.0) ≡ None) (sym first) (was y ys refl clean)

first_look : (s m : PlainSide) (hs : List Held) (answers : List Look) → PassesOver PlainLooks s hs answers m → (f : Held) (others : List Held) → hs ≡ f ∷ others → first_clean answers ≡ true → why_of (mark_at s f.urb.0) ≡ None
first_look s _ _ _ none f others is clean = cc
first_look s _ _ _ (one hs answers m h a t passed look off) f others is clean =
    first_step s m hs answers h a (passes_long s m hs answers passed) (over_plain s m hs answers passed).0 look.1 (λ f others is clean. first_look s m hs answers passed f others is clean) f others is clean

-- after looks below an endpoint a first URB that looked clean has no reason in its mark
clear_below : {D : Type 0} (x : Serving PlainSide D) (n : ℕ) (y : Serving PlainSide D) → LooksBelow PlainLooks x n y
    → (e : ℕ) (row : EndRow) (f : Held) (others : List Held) → e < n → slice_get y.ends e ≡ Some row → row.clean ≡ true → row.held.items ≡ f ∷ others → why_of (mark_at x.side f.urb.0) ≡ None
clear_below x _ _ none e row f others l at clean is = absurd (omega arith)
clear_below x _ y (end d m _ below more) e row f others l at clean is = let ends = ap (λ z. z.ends) more.is in dite (ℕ_discrete e d)
    (λ same. let there = set_read m.ends y.ends d (with_clean more.clean more.row) row ends (ap (slice_get y.ends) (sym same) ∙ at) in
    let first = first_look m.side y.side more.row.held.items more.finds.answers more.finds.passed f others (ap (λ (r : EndRow). r.held.items) (sym there) ∙ is) (sym more.finds.is ∙ (ap (λ (r : EndRow). r.clean) (sym there) ∙ clean)) in
    subst (λ (z : PlainSide). why_of (mark_at z f.urb.0) ≡ None) (looked x d m below) first)
    (λ off. clear_below x d m below e row f others (omega arith) (sym (set_there m.ends d e (with_clean more.clean more.row) off) ∙ (ap (λ l. slice_get l e) (sym ends) ∙ at)) clean is)

-- no mark stands on a first URB that looked clean, at the endpoints below the number
abbrev pub AreClear : {D : Type 0} → ℕ → Serving PlainSide D → Type 0
AreClear n x = (e : ℕ) (row : EndRow) (f : Held) (others : List Held) → e < n → slice_get x.ends e ≡ Some row → row.clean ≡ true → row.held.items ≡ f ∷ others → is_clear (mark_at x.side f.urb.0) ≡ false → ⊥

pub are_clear : {D : Type 0} (x : Serving PlainSide D) (n : ℕ) (y : Serving PlainSide D) → LooksBelow PlainLooks x n y → Holds (plain_knows y.side) y.ends → AreClear n y
are_clear x n y looks holds e row f others l at clean is marked =
    let none_there = subst (λ (z : PlainSide). why_of (mark_at z f.urb.0) ≡ None) (sym (looked x n y looks)) (clear_below x n y looks e row f others l at clean is) in
    clear_unmarked (mark_at y.side f.urb.0) none_there marked (all_first (IsHeld (plain_knows y.side) row.shape) row.held.items f others is (holds.each e row at)).unfinished

-- a finish that answers false found a mark
late_marked : (old new : PlainSide) (g : Machine) (h : List Entry) → IsPlainAt old g h → (u : UrbId) (code : Code) → PlainFinishes old u code false new → is_clear (mark_at old u.0) ≡ false
late_marked old new g h at u code finished =
    let f = follows_before g h (finish_entry u code false) [] (finished.entered g h at).stands.legal in
    let answer : false ≡ is_clear (state_of h u.0).mark = ap answered_truth f.answers in
    let known = urb_known old.plain g h at.stands u.0 (home_of g u.0) (first_times u.0 (pending_of g h (home_of g u.0)) f.may.1) in
    ap is_clear (mark_is old.plain g h at.stands u.0 known) ∙ sym answer

-- what an endpoint of which nothing came back leaves
pub passed_end : {D : Type 0} (replies : D → ℕ → Question → Reply → D → Type 0) (items_used : D → ℕ) (g : Machine) (h : List Entry) (n e : ℕ) (x : Serving PlainSide D) → IsPlainAt x.side g h → e < n
    → ((row : EndRow) (f : Held) (others : List Held) → slice_get x.ends e ≡ Some row → row.clean ≡ true → row.held.items ≡ f ∷ others → is_clear (mark_at x.side f.urb.0) ≡ false → ⊥)
    → (c : Bool) (y : Serving PlainSide D) → PassesEnd PlainFinishes replies items_used e x c y → (y.side ≡ x.side) × ((d : ℕ) → e + 1 ≤ d → slice_get y.ends d ≡ slice_get x.ends d)
passed_end replies items_used g h n e x at l clear _ _ (skips row there_is skipped) = (refl, λ d above. refl)
passed_end replies items_used g h n e x at l clear _ _ (waits v) = (refl, λ d above. set_there x.ends e d _ (λ is. absurd (omega arith)))
passed_end replies items_used g h n e x at l clear _ _ (late code s v finished) = absurd (clear v.row v.first v.others v.at v.clean v.held (late_marked x.side s g h at v.first.urb code finished))
