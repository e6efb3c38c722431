-- Looks, one after another.
use Rattle.std.proofs.Common.{ℕ, ◌≡◌, ◌≢◌, ◌+◌, ◌<◌, Bool, true, false, cond, eqb, Some, List, [], ◌∷◌, ◌++◌, length, take, get_or, refl, sym, ap, ◌∙◌, subst, arith, add-one, ne_eqb, suc, zero}
use Rattle.std.specs.Prelude.{slice_get, slice_set, Contains, All}
use Rattle.std.proofs.lemmas.List.{take_more}
use Rattle.std.proofs.lemmas.Option.{get_or_from_slice_get, slice_get_within, slice_get-get_or, same_Some}
use Rattle.usb_types.specs.declared.urb.UrbId.{UrbId}
use Rattle.usb_types.specs.declared.urb.Why.{Why}
use Rattle.usb_machine.specs.declared.host_answers.Look.{Look}
use Rattle.usb_machine.specs.declared.host_answers.Look.TheVariants.{Clean, Marked, MarkedSoon}
use Rattle.usb_serve.specs.declared.controller.Held.{Held}
use Rattle.usb_serve.specs.Knows.{Knows, IsPending, Keeps, FinishesNone}
use Rattle.usb_serve.specs.declared.controller.EndRow.{EndRow}
use Rattle.usb_serve.specs.Held.{Serving}
use Rattle.usb_serve.specs.Looking.{is_clean, has_reason, first_clean, with_clean, Stays, PassesOver, FindsNone, LooksAtEnd, LooksBelow, SettledAt, one, end}

-- what is pending stays through two calls
pub keeps_then : (a b c : Knows) → ((e : ℕ) → b.pending e ≡ a.pending e) → Keeps a b → Keeps b c → Keeps a c
keeps_then a b c same f g = record {
  layout = g.layout ∙ f.layout;
  sent = λ e v t was is w. let mid = subst (λ (us : List ℕ). Contains us v) (sym (same e)) was in g.sent e v t mid is (f.sent e v t was mid w);
  marks = λ e v was is w. let mid = subst (λ (us : List ℕ). Contains us v) (sym (same e)) was in g.marks e v mid is (f.marks e v was mid w);
}

pub stays_then : (a b c : Knows) → Stays a b → Stays b c → Stays a c
stays_then a b c f g = record {
  pending = λ e. g.pending e ∙ f.pending e;
  keeps = keeps_then a b c f.pending f.keeps g.keeps;
  none = record { none = λ e v was is w. let mid = subst (λ (us : List ℕ). Contains us v) (sym (f.pending e)) was in f.none.none e v was mid (g.none.none e v mid is w) };
  room = λ r. g.room (f.room r);
}

pub stays_at : (a : Knows) → Stays a a
stays_at a = record {
  pending = λ e. refl;
  keeps = record { layout = refl; sent = λ e v t was is w. w; marks = λ e v was is w. w };
  none = record { none = λ e v was is w. w };
  room = λ r. r;
}

pub take_one : {X : Type 0} (xs : List X) (i : ℕ) (x : X) → slice_get xs i ≡ Some x → take (i + 1) xs ≡ take i xs ++ x ∷ []
take_one xs i x at = take_more xs i x (slice_get_within xs i x at) ∙ ap (λ y. take i xs ++ y ∷ []) (get_or_from_slice_get xs i x x at)

-- one URB more was looked at
module _ {S : Type 0} (looks : S → UrbId → Look → S → Type 0) (start : S) (hs : List Held) where
  pub over_one : (place : ℕ) (s t : S) (h : Held) (a : Look) (answers : List Look) → slice_get hs place ≡ Some h → PassesOver looks start (take place hs) answers s → looks s h.urb a t → has_reason a ≡ false
      → PassesOver looks start (take (place + 1) hs) (answers ++ a ∷ []) t
  over_one place s t h a answers at passed look off = subst (λ l. PassesOver looks start l (answers ++ a ∷ []) t) (sym (take_one hs place h at)) (one (take place hs) answers s h a t passed look off)

-- whether the first look was clean
pub clean_one : (answers : List Look) (place : ℕ) (clean : Bool) (a : Look) → length answers ≡ place → clean ≡ first_clean answers → cond (eqb place 0) (is_clean a) clean ≡ first_clean (answers ++ a ∷ [])
clean_one [] place clean a long is = ap (λ n. cond (eqb n 0) (is_clean a) clean) (sym long)
clean_one (b ∷ answers) place clean a long is = let off : place ≢ 0 = omega arith in ap (λ t. cond t (is_clean a) clean) (ne_eqb place 0 off) ∙ is

-- a look with a reason names it
pub answered : (a : Look) → has_reason a ≡ true → (why : Why) × (a ≡ Marked why)
answered Clean is = cc
answered (Marked why) is = (why, refl)
answered MarkedSoon is = cc

pub all_at : {X : Type 0} (P : X → Type 0) (xs : List X) (i : ℕ) (x : X) → slice_get xs i ≡ Some x → All P xs → P x
all_at P xs i x at all = subst P (get_or_from_slice_get xs i x x at) (all i x (slice_get_within xs i x at))

-- what the side finished of what is pending it had finished before
pub still_unfinished : (a b : Knows) (u : ℕ) → Stays a b → IsPending a u → (a.is_finished u → ⊥) → b.is_finished u → ⊥
still_unfinished a b u s p off is = off (s.none.none p.0 u p.1 (subst (λ (us : List ℕ). Contains us u) (sym (s.pending p.0)) p.1) is)

pub look_stays : (a b : Knows) → ((e : ℕ) → b.pending e ≡ a.pending e) → Keeps a b → FinishesNone a b → (a.may_give → b.may_give) → Stays a b
look_stays a b pending keeps none room = record { pending = pending; keeps = keeps; none = none; room = room }

-- the row that an index gave
pub row_is : {X : Type 0} (xs : List X) (i : ℕ) (x : X) → i < length xs → x ≡ get_or xs i x → slice_get xs i ≡ Some x
row_is xs i x l is = slice_get-get_or xs i x l ∙ ap Some (sym is)

pub settled_at : (k : Knows) (ends : List EndRow) (e place : ℕ) (row : EndRow) → slice_get ends e ≡ Some row → ((h : Held) → slice_get row.held.items place ≡ Some h → k.is_settled h.urb.0) → SettledAt k ends e place
settled_at k ends e place row at f = λ r h there is. f h (ap (λ (q : EndRow). slice_get q.held.items place) (same_Some row r (sym at ∙ there)) ∙ is)

module _ {S D : Type 0} (looks : S → UrbId → Look → S → Type 0) where
  -- a look at an endpoint found none
  pub looked_none : (e : ℕ) (x : Serving S D) (s : S) (row : EndRow) (clean : Bool) (devices : List D) (ends : List EndRow) → slice_get x.ends e ≡ Some row → FindsNone looks x.side row.held.items clean s
      → devices ≡ x.devices → ends ≡ slice_set x.ends e (with_clean clean row) → LooksAtEnd looks e x (record { side = s; devices = devices; ends = ends })
  looked_none e x s row clean devices ends at finds d is = record { row = row; at = at; clean = clean; finds = finds; is = λ i. record { side = s; devices = d i; ends = is i } }

  -- one endpoint more was looked at
  pub looks_one : (e : ℕ) (x m y : Serving S D) → LooksBelow looks x e m → LooksAtEnd looks e m y → LooksBelow looks x (e + 1) y
  looks_one e x m y below more = subst (λ n. LooksBelow looks x n y) (sym (add-one e)) (end e m y below more)

is_clean_true : (a : Look) → is_clean a ≡ true → a ≡ Clean
is_clean_true Clean is = refl
is_clean_true (Marked why) is = cc
is_clean_true MarkedSoon is = cc

-- where the first URB looked clean, no mark of it was known before
pub clean_step : (a b : Knows) → Stays a b → (hs : List Held) (place : ℕ) (clean : Bool) (x : Look) (h : Held) → slice_get hs place ≡ Some h → IsPending a h.urb.0 → (x ≡ Clean → b.is_marked h.urb.0 → ⊥)
    → ((f : Held) (others : List Held) → clean ≡ true → hs ≡ f ∷ others → a.is_marked f.urb.0 → ⊥)
    → (f : Held) (others : List Held) → cond (eqb place 0) (is_clean x) clean ≡ true → hs ≡ f ∷ others → a.is_marked f.urb.0 → ⊥
clean_step a b stays hs zero clean x h at pending look was f others is first marked =
    let same : f ≡ h = same_Some f h (sym (ap (λ (l : List Held). slice_get l 0) first) ∙ at) in
    let here = subst (λ (q : Held). a.is_marked q.urb.0) same marked in
    look (is_clean_true x is) (stays.keeps.marks pending.0 h.urb.0 pending.1 (subst (λ (us : List ℕ). Contains us h.urb.0) (sym (stays.pending pending.0)) pending.1) here)
clean_step a b stays hs (suc place) clean x h at pending look was f others is first marked =
    let off : suc place ≢ 0 = omega arith in was f others (sym (ap (λ t. cond t (is_clean x) clean) (ne_eqb (suc place) 0 off)) ∙ is) first marked
