-- Notifications of a stream: one more, and what comes after it.
use Rattle.std.proofs.Common.{◌≡◌, ℕ, zero, suc, ◌+◌, ◌-◌, ◌<◌, ◌≤◌, Bool, true, false, cond, List, [], ◌∷◌, ◌++◌, length, take, drop, refl, sym, ap, ◌∙◌, subst, append_assoc, eqb-true, arith}
use Rattle.std.specs.Prelude.{◌==◌, ◌&&◌, nat_le, nat_lt, slice_index}
use Rattle.std.proofs.lemmas.Bool.{leb-true, leb-false, le-leb, and_parts, and_from}
use Rattle.std.proofs.lemmas.List.{append-nil, length-drop, length-append, get_or_append_left, drop-append-le, drop-drop, take_all}
use Rattle.std.proofs.Math.Seq.{drop-append_seam}
use Rattle.usb_ctrl.specs.Setup.{word}
use Rattle.usb_acm.specs.declared.event.Event.{Event}
use Rattle.usb_acm.specs.declared.event.Event.TheVariants.{State, Note, BadNote}
use Rattle.usb_acm.specs.Notifications.{data_length, note_length, is_whole, event_of, notes_within, behind_within, notes, unfinished}
use Rattle.usb_acm.specs.Serial.{notes_more}

length_bounds : (d : ℕ) (b : Bool) → nat_lt 64 d ≡ b → (8 ≤ cond (nat_lt 64 d) 8 (8 + d)) × (cond (nat_lt 64 d) 8 (8 + d) ≤ 72)
length_bounds d true e = let P : Bool → Type 0 = λ b. (8 ≤ cond b 8 (8 + d)) × (cond b 8 (8 + d) ≤ 72) in subst P (sym e) (omega arith, omega arith)
length_bounds d false e =
    let l : d < 65 = leb-false 65 d e in
    let P : Bool → Type 0 = λ b. (8 ≤ cond b 8 (8 + d)) × (cond b 8 (8 + d) ≤ 72) in
    subst P (sym e) (omega arith, omega arith)

pub note_length-least : (s : List ℕ) → 8 ≤ note_length s
note_length-least s = (length_bounds (data_length s) (nat_lt 64 (data_length s)) refl).0

pub note_length-most : (s : List ℕ) → note_length s ≤ 72
note_length-most s = (length_bounds (data_length s) (nat_lt 64 (data_length s)) refl).1

pub whole-head : (s : List ℕ) → is_whole s ≡ true → 8 ≤ length s
whole-head s e = leb-true 8 (length s) (and_parts (nat_le 8 (length s)) (nat_le (note_length s) (length s)) e).0

pub whole-all : (s : List ℕ) → is_whole s ≡ true → note_length s ≤ length s
whole-all s e = leb-true (note_length s) (length s) (and_parts (nat_le 8 (length s)) (nat_le (note_length s) (length s)) e).1

notes_within-whole : (n : ℕ) (s : List ℕ) → is_whole s ≡ true → notes_within (suc n) s ≡ event_of s ∷ notes_within n (drop (note_length s) s)
unfolding notes_within
notes_within-whole n s e = ap (λ (b : Bool). cond b (event_of s ∷ notes_within n (drop (note_length s) s)) []) e

behind_within-whole : (n : ℕ) (s : List ℕ) → is_whole s ≡ true → behind_within (suc n) s ≡ behind_within n (drop (note_length s) s)
unfolding behind_within
behind_within-whole n s e = ap (λ (b : Bool). cond b (behind_within n (drop (note_length s) s)) s) e

notes_within-none : (n : ℕ) (s : List ℕ) → is_whole s ≡ false → notes_within n s ≡ []
unfolding notes_within
notes_within-none zero s e = refl
notes_within-none (suc n) s e = ap (λ (b : Bool). cond b (event_of s ∷ notes_within n (drop (note_length s) s)) []) e

behind_within-none : (n : ℕ) (s : List ℕ) → is_whole s ≡ false → behind_within n s ≡ s
unfolding behind_within
behind_within-none zero s e = refl
behind_within-none (suc n) s e = ap (λ (b : Bool). cond b (behind_within n (drop (note_length s) s)) s) e

-- what follows a notification is shorter
pub shorter : (n : ℕ) (s : List ℕ) → is_whole s ≡ true → length s ≤ suc n → length (drop (note_length s) s) ≤ n
shorter n s e l =
    let h : length (drop (note_length s) s) ≡ length s - note_length s = length-drop (note_length s) s in
    let k : 8 ≤ note_length s = note_length-least s in
    let w : 8 ≤ length s = whole-head s e in
    omega arith

-- any number that is no less than the bytes reports all
notes_within-enough : (n m : ℕ) (s : List ℕ) → length s ≤ n → length s ≤ m → notes_within n s ≡ notes_within m s
notes_within-enough n m s l k = go n m s l k (is_whole s) refl
  where
    go : (n m : ℕ) (s : List ℕ) → length s ≤ n → length s ≤ m → (b : Bool) → is_whole s ≡ b → notes_within n s ≡ notes_within m s
    go n m s l k false e = notes_within-none n s e ∙ sym (notes_within-none m s e)
    go zero m s l k true e = let w : 8 ≤ length s = whole-head s e in absurd (omega arith)
    go (suc n) zero s l k true e = let w : 8 ≤ length s = whole-head s e in absurd (omega arith)
    go (suc n) (suc m) s l k true e =
        notes_within-whole n s e
        ∙ ap (λ (es : List Event). event_of s ∷ es) (go n m (drop (note_length s) s) (shorter n s e l) (shorter m s e k) (is_whole (drop (note_length s) s)) refl)
        ∙ sym (notes_within-whole m s e)

behind_within-enough : (n m : ℕ) (s : List ℕ) → length s ≤ n → length s ≤ m → behind_within n s ≡ behind_within m s
behind_within-enough n m s l k = go n m s l k (is_whole s) refl
  where
    go : (n m : ℕ) (s : List ℕ) → length s ≤ n → length s ≤ m → (b : Bool) → is_whole s ≡ b → behind_within n s ≡ behind_within m s
    go n m s l k false e = behind_within-none n s e ∙ sym (behind_within-none m s e)
    go zero m s l k true e = let w : 8 ≤ length s = whole-head s e in absurd (omega arith)
    go (suc n) zero s l k true e = let w : 8 ≤ length s = whole-head s e in absurd (omega arith)
    go (suc n) (suc m) s l k true e =
        behind_within-whole n s e
        ∙ go n m (drop (note_length s) s) (shorter n s e l) (shorter m s e k) (is_whole (drop (note_length s) s)) refl
        ∙ sym (behind_within-whole m s e)

one_byte : (s : List ℕ) → is_whole s ≡ true → length s ≡ suc (length s - 1)
one_byte s e = let w : 8 ≤ length s = whole-head s e in omega arith

-- a whole notification is reported, and the stream goes on after it
pub notes-whole : (s : List ℕ) → is_whole s ≡ true → notes s ≡ event_of s ∷ notes (drop (note_length s) s)
unfolding notes
notes-whole s e =
    let l : length s ≤ suc (length s - 1) = omega arith in
    ap (λ (n : ℕ). notes_within n s) (one_byte s e)
    ∙ notes_within-whole (length s - 1) s e
    ∙ ap (λ (es : List Event). event_of s ∷ es) (notes_within-enough (length s - 1) (length (drop (note_length s) s)) (drop (note_length s) s) (shorter (length s - 1) s e l) (omega arith))

pub unfinished-whole : (s : List ℕ) → is_whole s ≡ true → unfinished s ≡ unfinished (drop (note_length s) s)
unfolding unfinished
unfinished-whole s e =
    let l : length s ≤ suc (length s - 1) = omega arith in
    ap (λ (n : ℕ). behind_within n s) (one_byte s e)
    ∙ behind_within-whole (length s - 1) s e
    ∙ behind_within-enough (length s - 1) (length (drop (note_length s) s)) (drop (note_length s) s) (shorter (length s - 1) s e l) (omega arith)

-- an unfinished one reports nothing, and stays
pub notes-none : (s : List ℕ) → is_whole s ≡ false → notes s ≡ []
unfolding notes
notes-none s e = notes_within-none (length s) s e

pub unfinished-none : (s : List ℕ) → is_whole s ≡ false → unfinished s ≡ s
unfolding unfinished
unfinished-none s e = behind_within-none (length s) s e

-- bytes after a notification do not change it
data_length-append : (s t : List ℕ) → 8 ≤ length s → data_length (s ++ t) ≡ data_length s
data_length-append s t l =
    ap (λ (n : ℕ). word n (slice_index (s ++ t) 7)) (get_or_append_left s t 0 6 (omega arith))
    ∙ ap (λ (n : ℕ). word (slice_index s 6) n) (get_or_append_left s t 0 7 (omega arith))

note_length-append : (s t : List ℕ) → 8 ≤ length s → note_length (s ++ t) ≡ note_length s
note_length-append s t l = ap (λ (d : ℕ). cond (nat_lt 64 d) 8 (8 + d)) (data_length-append s t l)

whole-append : (s t : List ℕ) → is_whole s ≡ true → is_whole (s ++ t) ≡ true
whole-append s t e =
    let w : 8 ≤ length s = whole-head s e in
    let a : note_length s ≤ length s = whole-all s e in
    let n : note_length (s ++ t) ≡ note_length s = note_length-append s t w in
    let l : length (s ++ t) ≡ length s + length t = length-append s t in
    and_from (nat_le 8 (length (s ++ t))) (nat_le (note_length (s ++ t)) (length (s ++ t)))
    (le-leb 8 (length (s ++ t)) (omega arith)) (le-leb (note_length (s ++ t)) (length (s ++ t)) (omega arith))

event_of-append : (s t : List ℕ) → is_whole s ≡ true → event_of (s ++ t) ≡ event_of s
event_of-append s t e =
    let w : 8 ≤ length s = whole-head s e in
    ap (λ (n : ℕ). told n (slice_index (s ++ t) 1) (data_length (s ++ t)) (slice_index (s ++ t) 8) (slice_index (s ++ t) 9)) (get_or_append_left s t 0 0 (omega arith))
    ∙ ap (λ (n : ℕ). told (slice_index s 0) n (data_length (s ++ t)) (slice_index (s ++ t) 8) (slice_index (s ++ t) 9)) (get_or_append_left s t 0 1 (omega arith))
    ∙ ap (λ (n : ℕ). told (slice_index s 0) (slice_index s 1) n (slice_index (s ++ t) 8) (slice_index (s ++ t) 9)) (data_length-append s t w)
    ∙ go (nat_lt 64 (data_length s)) refl (((slice_index s 0 == 0xA1) && (slice_index s 1 == 0x20)) && (data_length s == 2)) refl
  where
    told : ℕ → ℕ → ℕ → ℕ → ℕ → Event
    told a b d l h = cond (nat_lt 64 d) BadNote (cond (((a == 0xA1) && (b == 0x20)) && (d == 2)) (State (word l h)) (Note b))

    lines : nat_lt 64 (data_length s) ≡ false → (((slice_index s 0 == 0xA1) && (slice_index s 1 == 0x20)) && (data_length s == 2)) ≡ true → 10 ≤ length s
    lines f k =
        let d : data_length s ≡ 2 = eqb-true (data_length s) 2 (and_parts ((slice_index s 0 == 0xA1) && (slice_index s 1 == 0x20)) (data_length s == 2) k).1 in
        let n : note_length s ≡ 10 = ap (λ (x : ℕ). cond (nat_lt 64 x) 8 (8 + x)) d in
        let a : note_length s ≤ length s = whole-all s e in
        omega arith

    go : (b : Bool) → nat_lt 64 (data_length s) ≡ b → (c : Bool) → (((slice_index s 0 == 0xA1) && (slice_index s 1 == 0x20)) && (data_length s == 2)) ≡ c
        → told (slice_index s 0) (slice_index s 1) (data_length s) (slice_index (s ++ t) 8) (slice_index (s ++ t) 9) ≡ told (slice_index s 0) (slice_index s 1) (data_length s) (slice_index s 8) (slice_index s 9)
    go true f c k =
        ap (λ (b : Bool). cond b BadNote (cond (((slice_index s 0 == 0xA1) && (slice_index s 1 == 0x20)) && (data_length s == 2)) (State (word (slice_index (s ++ t) 8) (slice_index (s ++ t) 9))) (Note (slice_index s 1)))) f
        ∙ sym (ap (λ (b : Bool). cond b BadNote (cond (((slice_index s 0 == 0xA1) && (slice_index s 1 == 0x20)) && (data_length s == 2)) (State (word (slice_index s 8) (slice_index s 9))) (Note (slice_index s 1)))) f)
    go false f false k =
        ap (λ (b : Bool). cond (nat_lt 64 (data_length s)) BadNote (cond b (State (word (slice_index (s ++ t) 8) (slice_index (s ++ t) 9))) (Note (slice_index s 1)))) k
        ∙ sym (ap (λ (b : Bool). cond (nat_lt 64 (data_length s)) BadNote (cond b (State (word (slice_index s 8) (slice_index s 9))) (Note (slice_index s 1)))) k)
    go false f true k =
        let m : 10 ≤ length s = lines f k in
        ap (λ (n : ℕ). told (slice_index s 0) (slice_index s 1) (data_length s) n (slice_index (s ++ t) 9)) (get_or_append_left s t 0 8 (omega arith))
        ∙ ap (λ (n : ℕ). told (slice_index s 0) (slice_index s 1) (data_length s) (slice_index s 8) n) (get_or_append_left s t 0 9 (omega arith))

drop-append : (s t : List ℕ) → is_whole s ≡ true → drop (note_length (s ++ t)) (s ++ t) ≡ drop (note_length s) s ++ t
drop-append s t e =
    ap (λ (n : ℕ). drop n (s ++ t)) (note_length-append s t (whole-head s e)) ∙ drop-append-le (note_length s) s t (whole-all s e)

notes_step : (s t : List ℕ) → is_whole s ≡ true → notes (s ++ t) ≡ event_of s ∷ notes (drop (note_length s) s ++ t)
notes_step s t e =
    notes-whole (s ++ t) (whole-append s t e)
    ∙ ap (λ (x : Event). x ∷ notes (drop (note_length (s ++ t)) (s ++ t))) (event_of-append s t e)
    ∙ ap (λ (xs : List ℕ). event_of s ∷ notes xs) (drop-append s t e)

unfinished_step : (s t : List ℕ) → is_whole s ≡ true → unfinished (s ++ t) ≡ unfinished (drop (note_length s) s ++ t)
unfinished_step s t e = unfinished-whole (s ++ t) (whole-append s t e) ∙ ap unfinished (drop-append s t e)

-- what follows is read after the unfinished one
pub notes-append : (s t : List ℕ) → notes (s ++ t) ≡ notes s ++ notes (unfinished s ++ t)
notes-append s t = go (length s) s (omega arith) (is_whole s) refl
  where
    go : (n : ℕ) (s : List ℕ) → length s ≤ n → (b : Bool) → is_whole s ≡ b → notes (s ++ t) ≡ notes s ++ notes (unfinished s ++ t)
    go n s l false e =
        sym (ap (λ (xs : List Event). xs ++ notes (unfinished s ++ t)) (notes-none s e) ∙ ap (λ (xs : List ℕ). notes (xs ++ t)) (unfinished-none s e))
    go zero s l true e = let w : 8 ≤ length s = whole-head s e in absurd (omega arith)
    go (suc n) s l true e =
        notes_step s t e
        ∙ ap (λ (es : List Event). event_of s ∷ es) (go n (drop (note_length s) s) (shorter n s e l) (is_whole (drop (note_length s) s)) refl)
        ∙ sym (ap (λ (xs : List Event). xs ++ notes (unfinished s ++ t)) (notes-whole s e)
        ∙ ap (λ (xs : List ℕ). (event_of s ∷ notes (drop (note_length s) s)) ++ notes (xs ++ t)) (unfinished-whole s e))

pub unfinished-append : (s t : List ℕ) → unfinished (s ++ t) ≡ unfinished (unfinished s ++ t)
unfinished-append s t = go (length s) s (omega arith) (is_whole s) refl
  where
    go : (n : ℕ) (s : List ℕ) → length s ≤ n → (b : Bool) → is_whole s ≡ b → unfinished (s ++ t) ≡ unfinished (unfinished s ++ t)
    go n s l false e = sym (ap (λ (xs : List ℕ). unfinished (xs ++ t)) (unfinished-none s e))
    go zero s l true e = let w : 8 ≤ length s = whole-head s e in absurd (omega arith)
    go (suc n) s l true e =
        unfinished_step s t e
        ∙ go n (drop (note_length s) s) (shorter n s e l) (is_whole (drop (note_length s) s)) refl
        ∙ sym (ap (λ (xs : List ℕ). unfinished (xs ++ t)) (unfinished-whole s e))

-- what moved bytes bring to its end
pub notes_more-part : (s t : List ℕ) → notes_more s t ≡ notes (unfinished s ++ t)
unfolding notes_more
notes_more-part s t = ap (λ (es : List Event). drop (length (notes s)) es) (notes-append s t) ∙ drop-append_seam (notes s) (notes (unfinished s ++ t))

pub notes_more-append : (s t u : List ℕ) → notes_more s (t ++ u) ≡ notes_more s t ++ notes_more (s ++ t) u
notes_more-append s t u =
    notes_more-part s (t ++ u)
    ∙ ap notes (sym (append_assoc (unfinished s) t u))
    ∙ notes-append (unfinished s ++ t) u
    ∙ ap (λ (xs : List ℕ). notes (unfinished s ++ t) ++ notes (xs ++ u)) (sym (unfinished-append s t))
    ∙ ap (λ (es : List Event). es ++ notes (unfinished (s ++ t) ++ u)) (sym (notes_more-part s t))
    ∙ ap (λ (es : List Event). notes_more s t ++ es) (sym (notes_more-part (s ++ t) u))

-- what is kept is no whole one, so it is short
pub unfinished-not_whole : (s : List ℕ) → is_whole (unfinished s) ≡ false
unfinished-not_whole s = go (length s) s (omega arith) (is_whole s) refl
  where
    go : (n : ℕ) (s : List ℕ) → length s ≤ n → (b : Bool) → is_whole s ≡ b → is_whole (unfinished s) ≡ false
    go n s l false e = ap is_whole (unfinished-none s e) ∙ e
    go zero s l true e = let w : 8 ≤ length s = whole-head s e in absurd (omega arith)
    go (suc n) s l true e = ap is_whole (unfinished-whole s e) ∙ go n (drop (note_length s) s) (shorter n s e l) (is_whole (drop (note_length s) s)) refl

short : (s : List ℕ) → is_whole s ≡ false → length s < 72
short s e = go (nat_le 8 (length s)) refl (nat_le (note_length s) (length s)) refl
  where
    go : (b : Bool) → nat_le 8 (length s) ≡ b → (c : Bool) → nat_le (note_length s) (length s) ≡ c → length s < 72
    go false f c k = let l : length s < 8 = leb-false 8 (length s) f in omega arith
    go true f false k =
        let l : length s < note_length s = leb-false (note_length s) (length s) k in
        let m : note_length s ≤ 72 = note_length-most s in
        omega arith
    go true f true k = let w : is_whole s ≡ true = and_from (nat_le 8 (length s)) (nat_le (note_length s) (length s)) f k in absurd cc

pub unfinished-short : (s : List ℕ) → length (unfinished s) < 72
unfinished-short s = short (unfinished s) (unfinished-not_whole s)

-- a slice to the end is what follows its beginning
pub to_the_end : (at : ℕ) (s : List ℕ) → take (length s - at) (drop at s) ≡ drop at s
to_the_end at s = let l : length (drop at s) ≡ length s - at = length-drop at s in take_all (length s - at) (drop at s) (omega arith)

-- one notification more of a stream that is read from `at` on
pub within_more : (s stream : List ℕ) (at n : ℕ) (whole : Bool) → stream ≡ drop at s → at ≤ length s → whole ≡ is_whole stream → whole ≡ true → n ≡ note_length stream → at + n ≤ length s
within_more s stream at n whole e l w t k =
    let a : note_length stream ≤ length stream = whole-all stream (sym w ∙ t) in
    let d : length stream ≡ length s - at = ap length e ∙ length-drop at s in
    omega arith

pub told_more : (s stream : List ℕ) (at n : ℕ) (whole : Bool) (event : Event) (first now next : List Event)
    → stream ≡ drop at s → whole ≡ is_whole stream → whole ≡ true → n ≡ note_length stream → event ≡ event_of stream → next ≡ now ++ event ∷ []
    → ((told : List Event) × (now ≡ first ++ told) × (notes s ≡ told ++ notes (drop at s)))
    → (told : List Event) × (next ≡ first ++ told) × (notes s ≡ told ++ notes (drop (at + n) s))
told_more s stream at n whole event first now next e w t k v x told = (
  told.0 ++ event ∷ [],
  x ∙ ap (λ (es : List Event). es ++ event ∷ []) told.1 ∙ append_assoc first told.0 (event ∷ []),
  told.2
      ∙ ap (λ (xs : List ℕ). told.0 ++ notes xs) (sym e)
      ∙ ap (λ (es : List Event). told.0 ++ es) (notes-whole stream (sym w ∙ t))
      ∙ ap (λ (y : Event). told.0 ++ y ∷ notes (drop (note_length stream) stream)) (sym v)
      ∙ ap (λ (m : ℕ). told.0 ++ event ∷ notes (drop m stream)) (sym k)
      ∙ ap (λ (xs : List ℕ). told.0 ++ event ∷ notes (drop n xs)) e
      ∙ ap (λ (xs : List ℕ). told.0 ++ event ∷ notes xs) (drop-drop n at s)
      ∙ sym (append_assoc told.0 (event ∷ []) (notes (drop (at + n) s))),
)

pub behind_more : (s stream : List ℕ) (at n : ℕ) (whole : Bool) → stream ≡ drop at s → whole ≡ is_whole stream → whole ≡ true → n ≡ note_length stream
    → unfinished s ≡ unfinished (drop at s) → unfinished s ≡ unfinished (drop (at + n) s)
behind_more s stream at n whole e w t k h =
    h
    ∙ ap unfinished (sym e)
    ∙ unfinished-whole stream (sym w ∙ t)
    ∙ ap (λ (m : ℕ). unfinished (drop m stream)) (sym k)
    ∙ ap (λ (xs : List ℕ). unfinished (drop n xs)) e
    ∙ ap unfinished (drop-drop n at s)

-- nothing whole is left after `at`
pub told_all : (s stream : List ℕ) (at : ℕ) (whole : Bool) (first now : List Event) → stream ≡ drop at s → whole ≡ is_whole stream → whole ≡ false
    → ((told : List Event) × (now ≡ first ++ told) × (notes s ≡ told ++ notes (drop at s))) → now ≡ first ++ notes s
told_all s stream at whole first now e w f told =
    told.1
    ∙ ap (λ (es : List Event). first ++ es) (sym (append-nil told.0))
    ∙ ap (λ (es : List Event). first ++ (told.0 ++ es)) (sym (ap notes (sym e) ∙ notes-none stream (sym w ∙ f)))
    ∙ ap (λ (es : List Event). first ++ es) (sym told.2)

pub behind_all : (s stream : List ℕ) (at : ℕ) (whole : Bool) → stream ≡ drop at s → whole ≡ is_whole stream → whole ≡ false
    → unfinished s ≡ unfinished (drop at s) → drop at s ≡ unfinished s
behind_all s stream at whole e w f h = sym (h ∙ ap unfinished (sym e) ∙ unfinished-none stream (sym w ∙ f) ∙ e)
