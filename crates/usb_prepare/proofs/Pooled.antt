-- A pool of which the first URBs are out.
use Rattle.std.proofs.Common.{ℕ, zero, suc, ◌≡◌, ◌+◌, ◌-◌, ◌<◌, ◌≤◌, true, false, cond, Option, Some, None, List, [], ◌∷◌, ◌++◌, length, map, take, replicate, fold, get_or, refl, sym, ap, ◌∙◌, arith, append_assoc, append-nil, length-append, add-zero}
use Rattle.std.specs.Prelude.{slice_get, slice_set, is_none, option_map, position}
use Rattle.std.specs.List.{list_any, suffix_len}
use Rattle.std.specs.Option.{option_map_or}
use Rattle.std.proofs.Math.Seq.{set-append_seam, take-append_seam}
use Rattle.std.proofs.lemmas.Bool.{lt-ltb}
use Rattle.std.proofs.lemmas.List.{length-map, length-replicate, map-append}
use Rattle.std.proofs.lemmas.List.Sums.{suffix_len_is, sum_by-cons}
use Rattle.usb_types.specs.declared.urb.UrbId.{UrbId}
use Rattle.usb_bind.specs.Pool.{Homes, spare_in, least_in, urb, next_urb, taken, up_to_last}
use Rattle.usb_bind.specs.Probe.{in_slots, all_next, all_taken}
use Rattle.usb_prepare.proofs.Positions.{shifted, position_after}

-- the homes that are out, and after them those that aren't
abbrev pub pool_with : List ℕ → ℕ → Homes
pool_with hs more = map Some hs ++ replicate more None

none_out : (hs : List ℕ) → list_any (is_none {T = ℕ}) (map Some hs) ≡ false
none_out [] = refl
none_out (h ∷ hs) = none_out hs

pub spare_is : (hs : List ℕ) (more : ℕ) → spare_in (pool_with hs more) ≡ more
spare_is [] zero = refl
spare_is [] (suc more) = let rest = spare_is [] more in let sum = sum_by-cons (λ (o : Option ℕ). cond (is_none o) 1 0) None (replicate more None) in omega arith
spare_is (h ∷ hs) more = let rest = spare_is hs more in let sum = sum_by-cons (λ (o : Option ℕ). cond (is_none o) 1 0) (Some h) (pool_with hs more) in omega arith

first_is : (l : List (Option ℕ)) → position is_none (None ∷ l) ≡ Some 0
first_is l = ap (λ b. cond b (Some 0) None) (lt-ltb 0 (length {A = Option ℕ} (None ∷ l)) (omega arith))

least_is : (hs : List ℕ) (more : ℕ) → least_in (pool_with hs (suc more)) ≡ Some (length hs)
least_is hs more = position_after is_none (map Some hs) (replicate (suc more) None) (none_out hs)
    ∙ (ap (shifted (length (map Some hs))) (first_is (replicate more None)) ∙ ap Some (add-zero (length (map Some hs)) ∙ length-map hs Some))

next_is : (hs : List ℕ) (more : ℕ) → next_urb (pool_with hs (suc more)) ≡ Some (urb (length hs))
next_is hs more = ap (option_map urb) (least_is hs more)

pub taken_is : (hs : List ℕ) (more home : ℕ) → taken (pool_with hs (suc more)) home ≡ pool_with (hs ++ home ∷ []) more
taken_is hs more home =
    let rest : List (Option ℕ) = replicate more None in
    ap (λ o. option_map_or (λ n. slice_set (pool_with hs (suc more)) n (Some home)) o (pool_with hs (suc more))) (least_is hs more)
    ∙ (ap (λ n. slice_set (pool_with hs (suc more)) n (Some home)) (sym (length-map hs Some))
    ∙ (set-append_seam (map Some hs) None rest (Some home)
    ∙ (sym (append_assoc (map Some hs) (Some home ∷ []) rest) ∙ ap (λ l. l ++ rest) (sym (map-append Some hs (home ∷ []))))))

-- some more taken one after the other
pub all_out : (hs homes : List ℕ) (room more : ℕ) → room ≡ length homes + more → fold taken (pool_with hs room) homes ≡ pool_with (hs ++ homes) more
all_out hs [] room more e = let same : room ≡ more = omega arith in ap (λ l. pool_with l room) (sym (append-nil hs)) ∙ ap (pool_with (hs ++ [])) same
all_out hs (home ∷ homes) zero more e = absurd (omega arith)
all_out hs (home ∷ homes) (suc room) more e =
    ap (λ pool. fold taken pool homes) (taken_is hs room home)
    ∙ (all_out (hs ++ home ∷ []) homes room more (omega arith) ∙ ap (λ l. pool_with l more) (append_assoc hs (home ∷ []) homes))

-- the slots of a binding
pub slots_out : (n : ℕ) (hs homes : List ℕ) (room more : ℕ) → length homes ≤ n → room ≡ length homes + more → all_taken (pool_with hs room) (in_slots n homes) ≡ pool_with (hs ++ homes) more
slots_out zero hs [] room more few e = let same : room ≡ more = omega arith in ap (λ l. pool_with l room) (sym (append-nil hs)) ∙ ap (pool_with (hs ++ [])) same
slots_out zero hs (home ∷ homes) room more few e = absurd (omega arith)
slots_out (suc n) hs [] room more few e = slots_out n hs [] room more (omega arith) e
slots_out (suc n) hs (home ∷ homes) zero more few e = absurd (omega arith)
slots_out (suc n) hs (home ∷ homes) (suc room) more few e =
    ap (λ pool. all_taken pool (in_slots n homes)) (taken_is hs room home)
    ∙ (slots_out n (hs ++ home ∷ []) homes room more (omega arith) (omega arith) ∙ ap (λ l. pool_with l more) (append_assoc hs (home ∷ []) homes))

inner : (a b : UrbId) → ◌≡◌ {A = Option (Option UrbId)} (Some (Some a)) (Some (Some b)) → a ≡ b
inner a b e = cc

-- each slot with an URB has the next number
pub slot_is : (n : ℕ) (hs homes : List ℕ) (room k : ℕ) (u : UrbId) → length homes ≤ n → length homes ≤ room
    → slice_get (all_next (pool_with hs room) (in_slots n homes)) k ≡ Some (Some u) → (u.0 ≡ length hs + k) × (k < length homes)
slot_is zero hs homes room k u few fits is = cc
slot_is (suc n) hs [] room zero u few fits is = cc
slot_is (suc n) hs [] room (suc k) u few fits is = let none = (slot_is n hs [] room k u (omega arith) fits is).1 in absurd (omega arith)
slot_is (suc n) hs (home ∷ homes) zero k u few fits is = absurd (omega arith)
slot_is (suc n) hs (home ∷ homes) (suc room) zero u few fits is =
    let number : urb (length hs) ≡ u = inner (urb (length hs)) u (sym (ap Some (next_is hs room)) ∙ is) in
    let at = ap (λ (v : UrbId). v.0) number in
    ((omega arith), omega arith)
slot_is (suc n) hs (home ∷ homes) (suc room) (suc k) u few fits is =
    let next = ap (λ pool. slice_get (all_next pool (in_slots n homes)) k) (taken_is hs room home) in
    let rest = slot_is n (hs ++ home ∷ []) homes room k u (omega arith) (omega arith) (sym next ∙ is) in
    let long = length-append hs (home ∷ []) in
    let at = rest.0 in
    let near = rest.1 in
    ((omega arith), omega arith)

-- the homes up to the last that is out
pub up_to_out : (hs : List ℕ) (more : ℕ) → up_to_last (pool_with hs more) ≡ map Some hs
up_to_out hs more =
    let long = length-append (map Some hs) (replicate {A = Option ℕ} more None) in
    let hs_long = length-map hs Some in
    let more_long = length-replicate {A = Option ℕ} more None in
    let suffix : suffix_len is_none (pool_with hs more) ≡ length (pool_with hs more) - length (map Some hs) = suffix_len_is is_none (pool_with hs more) (length (map Some hs)) None (omega arith) behind before in
    let count : length (pool_with hs more) - suffix_len is_none (pool_with hs more) ≡ length (map Some hs) = omega arith in
    ap (λ n. take n (pool_with hs more)) count ∙ take-append_seam (map Some hs) (replicate more None)
  where
    behind : (k : ℕ) → length (map Some hs) ≤ k → k < length (pool_with hs more) → is_none (get_or (pool_with hs more) k None) ≡ true
    behind k l m = go hs k l
      where
        free : (more k : ℕ) → is_none {T = ℕ} (get_or (replicate more None) k None) ≡ true
        free zero k = refl
        free (suc more) zero = refl
        free (suc more) (suc k) = free more k

        go : (hs : List ℕ) (k : ℕ) → length (map Some hs) ≤ k → is_none (get_or (pool_with hs more) k None) ≡ true
        go [] k l = free more k
        go (h ∷ hs) zero l = absurd (omega arith)
        go (h ∷ hs) (suc k) l = go hs k (omega arith)

    last : (hs : List ℕ) (k : ℕ) → suc k ≡ length (map Some hs) → is_none (get_or (pool_with hs more) k None) ≡ false
    last [] k l = absurd (omega arith)
    last (h ∷ hs) zero l = refl
    last (h ∷ hs) (suc k) l = last hs k (omega arith)

    before : 0 < length (map Some hs) → is_none (get_or (pool_with hs more) (length (map Some hs) - 1) None) ≡ false
    before l = last hs (length (map Some hs) - 1) (omega arith)
