-- The heap of the numbers that aren't out.
use Rattle.std.proofs.Common.{◌≡◌, ◌≢◌, ℕ, ◌+◌, ◌<◌, ◌≤◌, ◌^◌, Bool, true, false, cond, List, [], ◌∷◌, length, get_or, set, replicate, Option, Ordering, Some, None, zero, suc, refl, sym, ap, ◌∙◌, arith, length-set}
use Rattle.std.specs.Prelude.{Result, Ok, Err, IsOk, OnOk, ◌==◌, nat_lt, is_none, option_map, IsPermutation}
use Rattle.std.specs.List.{position_or_len}
use Rattle.std.specs.Ordering.{nat_cmp, is_lt}
use Rattle.std.specs.BinaryHeap.{IsHeap, IsUpperBound}
use Rattle.std.specs.declared.cmp.Reverse.{Reverse}
use Rattle.std.proofs.lemmas.Bool.{eqb-true, eqb-false, eq-eqb, ltb-true, ltb-false, lt-ltb, le-ltb, ne_eqb, true≢false, false≢true}
use Rattle.std.proofs.lemmas.Bool.Decides.{nat_tests}
use Rattle.std.proofs.lemmas.List.{get_or-set_same, get_or-set_other, get_or-replicate, get_or_past, length-replicate}
use Rattle.std.proofs.lemmas.List.Sums.{sum_by-cons, sum_by-set, count_by-le-length, position_or_len_is}
use Rattle.std.proofs.lemmas.List.Folds.{sum_by-replicate}
use Rattle.std.proofs.lemmas.List.Sorted.{sum_by_pushed, sum_by_popped, length_permutation}
use Rattle.usb_bind.specs.Pool.{Homes, spare_in, least_in, next_urb, taken, urb, is_out, is_spare, times, HoldsSpare}
use Rattle.std.specs.Option.{option_map_or}

abbrev pub one_if : Bool → ℕ
one_if t = cond t 1 0

abbrev pub by_least : Reverse ℕ → Reverse ℕ → Ordering
by_least x y = nat_cmp y.0 x.0

pub spare_below : (pool : Homes) (n : ℕ) → is_spare pool n ≡ true → n < length pool
spare_below [] n h = absurd cc
spare_below (x ∷ pool) zero h = omega arith
spare_below (x ∷ pool) (suc n) h = omega (arith, spare_below pool n h)

pub out_below : (pool : Homes) (n : ℕ) → is_out pool n ≡ true → n < length pool
out_below [] n h = absurd cc
out_below (x ∷ pool) zero h = omega arith
out_below (x ∷ pool) (suc n) h = omega (arith, out_below pool n h)

pub out_not_spare : (pool : Homes) (n : ℕ) → is_out pool n ≡ true → is_spare pool n ≡ false
out_not_spare [] n h = refl
out_not_spare (None ∷ pool) zero h = absurd cc
out_not_spare (Some x ∷ pool) zero h = refl
out_not_spare (x ∷ pool) (suc n) h = out_not_spare pool n h

-- none is spare
all_out : (pool : Homes) → spare_in pool ≡ 0 → position_or_len is_none pool ≡ length pool
all_out [] h = refl
all_out (None ∷ pool) h = absurd (omega (arith, sum_by-cons (λ (x : Option ℕ). one_if (is_none x)) None pool))
all_out (Some x ∷ pool) h =
    omega (arith, all_out pool (omega (arith, sum_by-cons (λ (x : Option ℕ). one_if (is_none x)) (Some x) pool)))

pub none_least : (pool : Homes) → spare_in pool ≡ 0 → least_in pool ≡ None
none_least pool h =
    let past : nat_lt (length pool) (length pool) ≡ false = le-ltb (length pool) (length pool) (omega arith) in
    rw (all_out pool h, past) refl

least_is : (pool : Homes) (n : ℕ) → is_spare pool n ≡ true → ((k : ℕ) → k < n → is_spare pool k ≡ false) → least_in pool ≡ Some n
least_is pool n here before =
    let below = spare_below pool n here in
    let is = position_or_len_is is_none pool n (Some 0) (omega arith) before (λ _. here) in
    rw (is, lt-ltb n (length pool) below) refl

spare_from_times : (t : Bool) (count : ℕ) → count ≡ one_if t → 0 < count → t ≡ true
spare_from_times true count is more = refl
spare_from_times false count is more = absurd (omega arith)

not_spare_from_times : (t : Bool) (count : ℕ) → count ≡ one_if t → count ≡ 0 → t ≡ false
not_spare_from_times true count is none = absurd (omega arith)
not_spare_from_times false count is none = refl

one_at : (n : ℕ) → one_if (n == n) ≡ 1
one_at n = rw (eq-eqb n n refl) refl

-- what a pop takes from the heap
times_popped : (n : ℕ) (x : Reverse ℕ) (heap rest : List (Reverse ℕ)) → IsPermutation heap (x ∷ rest)
    → times n rest + one_if (x.0 == n) ≡ times n heap
times_popped n x heap rest p = sum_by_popped (λ (r : Reverse ℕ). one_if (r.0 == n)) x heap rest p

times_pushed : (n : ℕ) (x : Reverse ℕ) (heap more : List (Reverse ℕ)) → IsPermutation (x ∷ heap) more
    → times n more ≡ one_if (x.0 == n) + times n heap
times_pushed n x heap more p = sum_by_pushed (λ (r : Reverse ℕ). one_if (r.0 == n)) x heap more p

pub popped_spare : (pool : Homes) (capacity : ℕ) (x : Reverse ℕ) (heap rest : List (Reverse ℕ)) → HoldsSpare pool heap capacity
    → IsPermutation heap (x ∷ rest) → is_spare pool x.0 ≡ true
popped_spare pool capacity x heap rest holds p =
    spare_from_times (is_spare pool x.0) (times x.0 heap) (holds.each x.0) (omega (arith, times_popped x.0 x heap rest p, one_at x.0))

pub popped_below : (pool : Homes) (capacity : ℕ) (x : Reverse ℕ) (heap rest : List (Reverse ℕ)) → HoldsSpare pool heap capacity
    → IsPermutation heap (x ∷ rest) → x.0 < length pool
popped_below pool capacity x heap rest holds p = spare_below pool x.0 (popped_spare pool capacity x heap rest holds p)

no_less : (x y : ℕ) (t : Bool) → nat_lt y x ≡ t → is_lt (nat_cmp y x) ≡ false → x ≤ y
no_less x y true e h = absurd (true≢false (rw e at h))
no_less x y false e h = ltb-false y x e

none_below : (x : Reverse ℕ) (rest : List (Reverse ℕ)) (k : ℕ) → k < x.0 → IsUpperBound by_least x rest → times k rest ≡ 0
none_below x [] k h all = refl
none_below x (y ∷ rest) k h all =
    let above : x.0 ≤ y.0 = no_less x.0 y.0 (nat_lt y.0 x.0) refl all.0 in
    let other : (y.0 == k) ≡ false = ne_eqb y.0 k (λ same. omega arith) in
    sum_by-cons (λ (r : Reverse ℕ). one_if (r.0 == k)) y rest ∙ rw (other, none_below x rest k h all.1) refl

-- the number that a pop gives is the least that isn't out
pub popped_least : (pool : Homes) (capacity : ℕ) (x : Reverse ℕ) (heap rest : List (Reverse ℕ)) → HoldsSpare pool heap capacity
    → IsPermutation heap (x ∷ rest) → IsUpperBound by_least x rest → least_in pool ≡ Some x.0
popped_least pool capacity x heap rest holds p bound =
    least_is pool x.0 (popped_spare pool capacity x heap rest holds p)
    (λ k below. let other : (x.0 == k) ≡ false = ne_eqb x.0 k (λ same. omega arith) in
    not_spare_from_times (is_spare pool k) (times k heap) (holds.each k)
    (sym (times_popped k x heap rest p) ∙ rw (other, none_below x rest k below bound) refl))

-- the URB that was taken is out
taken_each : (pool : Homes) (home n k : ℕ) (t : Bool) (before after : ℕ) → n < length pool → (n == k) ≡ t → after + one_if t ≡ before
    → before ≡ one_if (is_spare pool k) → is_spare pool n ≡ true → after ≡ one_if (is_spare (set pool n (Some home)) k)
taken_each pool home n k true before after h e count is here =
    let same : n ≡ k = eqb-true n k e in
    let at : get_or (set pool n (Some home)) k (Some 0) ≡ Some home = ap (λ k. get_or (set pool n (Some home)) k (Some 0)) (sym same) ∙ get_or-set_same pool n (Some home) (Some 0) h in
    let spare : is_spare pool k ≡ true = ap (is_spare pool) (sym same) ∙ here in
    let one : before ≡ 1 = is ∙ rw spare refl in
    rw at (omega arith)
taken_each pool home n k false before after h e count is here =
    let other : k ≢ n = λ same. eqb-false n k e (sym same) in
    rw (get_or-set_other pool n k (Some home) (Some 0) other) (omega (arith, is))

pub held_taken : (pool : Homes) (home capacity : ℕ) (x : Reverse ℕ) (heap rest : List (Reverse ℕ)) → HoldsSpare pool heap capacity
    → IsPermutation heap (x ∷ rest) → IsHeap by_least rest → HoldsSpare (set pool x.0 (Some home)) rest capacity
held_taken pool home capacity x heap rest holds p order =
    let here = popped_spare pool capacity x heap rest holds p in
    let below = spare_below pool x.0 here in
    let long = length-set pool x.0 (Some home) in
    let was : one_if (is_none (get_or pool x.0 (Some 0))) ≡ 1 = rw here refl in
    let less = sum_by-set (λ (y : Option ℕ). one_if (is_none y)) pool x.0 (Some home) (Some 0) below in
    record {
      each = λ n. taken_each pool home x.0 n (x.0 == n) (times n heap) (times n rest) below refl (times_popped n x heap rest p) (holds.each n) here;
      count = omega (arith, holds.count, length_permutation heap (x ∷ rest) p, less, was);
      room = omega (arith, long, holds.room);
      few = omega (arith, long, holds.few);
      ordered = order;
    }

-- the URB that was released is spare
released_each : (pool : Homes) (n k : ℕ) (t : Bool) (before after : ℕ) → n < length pool → (n == k) ≡ t → after ≡ one_if t + before
    → before ≡ one_if (is_spare pool k) → is_spare pool n ≡ false → after ≡ one_if (is_spare (set pool n None) k)
released_each pool n k true before after h e count is here =
    let same : n ≡ k = eqb-true n k e in
    let at : get_or (set pool n None) k (Some 0) ≡ None = ap (λ k. get_or (set pool n None) k (Some 0)) (sym same) ∙ get_or-set_same pool n None (Some 0) h in
    let out : is_spare pool k ≡ false = ap (is_spare pool) (sym same) ∙ here in
    let none : before ≡ 0 = is ∙ rw out refl in
    rw at (omega arith)
released_each pool n k false before after h e count is here =
    let other : k ≢ n = λ same. eqb-false n k e (sym same) in
    rw (get_or-set_other pool n k None (Some 0) other) (omega (arith, is))

-- a release makes one more spare
pub count_released : (pool : Homes) (n : ℕ) → is_out pool n ≡ true → spare_in (set pool n None) ≡ spare_in pool + 1
count_released pool n out =
    let below = out_below pool n out in
    let was : one_if (is_none (get_or pool n (Some 0))) ≡ 0 = rw (out_not_spare pool n out) refl in
    omega (arith, sum_by-set (λ (y : Option ℕ). one_if (is_none y)) pool n None (Some 0) below, was)

pub held_released : (pool : Homes) (capacity : ℕ) (x : Reverse ℕ) (heap more : List (Reverse ℕ)) → HoldsSpare pool heap capacity
    → is_out pool x.0 ≡ true → IsPermutation (x ∷ heap) more → IsHeap by_least more → HoldsSpare (set pool x.0 None) more capacity
held_released pool capacity x heap more holds out p order =
    let below = out_below pool x.0 out in
    let long = length-set pool x.0 None in
    record {
      each = λ n. released_each pool x.0 n (x.0 == n) (times n heap) (times n more) below refl (times_pushed n x heap more p) (holds.each n) (out_not_spare pool x.0 out);
      count = omega (arith, holds.count, length_permutation (x ∷ heap) more p, count_released pool x.0 out);
      room = omega (arith, long, holds.room);
      few = omega (arith, long, holds.few);
      ordered = order;
    }

-- where one is out, the heap has room for it
pub room_to_release : (pool : Homes) (capacity n : ℕ) (heap : List (Reverse ℕ)) → HoldsSpare pool heap capacity → is_out pool n ≡ true
    → length heap < capacity
room_to_release pool capacity n heap holds out =
    omega (arith, holds.count, holds.room, count_released pool n out, count_by-le-length is_none (set pool n None), length-set pool n None)

-- nothing changes where the URB isn't out
pub released_same : (pool : Homes) (n : ℕ) → is_out pool n ≡ false → set pool n None ≡ pool
released_same [] n h = refl
released_same (None ∷ pool) zero h = refl
released_same (Some x ∷ pool) zero h = absurd cc
released_same (x ∷ pool) (suc n) h = ap (λ t. x ∷ t) (released_same pool n h)

-- at first all numbers below the limit are spare
spare_by : (limit n : ℕ) (t : Bool) → nat_lt n limit ≡ t → is_spare (replicate limit None) n ≡ t
spare_by limit n true e = ap is_none (get_or-replicate limit n None (Some 0) (ltb-true n limit e))
spare_by limit n false e =
    ap is_none (get_or_past (replicate limit None) n (Some 0) (omega (arith, ltb-false n limit e, length-replicate {A = Option ℕ} limit None)))

spare_at_first : (limit n : ℕ) → is_spare (replicate limit None) n ≡ nat_lt n limit
spare_at_first limit n = spare_by limit n (nat_lt n limit) refl

pub held_at_first : (limit capacity : ℕ) (heap : List (Reverse ℕ)) → limit < 2 ^ 32 → limit ≤ capacity → length heap ≡ limit
    → ((n : ℕ) → times n heap ≡ one_if (nat_lt n limit)) → IsHeap by_least heap → HoldsSpare (replicate limit None) heap capacity
held_at_first limit capacity heap few room long each order = record {
  each = λ n. each n ∙ ap one_if (sym (spare_at_first limit n));
  count = omega (arith, long, sum_by-replicate (λ (y : Option ℕ). one_if (is_none y)) limit None);
  room = omega (arith, length-replicate {A = Option ℕ} limit None);
  few = omega (arith, length-replicate {A = Option ℕ} limit None);
  ordered = order;
}

counts_next : (number n : ℕ) → one_if (number == n) + one_if (nat_lt n number) ≡ one_if (nat_lt n (number + 1))
counts_next number n = grind (arith, nat_tests)

-- one number more in the heap
pub next_number : (number n : ℕ) (heap more : List (Reverse ℕ)) → IsPermutation (record { 0 = number } ∷ heap) more
    → times n heap ≡ one_if (nat_lt n number) → times n more ≡ one_if (nat_lt n (number + 1))
next_number number n heap more p is =
    times_pushed n (record { 0 = number }) heap more p ∙ ap (λ t. one_if (number == n) + t) is ∙ counts_next number n

-- the answer of a take, and the pool after it, where the least number is known
pub next_is : (inside pool : Homes) (n : ℕ) → inside ≡ pool → least_in inside ≡ Some n → Some (urb n) ≡ next_urb pool
next_is inside pool n is least = sym (ap (option_map urb) (ap least_in (sym is) ∙ least))

pub taken_is : (inside pool : Homes) (n home : ℕ) → inside ≡ pool → least_in inside ≡ Some n → set inside n (Some home) ≡ taken pool home
taken_is inside pool n home is least =
    ap (λ p. set p n (Some home)) is ∙ sym (ap (λ o. option_map_or (λ n. set pool n (Some home)) o pool) (ap least_in (sym is) ∙ least))

pub from_ok : {T E P : Type 0} (r : Result T E) → IsOk r → OnOk r P → P
from_ok (Ok x) ok p = p
from_ok (Err e) ok p = absurd (false≢true ok)

pub held_wider : (pool : Homes) (heap : List (Reverse ℕ)) (capacity wider : ℕ) → capacity ≤ wider → HoldsSpare pool heap capacity → HoldsSpare pool heap wider
held_wider pool heap capacity wider h holds = record {
  each = holds.each;
  count = holds.count;
  room = omega (arith, holds.room);
  few = holds.few;
  ordered = holds.ordered;
}

-- while a pool is made: the numbers below this one are in the heap
pub record HoldsBelow (number limit : ℕ) (heap : List (Reverse ℕ)) (capacity : ℕ) : Type 0 where
  pub each : (n : ℕ) → times n heap ≡ one_if (nat_lt n number)
  pub count : length heap ≡ number
  pub room : limit ≤ capacity
  pub ordered : IsHeap by_least heap

pub holds_next : (number limit : ℕ) (heap more : List (Reverse ℕ)) (capacity wider : ℕ) → HoldsBelow number limit heap capacity
    → IsPermutation (record { 0 = number } ∷ heap) more → capacity ≤ wider → IsHeap by_least more → HoldsBelow (number + 1) limit more wider
holds_next number limit heap more capacity wider holds p h order = record {
  each = λ n. next_number number n heap more p (holds.each n);
  count = omega (arith, holds.count, length_permutation (record { 0 = number } ∷ heap) more p);
  room = omega (arith, holds.room);
  ordered = order;
}
