-- A pool of URBs: by number, the home of each that is out, and None for each other.
use Rattle.std.specs.Prelude.{◌≡◌, ◌≤◌, ◌<◌, ◌^◌, ℕ, ◌-◌, ◌==◌, if◌then◌else◌, Bool, List, length, take, slice_index_or, slice_set, Option, Some, None, is_some, is_none, option_map, count_by, position}
use Rattle.std.specs.List.{suffix_len}
use Rattle.std.specs.Option.{option_map_or}
use Rattle.std.specs.Ordering.{nat_cmp}
use Rattle.std.specs.BinaryHeap.{IsHeap}
use Rattle.std.specs.declared.cmp.Reverse.{Reverse}
use Rattle.usb_types.specs.declared.urb.UrbId.{UrbId}

abbrev pub Homes : Type 0
Homes = List (Option ℕ)

-- how many aren't out
abbrev pub spare_in : Homes → ℕ
spare_in pool = count_by is_none pool

-- the least number that isn't out
abbrev pub least_in : Homes → Option ℕ
least_in pool = position is_none pool

abbrev pub urb : ℕ → UrbId
urb n = record { 0 = n }

-- the URB that is taken next, and the pool after it
abbrev pub next_urb : Homes → Option UrbId
next_urb pool = option_map urb (least_in pool)

abbrev pub taken : Homes → ℕ → Homes
taken pool home = option_map_or (λ n. slice_set pool n (Some home)) (least_in pool) pool

abbrev pub is_out : Homes → ℕ → Bool
is_out pool n = is_some (slice_index_or pool n None)

abbrev pub released : Homes → ℕ → Homes
released pool n = slice_set pool n None

-- the homes up to the greatest number that is out
abbrev pub up_to_last : Homes → Homes
up_to_last pool = take (length pool - suffix_len is_none pool) pool

abbrev pub is_spare : Homes → ℕ → Bool
is_spare pool n = is_none (slice_index_or pool n (Some 0))

-- how often a number occurs in a heap
abbrev pub times : ℕ → List (Reverse ℕ) → ℕ
times n heap = count_by (λ (r : Reverse ℕ). r.0 == n) heap

-- a heap of the numbers that aren't out, the least first, with room for all
pub record HoldsSpare (pool : Homes) (heap : List (Reverse ℕ)) (capacity : ℕ) : Type 0 where
  pub each : (n : ℕ) → times n heap ≡ (if is_spare pool n then 1 else 0)
  pub count : length heap ≡ spare_in pool
  pub room : length pool ≤ capacity
  pub few : length pool < 2 ^ 32
  pub ordered : IsHeap (λ x y. nat_cmp y.0 x.0) heap
