-- What holds of all bindings of a board, and that there is room for one more.
use Rattle.std.proofs.Common.{◌≡◌, ◌≢◌, ℕ, ◌+◌, ◌*◌, ◌<◌, ◌≤◌, ◌⊎◌, Bool, true, false, cond, List, [], ◌∷◌, ◌++◌, length, get_or, Option, Some, None, zero, suc, refl, sym, ap, ◌∙◌, inl, inr, arith, length-append}
use Rattle.std.specs.Prelude.{◌||◌, ◌==◌, is_some, filter, find, option_map, option_and_then, All, AllPairs, slice_get}
use Rattle.std.specs.Option.{option_map_or, option_flatten}
use Rattle.std.proofs.lemmas.Bool.{and_parts, eqb-true, eqb-false, eq-eqb, false≢true}
use Rattle.std.proofs.lemmas.List.Elements.{All-push, All-filter}
use Rattle.std.proofs.lemmas.List.Kept.{AllPairs-filter}
use Rattle.std.proofs.lemmas.Option.{slice_get_within}
use Rattle.std.proofs.lemmas.List.Quantifiers.{all_pairs_push}
use Rattle.usb_ctrl.specs.declared.enumerator.Attached.{Attached}
use Rattle.usb_bind.specs.declared.row.Driver.{Driver}
use Rattle.usb_bind.specs.declared.bound.Bound.{Bound}
use Rattle.usb_bind.specs.declared.fault.ClaimFault.TheVariants.{Busy}
use Rattle.usb_bind.specs.Interfaces.{interface_at}
use Rattle.usb_bind.specs.Board.{BoardValue, is_there, has_interface, holder_of, with_binding, claim_of, fault_where, claim_fault, IsApart, AreThere, HoldsBindings, MayJoin}

-- a list of distinct numbers below a bound has no more than that many: each number that f gives of an index below n
abbrev Into : (ℕ → ℕ) → ℕ → ℕ → Type 0
Into f n m = (i : ℕ) → i < n → f i < m

abbrev OneToOne : (ℕ → ℕ) → ℕ → Type 0
OneToOne f n = (i j : ℕ) → i < j → j < n → f i ≡ f j → ⊥

-- f with the last index's number in place of m
abbrev avoiding : (ℕ → ℕ) → ℕ → ℕ → ℕ → ℕ
avoiding f m last i = cond (f i == m) (f last) (f i)

avoids : (f : ℕ → ℕ) (m last i : ℕ) (t : Bool) → (f i == m) ≡ t
    → ((f i ≡ m) × (avoiding f m last i ≡ f last)) ⊎ ((f i ≢ m) × (avoiding f m last i ≡ f i))
avoids f m last i true e = inl (eqb-true (f i) m e, rw e refl)
avoids f m last i false e = inr (eqb-false (f i) m e, rw e refl)

less_into : (f : ℕ → ℕ) (n m : ℕ) → Into f (suc n) (suc m) → OneToOne f (suc n) → Into (avoiding f m n) n m
less_into f n m into one i h =
    let here = into i (omega arith) in
    let last = into n (omega arith) in
    let apart = one i n h (omega arith) in
    elim (avoids f m n i (f i == m) refl) [
      | inl w ↦ let other : f n ≢ m = λ e. apart (w.0 ∙ sym e) in omega (arith, w.1, other)
      | inr w ↦ omega (arith, w.0, w.1)
    ]

less_one : (f : ℕ → ℕ) (n m : ℕ) → OneToOne f (suc n) → OneToOne (avoiding f m n) n
less_one f n m one i j h k e =
    elim (avoids f m n i (f i == m) refl) [
      | inl v ↦ elim (avoids f m n j (f j == m) refl) [
        | inl w ↦ one i j h (omega arith) (v.0 ∙ sym w.0)
        | inr w ↦ one j n k (omega arith) (sym w.1 ∙ sym e ∙ v.1)
      ]
      | inr v ↦ elim (avoids f m n j (f j == m) refl) [
        | inl w ↦ one i n (omega arith) (omega arith) (sym v.1 ∙ e ∙ w.1)
        | inr w ↦ one i j h (omega arith) (sym v.1 ∙ e ∙ w.1)
      ]
    ]

pigeonhole : (n m : ℕ) (f : ℕ → ℕ) → Into f n m → OneToOne f n → n ≤ m
pigeonhole zero m f into one = omega arith
pigeonhole (suc n) zero f into one = absurd (omega (arith, into n (omega arith)))
pigeonhole (suc n) (suc m) f into one = omega (arith, pigeonhole n m (avoiding f m n) (less_into f n m into one) (less_one f n m one))

-- an interface that is there is of a device with a number below theirs
device_below_by : (o : Option (Option Attached)) (devices : List (Option Attached)) (device interface : ℕ) → slice_get devices device ≡ o
    → is_some (option_and_then (λ (a : Attached). interface_at a.config interface) (option_flatten o)) ≡ true → device < length devices
device_below_by None devices device interface e h = absurd (false≢true h)
device_below_by (Some x) devices device interface e h = slice_get_within devices device x e

device_below : (board : BoardValue) (device interface : ℕ) → is_there board device interface ≡ true → device < length board.devices
device_below board device interface h = device_below_by (slice_get board.devices device) board.devices device interface refl h

has_at : (device interface : ℕ) (b : Bound) → b.device ≡ device → b.interface ≡ interface → has_interface device interface b ≡ true
has_at device interface b d i = rw (eq-eqb b.device device d, eq-eqb b.interface interface i) refl

has_own : (b : Bound) → has_interface b.device b.interface b ≡ true
has_own b = has_at b.device b.interface b refl refl

other_is : (o : Option ℕ) (interface : ℕ) → option_map_or (λ n. n == interface) o false ≡ true → o ≡ Some interface
other_is None interface h = absurd (false≢true h)
other_is (Some n) interface h = ap Some (eqb-true n interface h)

either_is : (own : Bool) (o : Option ℕ) (interface n : ℕ) → (n == interface) ≡ own → (own || option_map_or (λ n. n == interface) o false) ≡ true
    → (n ≡ interface) ⊎ (o ≡ Some interface)
either_is true o interface n e h = inl (eqb-true n interface e)
either_is false o interface n e h = inr (other_is o interface h)

-- the interfaces of a binding are its own and its other one
pub has_cases : (device interface : ℕ) (b : Bound) → has_interface device interface b ≡ true
    → (b.device ≡ device) × ((b.interface ≡ interface) ⊎ (b.other ≡ Some interface))
has_cases device interface b h =
    let parts = and_parts (b.device == device) (b.interface == interface || option_map_or (λ n. n == interface) b.other false) h in
    (eqb-true b.device device parts.0, either_is (b.interface == interface) b.other interface b.interface refl parts.1)

pub none_split : (b : Bound) (found : Option Bound) (t : Bool) → option_map (λ (b : Bound). b.driver) (cond t (Some b) found) ≡ None
    → (t ≡ false) × (option_map (λ (b : Bound). b.driver) found ≡ None)
none_split b found true h = absurd cc
none_split b found false h = (refl, h)

-- no binding has an interface that nobody holds
pub none_found : (device interface : ℕ) (bindings : List Bound) → option_map (λ (b : Bound). b.driver) (find (has_interface device interface) bindings) ≡ None
    → (k : ℕ) (d : Bound) → k < length bindings → has_interface device interface (get_or bindings k d) ≡ false
none_found device interface [] h k d below = absurd (omega arith)
none_found device interface (b ∷ bindings) h zero d below = (none_split b (find (has_interface device interface) bindings) (has_interface device interface b) h).0
none_found device interface (b ∷ bindings) h (suc k) d below =
    none_found device interface bindings (none_split b (find (has_interface device interface) bindings) (has_interface device interface b) h).1 k d (omega arith)

other_free : (board : BoardValue) (b : Bound) (n : ℕ) → MayJoin board b → b.other ≡ Some n → holder_of board b.device n ≡ None
other_free board b n may is = sym (ap (option_and_then (λ n. holder_of board b.device n)) is) ∙ may.other

free : (board : BoardValue) (b : Bound) (device interface : ℕ) → MayJoin board b → has_interface device interface b ≡ true
    → (holder_of board device interface ≡ None)
free board b device interface may h =
    let parts = has_cases device interface b h in
    ap (λ d. holder_of board d interface) (sym parts.0) ∙ elim parts.1 [
      | inl own ↦ ap (holder_of board b.device) (sym own) ∙ may.own
      | inr other ↦ other_free board b interface may other
    ]

-- it is apart from all bindings before it
pub apart_from : (board : BoardValue) (b : Bound) → MayJoin board b → (k : ℕ) (d : Bound) → k < length board.bindings → IsApart (get_or board.bindings k d) b
apart_from board b may k d below device interface here there =
    false≢true (sym (none_found device interface board.bindings (free board b device interface may there) k d below) ∙ here)

key : List Bound → Bound → ℕ → ℕ
key bindings d i = (get_or bindings i d).device * 256 + (get_or bindings i d).interface

key_into : (bindings : List Bound) (d : Bound) (devices : ℕ) → ((i : ℕ) → i < length bindings → (get_or bindings i d).device < devices)
    → All (λ (b : Bound). b.interface < 256) bindings → Into (key bindings d) (length bindings) (devices * 256)
unfolding key
key_into bindings d devices below bytes i h = omega (arith, below i h, bytes i d h)

key_one : (bindings : List Bound) (d : Bound) → All (λ (b : Bound). b.interface < 256) bindings → AllPairs IsApart bindings
    → OneToOne (key bindings d) (length bindings)
unfolding key
key_one bindings d bytes apart i j h k e =
    let a = get_or bindings i d in
    let b = get_or bindings j d in
    let small_a : a.interface < 256 = bytes i d (omega arith) in
    let small_b : b.interface < 256 = bytes j d k in
    let same : a.device ≡ b.device = omega (arith, e) in
    let same_interface : a.interface ≡ b.interface = omega (arith, e) in
    apart i j d h k a.device a.interface (has_at a.device a.interface a refl refl) (has_at a.device a.interface b (sym same) (sym same_interface))

-- there are no more bindings than numbers of interfaces
bindings_fit : (bindings : List Bound) (d : Bound) (devices : ℕ) → ((i : ℕ) → i < length bindings → (get_or bindings i d).device < devices)
    → All (λ (b : Bound). b.interface < 256) bindings → AllPairs IsApart bindings → length bindings ≤ devices * 256
bindings_fit bindings d devices below bytes apart =
    pigeonhole (length bindings) (devices * 256) (key bindings d) (key_into bindings d devices below bytes) (key_one bindings d bytes apart)

pub joined : (board : BoardValue) (b : Bound) (capacity wider : ℕ) → HoldsBindings board capacity → MayJoin board b → b.interface < 256
    → capacity ≤ wider → HoldsBindings (with_binding board b) wider
joined board b capacity wider holds may byte more = record {
  firsts = holds.firsts;
  low = holds.low;
  room = omega (arith, holds.room);
  there = All-push (AreThere board) board.bindings b holds.there may.there;
  bytes = All-push (λ (b : Bound). b.interface < 256) board.bindings b holds.bytes byte;
  apart = all_pairs_push IsApart board.bindings b holds.apart (apart_from board b may);
}

-- there is room for a binding that may join
pub has_room : (board : BoardValue) (b : Bound) (capacity : ℕ) → HoldsBindings board capacity → MayJoin board b → b.interface < 256
    → length board.bindings < capacity
has_room board b capacity holds may byte =
    let after = joined board b capacity capacity holds may byte (omega arith) in
    let all = board.bindings ++ b ∷ [] in
    let fit = bindings_fit all b (length board.devices) (λ i h. device_below board _ _ (after.there i b h (get_or all i b).interface (has_own (get_or all i b)))) after.bytes after.apart in
    omega (arith, fit, length-append board.bindings (b ∷ []), holds.room)

-- a board without some of its bindings
pub kept : (board : BoardValue) (keeps : Bound → Bool) (capacity wider : ℕ) → HoldsBindings board capacity → capacity ≤ wider
    → HoldsBindings (record board { bindings = filter keeps board.bindings }) wider
kept board keeps capacity wider holds more = record {
  firsts = holds.firsts;
  low = holds.low;
  room = omega (arith, holds.room);
  there = All-filter keeps (AreThere board) board.bindings holds.there;
  bytes = All-filter keeps (λ (b : Bound). b.interface < 256) board.bindings holds.bytes;
  apart = AllPairs-filter IsApart keeps board.bindings holds.apart;
}

-- a claim of an interface that is there
claim_there : (board : BoardValue) (by : Driver) (device interface : ℕ) → is_there board device interface ≡ true → AreThere board (claim_of by device interface)
claim_there board by device interface there i h =
    elim (has_cases device i (claim_of by device interface) h).1 [
      | inl own ↦ ap (is_there board device) (sym own) ∙ there
      | inr other ↦ absurd cc
    ]

pub claim_may_join : (board : BoardValue) (by : Driver) (device interface : ℕ) → is_there board device interface ≡ true → holder_of board device interface ≡ None
    → MayJoin board (claim_of by device interface)
claim_may_join board by device interface there free = record { there = claim_there board by device interface there; own = free; other = refl }

held_by : (board : BoardValue) (device interface : ℕ) (b : Bound) (found : Option Bound) (driver : Driver) (t : Bool) → has_interface device interface b ≡ t
    → AreThere board b → option_map (λ (b : Bound). b.driver) (cond t (Some b) found) ≡ Some driver
    → (option_map (λ (b : Bound). b.driver) found ≡ Some driver → is_there board device interface ≡ true) → is_there board device interface ≡ true
held_by board device interface b found driver true has there h rest =
    let same : b.device ≡ device = (has_cases device interface b has).0 in
    ap (λ d. is_there board d interface) (sym same) ∙ there interface (ap (λ d. has_interface d interface b) same ∙ has)
held_by board device interface b found driver false has there h rest = rest h

held_there : (board : BoardValue) (device interface : ℕ) (driver : Driver) (bindings : List Bound) → All (AreThere board) bindings
    → option_map (λ (b : Bound). b.driver) (find (has_interface device interface) bindings) ≡ Some driver → is_there board device interface ≡ true
held_there board device interface driver [] there h = absurd cc
held_there board device interface driver (b ∷ bindings) there h =
    held_by board device interface b (find (has_interface device interface) bindings) driver (has_interface device interface b) refl (there 0 b (omega arith)) h
    (held_there board device interface driver bindings (λ k d below. there (suc k) d (omega arith)))

-- an interface that some driver holds is there, so a claim of it is answered with the driver
pub held_busy : (board : BoardValue) (device interface : ℕ) (driver : Driver) → All (AreThere board) board.bindings → holder_of board device interface ≡ Some driver
    → claim_fault board device interface ≡ Some (Busy driver)
held_busy board device interface driver there held =
    ap (λ t. fault_where t (holder_of board device interface)) (held_there board device interface driver board.bindings there held)
    ∙ ap (option_map Busy) held

busy_by : (there : Bool) (holder : Option Driver) (driver : Driver) → fault_where there holder ≡ Some (Busy driver) → holder ≡ Some driver
busy_by true None driver h = absurd cc
busy_by true (Some other) driver h = cc
busy_by false holder driver h = absurd cc

pub busy_held : (board : BoardValue) (device interface : ℕ) (driver : Driver) → claim_fault board device interface ≡ Some (Busy driver)
    → holder_of board device interface ≡ Some driver
busy_held board device interface driver h = busy_by (is_there board device interface) (holder_of board device interface) driver h
