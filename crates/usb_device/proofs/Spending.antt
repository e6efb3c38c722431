-- How the items left of a device change with one of its ends.
use Rattle.std.proofs.Common.{ℕ, zero, suc, ◌≡◌, ◌≢◌, inl, inr, ◌+◌, ◌<◌, ◌≤◌, Bool, true, false, cond, eqb, Option, Some, None, List, [], ◌∷◌, refl, sym, ap, ◌∙◌, arith, true≢false, sum_by}
use Rattle.std.specs.Prelude.{slice_get, slice_set, MatchOption}
use Rattle.std.specs.Borrow.{Bor}
use Rattle.std.proofs.lemmas.List.Sums.{sum_by-cons}
use Rattle.usb_xfer.specs.Direction.{goes_in}
use Rattle.usb_xfer.specs.Replies.{Reply}
use Rattle.usb_xfer.specs.declared.script.What.{What}
use Rattle.usb_xfer.specs.declared.script.What.TheVariants.{Ack, Nak, Stall}
use Rattle.usb_device.specs.declared.place.Place.{Place}
use Rattle.usb_device.specs.declared.acked.Acked.{Acked}
use Rattle.usb_device.specs.declared.scripted.ScriptedEnd.{ScriptedEnd}
use Rattle.usb_device.specs.declared.scripted.Scripted.{Scripted}
use Rattle.usb_device.specs.Items.{last_at}
use Rattle.usb_device.specs.Places.{next_or}
use Rattle.usb_device.specs.Left.{place_left, items_left, is_spent}
use Rattle.usb_device.specs.Said.{Uses, Spends}

-- a sum with another item at one place
sum-set : {X : Type 0} (f : X → ℕ) (xs : List X) (i : ℕ) (x y : X) → slice_get xs i ≡ Some x → sum_by f (slice_set xs i y) + f x ≡ sum_by f xs + f y
sum-set f [] i x y at = cc
sum-set f (z ∷ xs) zero x y at = let same : z ≡ x = cc in omega (arith, sum_by-cons f y xs, sum_by-cons f z xs, ap f same)
sum-set f (z ∷ xs) (suc i) x y at = omega (arith, sum_by-cons f z (slice_set xs i y), sum_by-cons f z xs, sum-set f xs i x y at)

-- what one place more or less has left, the device has
left-set : (old new : Scripted) (a : ℕ) (end other : ScriptedEnd) → slice_get old.ends.items a ≡ Some end → new.ends.items ≡ slice_set old.ends.items a other
    → items_left new + place_left end.place ≡ items_left old + place_left other.place
unfolding items_left
left-set old new a end other there ends =
    ap (λ (l : List ScriptedEnd). sum_by (λ (e : ScriptedEnd). place_left e.place) l + place_left end.place) ends ∙ sum-set (λ (e : ScriptedEnd). place_left e.place) old.ends.items a end other there

-- the same ends have as much left
pub left_same : (old new : Scripted) → new.ends.items ≡ old.ends.items → items_left new ≡ items_left old
unfolding items_left
left_same old new ends = ap (λ (l : List ScriptedEnd). sum_by (λ (e : ScriptedEnd). place_left e.place) l) ends

-- and so has one that counts other bytes
pub left_acked : (old new : Scripted) (a : ℕ) (end : ScriptedEnd) (acked : Acked) → slice_get old.ends.items a ≡ Some end → new.ends.items ≡ slice_set old.ends.items a (record end { acked = acked }) → items_left new ≡ items_left old
left_acked old new a end acked there ends = omega (arith, left-set old new a end (record end { acked = acked }) there ends)

-- an item that a place gave is one that the device gave
pub left_next : (old new : Scripted) (a : ℕ) (end : ScriptedEnd) (place : Place) (next : Option (Bor What)) → slice_get old.ends.items a ≡ Some end → new.ends.items ≡ slice_set old.ends.items a (record end { place = place })
    → MatchOption next (place_left place ≤ place_left end.place) (λ what. place_left place < place_left end.place) → MatchOption next (items_left new ≤ items_left old) (λ what. items_left new < items_left old)
left_next old new a end place (Some what) there ends fewer = omega (arith, fewer, left-set old new a end (record end { place = place }) there ends)
left_next old new a end place None there ends fewer = omega (arith, fewer, left-set old new a end (record end { place = place }) there ends)

-- the items left never rise
uses_left : (old new : Scripted) (a : ℕ) (next : Option (Bor What)) → Uses old new a next → items_left new ≤ items_left old
uses_left old new a (Some what) uses = omega (arith, uses.left)
uses_left old new a None uses = uses.left

-- the reply after the last item needs none
last_unspent : (a : ℕ) → is_spent a (last_at a) ≢ true
last_unspent a = go (eqb a 0) (goes_in a) refl
  where
    go : (b c : Bool) → goes_in a ≡ c → is_spent a (cond b Stall (cond c Nak Ack)) ≢ true
    go true c e is = true≢false (sym is)
    go false true e is = true≢false (sym is)
    go false false e is = true≢false (sym is ∙ e)

-- a use at an address, and its reply
pub spends_next : (old new : Scripted) (a : ℕ) (next : Option (Bor What)) (r : Reply) → Uses old new a next → r ≡ next_or (last_at a) next → Spends old new a r
spends_next old new a (Some what) r uses word = record { left = uses_left old new a (Some what) uses; spent = λ off is. uses.left; rises = uses.rises; count = inr uses.count; counted = λ off is. uses.count }
spends_next old new a None r uses word = record { left = uses.left; spent = λ off is. absurd (last_unspent a (ap (is_spent a) (sym word) ∙ is)); rises = uses.rises; count = inl uses.count; counted = λ off is. absurd (last_unspent a (ap (is_spent a) (sym word) ∙ is)) }

-- where no item was used, and none was needed
pub spends_none : (old new : Scripted) (a : ℕ) (r : Reply) → new.ends.items ≡ old.ends.items → new.used ≡ old.used → (a ≢ 0 → is_spent a r ≢ true) → Spends old new a r
spends_none old new a r ends used none = record { left = omega (arith, left_same old new ends); spent = λ off is. absurd (none off is); rises = omega arith; count = inl used; counted = λ off is. absurd (none off is) }
