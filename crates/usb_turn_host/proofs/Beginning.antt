-- New passes, from the front and from the back.
use Rattle.std.proofs.Common.{◌≡◌, ℕ, zero, suc, ◌+◌, List, [], ◌∷◌, ◌++◌, sym, refl, ap, ◌∙◌, subst, arith, ◌<◌, ◌≤◌, Bool, true, false, Option, Some, None, All, length, map, slice_get, get_or}
use Rattle.std.specs.Prelude.{replicate}
use Rattle.std.proofs.lemmas.Option.{slice_get_within, get_or_from_slice_get}
use Rattle.std.proofs.lemmas.List.Elements.{All-nil, All-cons}
use Rattle.circular_buffer.specs.Buffer.{Buffer, buffer}
use Rattle.usb_machine.specs.declared.entry.TheConstants.{SERVER, HUB}
use Rattle.usb_machine.specs.declared.layout.Shape.{Shape}
use Rattle.usb_machine.specs.declared.state.Flags.{Flags}
use Rattle.usb_machine.specs.State.{no_flags}
use Rattle.usb_machine.specs.History.{Machine}
use Rattle.usb_machine.specs.Laws.{total, bit}
use Rattle.usb_machine.specs.Legal.{empty}
use Rattle.usb_machine.specs.Queues.{HomeIsBelow, is_at, homed_at}
use Rattle.usb_machine.specs.Tokens.{IsWholeHub, IsWholeServer, unused, unused_from}
use Rattle.usb_turn_host.specs.Turning.{IsOf, known_of}
use Rattle.usb_turn_host.specs.Server.{pending_at, items_of, room_of, HasRooms}
use Rattle.atomic_table.specs.Seated.{TableId}
use Rattle.usb_turn.specs.Pass.{fresh, dealt}
use Rattle.usb_machine.specs.declared.layout.Layout.{Layout}
use Rattle.usb_turn_host.specs.declared.stock.Setup.{Setup}
use Rattle.usb_turn_host.specs.Stock.{IsSetup, machine_of}
use Rattle.usb_turn_host.specs.Opening.{fresh_from}

from_snoc : (t : TableId) (n k : ℕ) → fresh_from t n (suc k) ≡ fresh_from t n k ++ fresh t (n + k) ∷ []
from_snoc t n zero = ap (λ m. fresh t m ∷ []) (let e : n ≡ n + 0 = omega arith in e)
from_snoc t n (suc k) = ap (λ l. fresh t n ∷ l) (from_snoc t (n + 1) k ∙ ap (λ m. fresh_from t (n + 1) k ++ fresh t m ∷ []) (let e : n + 1 + k ≡ n + suc k = omega arith in e))

pub dealt_front : (t : TableId) (k : ℕ) → dealt t k ≡ fresh_from t 0 k
dealt_front t zero = refl
dealt_front t (suc k) = ap (λ l. l ++ fresh t k ∷ []) (dealt_front t k) ∙ (ap (λ m. fresh_from t 0 k ++ fresh t m ∷ []) (let e : k ≡ 0 + k = omega arith in e) ∙ sym (from_snoc t 0 k))

pub dealt_two : (t : TableId) (k : ℕ) → dealt t (k + 2) ≡ fresh t 0 ∷ fresh t 1 ∷ fresh_from t 2 k
dealt_two t k = ap (dealt t) (let e : k + 2 ≡ suc (suc k) = omega arith in e) ∙ dealt_front t (suc (suc k))

pub same_setup : (l : Layout) (n : ℕ) (a b : Setup) → IsSetup l n a → IsSetup l n b → a ≡ b
same_setup l n a b x y = λ i. record { layout = record { marker = a.layout.marker; value = (x.0 ∙ sym y.0) i }; passes = (x.1 ∙ sym y.1) i }

pub homed_by : (homes : List (Option ℕ)) (shapes : List Shape) → All (HomeIsBelow (length shapes)) homes → (u e : ℕ) → slice_get homes u ≡ Some (Some e) → e < length shapes
homed_by homes shapes all u e at =
    let lt : u < length homes = slice_get_within homes u (Some e) at in
    subst (HomeIsBelow (length shapes)) (get_or_from_slice_get homes u (Some e) None at) (all u None lt)

module _ (id : TableId) (setup : Setup) where
  -- a new pass is one of the turns
  pub fresh_is : (n : ℕ) → n < (machine_of setup).passes → IsOf id setup (fresh id n)
  fresh_is n lt = record { table = refl; idle = refl; below = lt; legal = empty; own = refl }

  pub fresh_all : (n k : ℕ) → n + k ≤ (machine_of setup).passes → All (IsOf id setup) (fresh_from id n k)
  fresh_all n zero le = All-nil (IsOf id setup)
  fresh_all n (suc k) le = All-cons (IsOf id setup) (fresh id n) (fresh_from id (n + 1) k) (fresh_is n (omega arith)) (fresh_all (n + 1) k (omega arith))

pub known_fresh : (id : TableId) (n k : ℕ) → map known_of (fresh_from id n k) ≡ unused_from n k
known_fresh id n zero = refl
known_fresh id n (suc k) = ap (λ l. unused n ∷ l) (known_fresh id (n + 1) k)

few : (n : ℕ) (f : ℕ → Bool) → total n (λ u. bit (f u)) ≤ n
few zero f = omega arith
few (suc n) f = let h = few n f in let b = small (f n) in omega arith
  where
    small : (b : Bool) → bit b ≤ 1
    small true = omega arith
    small false = omega arith

at_replicate : {A : Type 0} (n k : ℕ) (x : A) → k < n → slice_get (replicate n x) k ≡ Some x
at_replicate zero k x lt = absurd (omega arith)
at_replicate (suc n) zero x lt = refl
at_replicate (suc n) (suc k) x lt = at_replicate n k x (omega arith)

get_replicate : {A : Type 0} (n k : ℕ) (x : A) → get_or (replicate n x) k x ≡ x
get_replicate zero k x = refl
get_replicate (suc n) zero x = refl
get_replicate (suc n) (suc k) x = get_replicate n k x

long_replicate : {A : Type 0} (n : ℕ) (x : A) → length (replicate n x) ≡ n
long_replicate zero x = refl
long_replicate (suc n) x = ap (λ m. suc m) (long_replicate n x)

-- the tokens at first
pub server_first : (g : Machine) (bs : List (Buffer ℕ)) → g.bottom ≡ SERVER → bs ≡ replicate (length g.layout.shapes) (buffer [] (length g.layout.homes)) → IsWholeServer g (unused SERVER) (pending_at bs) 0 (λ m. HasRooms m bs)
server_first g bs bottom is =
    let b : Buffer ℕ = buffer [] (length g.layout.homes) in
    let n : ℕ = length g.layout.shapes in
    record {
      number = refl;
      given_are = refl;
      bottom = bottom;
      pending_are = λ e lt. ap (λ l. items_of (slice_get l e)) is ∙ ap items_of (at_replicate n e b lt);
      room = record {
        ends = ap length is ∙ long_replicate n b;
        rooms = λ e lt. subst (λ o. homed_at g.layout.homes e ≤ room_of o) (sym (ap (λ l. slice_get l e) is ∙ at_replicate n e b lt)) (few (length g.layout.homes) (λ u. is_at e (get_or g.layout.homes u None)));
      };
    }

pub hub_first : (g : Machine) (fs : List Flags) → fs ≡ replicate (length g.layout.homes) no_flags → IsWholeHub g (unused HUB) (λ u. get_or fs u no_flags) (λ m. length m.layout.homes ≤ length fs)
hub_first g fs is = record {
  number = refl;
  room = subst (λ k. length g.layout.homes ≤ k) (sym (ap length is ∙ long_replicate (length g.layout.homes) no_flags)) (omega arith);
  flags_are = λ u lt. ap (λ l. get_or l u no_flags) is ∙ get_replicate (length g.layout.homes) u no_flags;
}
