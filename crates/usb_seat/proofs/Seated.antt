-- Seats of a host: what the passes of a new host become, and what seats are again when the host is closed.
use Rattle.std.proofs.Common.{ℕ, ◌≡◌, ◌≢◌, ◌+◌, ◌<◌, ◌∙◌, List, ◌∷◌, Option, IfSome, All, map, length, get_or, sym, ap, subst, arith}
use Rattle.std.specs.List.{range_with_len}
use Rattle.std.proofs.lemmas.List.{get_or-map, length-map}
use Rattle.std.proofs.lemmas.List.Elements.{All-map}
use Rattle.std.proofs.lemmas.Simd.{map-map}
use Rattle.usb_machine.specs.declared.entry.TheConstants.{SERVER, HUB}
use Rattle.usb_machine.specs.declared.state.Flags.{Flags}
use Rattle.usb_machine.specs.History.{Machine}
use Rattle.usb_machine.specs.Fresh.{Known}
use Rattle.usb_machine.specs.Tokens.{IsWholeHub, AreAll, unused, unused_from}
use Rattle.usb_seat.specs.declared.seats.Seat.{Seat}
use Rattle.usb_seat.specs.declared.seats.Seat.TheVariants.{Own, Hub}
use Rattle.usb_seat.specs.Dealing.{in_order, hubs, AreNumbered}
use Rattle.usb_seat.specs.Sitting.{known_in, IsSeat, IsOwn, IsHubs}
use Rattle.usb_seat.proofs.Dealt.{map-in_order, map-hubs, length-in_order, all-in_order, all-hubs, numbers_unused, length_unused, number_at, all_passes}

module _ {P U : Type 0} (g : Machine) (of : P → Type 0) (known : P → Known) (own : U → P) (flags : U → ℕ → Flags) (has_room : U → Machine → Type 0) where
  abbrev pub sits : Seat P U → Type 0
  sits s = IsSeat g of known own flags has_room s

  abbrev pub knows : Seat P U → Known
  knows s = known_in known own s

  new_number : (ps : List P) (n : ℕ) → map known ps ≡ unused_from 2 n → (k : ℕ) (d : P) → k < length ps → (known (get_or ps k d)).number ≡ 2 + k
  new_number ps n new k d l =
      let near : k < length (map known ps) = let long = length-map ps known in omega arith in
      ap (λ (p : Known). p.number) (sym (get_or-map known ps k d (known d) l)) ∙ number_at (map known ps) n k (known d) (ap (map (λ (p : Known). p.number)) new ∙ numbers_unused n 2) near

  -- the passes of a new host are seats
  pub new_seats : (ps : List P) (n : ℕ) → map known ps ≡ unused_from 2 n → All of ps → All sits (map Own ps)
  new_seats ps n new here = All-map sits Own ps (λ k d l. (here k d l, λ e. let is = new_number ps n new k d l in omega arith))

  pub known_passes : (ps : List P) → map knows (map Own ps) ≡ map known ps
  known_passes ps = map-map knows Own ps

  is_own : (s : Seat P U) → sits s → (knows s).number ≢ HUB → IsOwn s
  is_own (Own p) w off = tt
  is_own (Hub u) w off = absurd (off w.1.number)

  is_hubs : (s : Seat P U) → sits s → (knows s).number ≡ HUB → IsHubs s
  is_hubs (Own p) w is = absurd (w.1 is)
  is_hubs (Hub u) w is = tt

  module _ (t : Option ℕ) (threads : List (Seat P U)) (spare : Seat P U) where
    pub known_in_order : map knows (in_order t threads spare) ≡ in_order t (map knows threads) (knows spare)
    known_in_order = map-in_order knows t threads spare

    pub known_hubs : knows (hubs t threads spare) ≡ hubs t (map knows threads) (knows spare)
    known_hubs = map-hubs knows t threads spare

    module _ (near : IfSome t (λ i. i < length threads)) (all : All sits threads) (one : sits spare) where
      module _ (numbers : AreNumbered t (map knows threads) (knows spare)) where
        pub order_numbers : map (λ (p : Known). p.number) (in_order t (map knows threads) (knows spare)) ≡ range_with_len 2 (length (map knows threads))
        order_numbers = map-in_order (λ (p : Known). p.number) t (map knows threads) (knows spare) ∙ numbers.in_turn

        pub hubs_number : (hubs t (map knows threads) (knows spare)).number ≡ HUB
        hubs_number = map-hubs (λ (p : Known). p.number) t (map knows threads) (knows spare) ∙ numbers.hub

        -- all in order have passes of their own, and the hub's seat has the token
        pub are_own : All IsOwn (in_order t threads spare)
        are_own k d l =
            let line = in_order t threads spare in
            let near : k < length (map knows line) = let long = length-map line knows in omega arith in
            let is : (knows (get_or line k d)).number ≡ 2 + k =
            ap (λ (p : Known). p.number) (sym (get_or-map knows line k d (knows d) l))
            ∙ number_at (map knows line) (length (map knows threads)) k (knows d) (ap (map (λ (p : Known). p.number)) known_in_order ∙ order_numbers) near in
            is_own (get_or line k d) (all-in_order sits t threads spare all one k d l) (λ e. omega arith)

        pub is_the_hubs : IsHubs (hubs t threads spare)
        is_the_hubs = is_hubs (hubs t threads spare) (all-hubs sits t threads spare near all one) (ap (λ (p : Known). p.number) known_hubs ∙ hubs_number)

      module _ (ps : List P) (u : U) (passes : map Own ps ≡ in_order t threads spare) (hub : Hub u ≡ hubs t threads spare) where
        pub passes_known : map known ps ≡ in_order t (map knows threads) (knows spare)
        passes_known = sym (known_passes ps) ∙ (ap (map knows) passes ∙ known_in_order)

        pub hub_known : known (own u) ≡ hubs t (map knows threads) (knows spare)
        hub_known = ap knows hub ∙ known_hubs

        pub passes_here : All of ps
        passes_here k d l =
            let near = subst (λ m. k < m) (sym (length-map ps Own)) l in
            let seat = subst (All sits) (sym passes) (all-in_order sits t threads spare all one) k (Own d) near in
            (subst sits (get_or-map Own ps k d (Own d) l) seat).0

        pub hub_here : of (own u)
        hub_here = (subst sits (sym hub) (all-hubs sits t threads spare near all one)).0

        -- what is known of the hub's token and the passes, as of the seats
        pub all_known : known (own u) ∷ map known ps ≡ hubs t (map knows threads) (knows spare) ∷ in_order t (map knows threads) (knows spare)
        all_known = ap (λ k. k ∷ map known ps) hub_known ∙ ap (λ l. hubs t (map knows threads) (knows spare) ∷ l) passes_known

        pub all_here : (s : Known) → AreNumbered t (map knows threads) (knows spare) → s.number ≡ SERVER → g.passes ≡ 2 + length threads → AreAll g (s ∷ known (own u) ∷ map known ps)
        all_here s numbers server many =
            let line = in_order t (map knows threads) (knows spare) in
            let long : length line ≡ length (map knows threads) = length-in_order t (map knows threads) (knows spare) in
            let long_all : length line ≡ length threads = long ∙ length-map threads knows in
            subst (λ l. AreAll g (s ∷ l)) (sym all_known)
            (all_passes g s (hubs t (map knows threads) (knows spare)) line server (hubs_number numbers) (order_numbers numbers ∙ ap (range_with_len 2) (sym long)) (many ∙ ap (λ m. 2 + m) (sym long_all)))

  module _ (n : ℕ) (ps : List P) (u : U) (new : map known ps ≡ unused_from 2 n) (t : Option ℕ) (near : IfSome t (λ i. i < n)) where
    -- as many passes as the host was made with
    pub many_new : length ps ≡ n
    many_new = sym (length-map ps known) ∙ (ap (λ (l : List Known). length l) new ∙ length_unused n 2)

    pub near_passes : IfSome t (λ i. i < length ps)
    near_passes = subst (λ m. IfSome t (λ i. i < m)) (sym many_new) near

    near_seats : IfSome t (λ i. i < length (map {B = Seat P U} Own ps))
    near_seats = subst (λ m. IfSome t (λ i. i < m)) (sym (length-map ps Own)) near_passes

    module _ (hub_new : known (own u) ≡ unused HUB) (threads : List (Seat P U)) (spare : Seat P U) (threads_are : threads ≡ in_order t (map Own ps) (Hub u)) (spare_is : spare ≡ hubs t (map Own ps) (Hub u)) where
      pub dealt_seats : All of ps → of (own u) → IsWholeHub g (unused HUB) (flags u) (has_room u) → All sits threads × sits spare
      dealt_seats here hub whole =
          let one : sits (Hub u) = (hub, subst (λ k. IsWholeHub g k (flags u) (has_room u)) (sym hub_new) whole) in
          let all = new_seats ps n new here in
          (subst (All sits) (sym threads_are) (all-in_order sits t (map Own ps) (Hub u) all one), subst sits (sym spare_is) (all-hubs sits t (map Own ps) (Hub u) near_seats all one))

      pub dealt_new : (map knows threads ≡ in_order t (unused_from 2 n) (unused HUB)) × (knows spare ≡ hubs t (unused_from 2 n) (unused HUB))
      dealt_new =
          let passes : map knows (map Own ps) ≡ unused_from 2 n = known_passes ps ∙ new in (
            ap (map knows) threads_are ∙ (known_in_order t (map Own ps) (Hub u) ∙ (ap (λ l. in_order t l (known (own u))) passes ∙ ap (in_order t (unused_from 2 n)) hub_new)),
            ap knows spare_is ∙ (known_hubs t (map Own ps) (Hub u) ∙ (ap (λ l. hubs t l (known (own u))) passes ∙ ap (hubs t (unused_from 2 n)) hub_new)),
          )
