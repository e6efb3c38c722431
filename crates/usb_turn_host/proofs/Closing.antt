-- The tokens' passes and the others, in the order of the host and in that of the turns.
use Rattle.std.proofs.Common.{◌≡◌, ℕ, zero, suc, ◌<◌, ◌⊎◌, inl, inr, ⊎_elim, List, [], ◌∷◌, ◌++◌, length, map, All, Any, sym, refl, subst, arith, false, get_or}
use Rattle.std.proofs.lemmas.List.Elements.{All-push, All-cons, All-map}
use Rattle.atomic_table.specs.Seated.{TableId}
use Rattle.usb_turn.specs.Rows as rows
use Rattle.usb_turn.specs.Pass.{Pass, AllOf, Closes}
use Rattle.usb_turn.proofs.Gathering.{all_front}
use Rattle.usb_machine.specs.declared.entry.Entry.{Entry}
use Rattle.usb_machine.specs.Parts.{part_of}
use Rattle.usb_machine.specs.Legal.{IsLegal}
use Rattle.usb_machine.specs.Fresh.{Known, Begins}
use Rattle.usb_machine.specs.Tokens.{AreAll, IsClosed}
use Rattle.usb_turn_host.specs.declared.stock.Setup.{Setup}
use Rattle.usb_turn_host.specs.Stock.{machine_of, pass_of}
use Rattle.usb_turn_host.specs.Turning.{IsOf, known_of}

module _ {X : Type 0} (P : X → Type 0) where
  Some_of : List X → Type 0
  Some_of [] = ⊥
  Some_of (x ∷ xs) = P x ⊎ Some_of xs

  to_any : (xs : List X) → Some_of xs → Any P xs
  unfolding Some_of
  to_any [] h = absurd h
  to_any (x ∷ xs) (inl h) = (0, x, omega arith, refl, h)
  to_any (x ∷ xs) (inr t) = let a = to_any xs t in (suc a.0, a.1, omega (arith, a.2), a.3, a.4)

  from_at : (xs : List X) (k : ℕ) (x : X) → k < length xs → get_or xs k x ≡ x → P x → Some_of xs
  unfolding Some_of
  from_at [] k x lt is p = absurd (omega arith)
  from_at (y ∷ ys) zero x lt is p = inl (subst P (sym is) p)
  from_at (y ∷ ys) (suc k) x lt is p = inr (from_at ys k x (omega arith) is p)

  from_any : (xs : List X) → Any P xs → Some_of xs
  from_any xs a = from_at xs a.0 a.1 a.2 a.3 a.4

  on_left : (xs ys : List X) → Some_of xs → Some_of (xs ++ ys)
  unfolding Some_of
  on_left [] ys h = absurd h
  on_left (x ∷ xs) ys (inl h) = inl h
  on_left (x ∷ xs) ys (inr t) = inr (on_left xs ys t)

  on_right : (xs ys : List X) → Some_of ys → Some_of (xs ++ ys)
  unfolding Some_of
  on_right [] ys h = h
  on_right (x ∷ xs) ys h = inr (on_right xs ys h)

  parted : (xs ys : List X) → Some_of (xs ++ ys) → Some_of xs ⊎ Some_of ys
  unfolding Some_of
  parted [] ys h = inr h
  parted (x ∷ xs) ys (inl h) = inl (inl h)
  parted (x ∷ xs) ys (inr t) = ⊎_elim (λ a. inl (inr a)) (λ b. inr b) (parted xs ys t)

module _ {X Y : Type 0} (P : Y → Type 0) (f : X → Y) where
  from_map : (xs : List X) → Some_of P (map f xs) → Some_of (λ x. P (f x)) xs
  unfolding Some_of
  from_map [] h = h
  from_map (x ∷ xs) (inl h) = inl h
  from_map (x ∷ xs) (inr t) = inr (from_map xs t)

  to_map : (xs : List X) → Some_of (λ x. P (f x)) xs → Some_of P (map f xs)
  unfolding Some_of
  to_map [] h = h
  to_map (x ∷ xs) (inl h) = inl h
  to_map (x ∷ xs) (inr t) = inr (to_map xs t)

  -- the first two behind the others
  back : (a b : X) (xs : List X) → Any P (f a ∷ f b ∷ map f xs) → Any (λ x. P (f x)) ((xs ++ b ∷ []) ++ a ∷ [])
  unfolding Some_of
  back a b xs any =
      let Q : X → Type 0 = λ x. P (f x) in
      to_any Q ((xs ++ b ∷ []) ++ a ∷ []) (⊎_elim (λ (h : P (f a)). on_right Q (xs ++ b ∷ []) (a ∷ []) (inl h))
      (λ (t : Some_of P (f b ∷ map f xs)). ⊎_elim (λ (h : P (f b)). on_left Q (xs ++ b ∷ []) (a ∷ []) (on_right Q xs (b ∷ []) (inl h)))
      (λ (u : Some_of P (map f xs)). on_left Q (xs ++ b ∷ []) (a ∷ []) (on_left Q xs (b ∷ []) (from_map xs u))) t) (from_any P (f a ∷ f b ∷ map f xs) any))

  front : (a b : X) (xs : List X) → Any (λ x. P (f x)) ((xs ++ b ∷ []) ++ a ∷ []) → Any P (f a ∷ f b ∷ map f xs)
  unfolding Some_of
  front a b xs any =
      let Q : X → Type 0 = λ x. P (f x) in
      let one : (x : X) → Some_of Q (x ∷ []) → Q x = λ x h. ⊎_elim (λ (k : Q x). k) (λ (k : ⊥). absurd k) h in
      to_any P (f a ∷ f b ∷ map f xs) (⊎_elim
      (λ (t : Some_of Q (xs ++ b ∷ [])). ⊎_elim (λ (u : Some_of Q xs). inr (inr (to_map xs u))) (λ (u : Some_of Q (b ∷ [])). inr (inl (one b u))) (parted Q xs (b ∷ []) t))
      (λ (t : Some_of Q (a ∷ [])). inl (one a t)) (parted Q (xs ++ b ∷ []) (a ∷ []) (from_any Q ((xs ++ b ∷ []) ++ a ∷ []) any)))

module _ (id : TableId) (setup : Setup) (n : ℕ) (a b : Pass Entry) (xs : List (Pass Entry)) where
  pub all_of : n ≡ (machine_of setup).passes → IsOf id setup a → IsOf id setup b → All (IsOf id setup) xs → AreAll (machine_of setup) (known_of a ∷ known_of b ∷ map known_of xs) → AllOf id n ((xs ++ b ∷ []) ++ a ∷ [])
  all_of count ha hb hs all =
      let P : Pass Entry → Type 0 = λ p. (p.table ≡ id) × (p.has ≡ false) in
      let each : All P xs = λ k d lt. ((hs k d lt).table, (hs k d lt).idle) in
      record {
        each = All-push P (xs ++ b ∷ []) a (All-push P xs b each (hb.table, hb.idle)) (ha.table, ha.idle);
        all = λ k lt. back (λ (p : Known). p.number ≡ k) known_of a b xs (all k (subst (λ m. k < m) count lt));
      }

  pub closed : (h : List Entry) → IsLegal (machine_of setup) h → Closes pass_of h ((xs ++ b ∷ []) ++ a ∷ []) → IsClosed (machine_of setup) h (known_of a ∷ known_of b ∷ map known_of xs)
  closed h legal c =
      let B : Pass Entry → Type 0 = λ p. rows.Begins h p.seen in
      let O : Pass Entry → Type 0 = λ p. part_of h p.number ≡ p.mine in
      let begins = all_front B (xs ++ b ∷ []) a c.begins in
      let begins' = all_front B xs b begins.0 in
      let own = all_front O (xs ++ b ∷ []) a c.own in
      let own' = all_front O xs b own.0 in
      let K : Known → Type 0 = λ p. Begins h p.seen in
      let L : Known → Type 0 = λ p. part_of h p.number ≡ p.mine in
      let known : (p : Pass Entry) → B p → K (known_of p) = λ p t. record { more = t.more; is = t.is } in
      record {
        legal = legal;
        begins = All-cons K (known_of a) (known_of b ∷ map known_of xs) (known a begins.1) (All-cons K (known_of b) (map known_of xs) (known b begins'.1) (All-map K known_of xs (λ k d lt. known (get_or xs k d) (begins'.0 k d lt))));
        own = All-cons L (known_of a) (known_of b ∷ map known_of xs) own.1 (All-cons L (known_of b) (map known_of xs) own'.1 (All-map L known_of xs own'.0));
        made = λ k d lt. front (λ (p : Known). p.number ≡ (get_or h k d).pass) known_of a b xs (c.made k d lt);
      }
