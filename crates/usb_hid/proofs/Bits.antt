-- What the changes of the modifiers say of one key.
use Rattle.std.proofs.Common.{◌≡◌, ◌≢◌, ℕ, ◌<◌, Bool, true, false, not, cond, List, [], ◌∷◌, map, refl, sym, ap, ◌∙◌, arith, eqb-true}
use Rattle.std.specs.Prelude.{◌==◌, ◌||◌, filter}
use Rattle.std.specs.Int.{bit_at}
use Rattle.std.proofs.lemmas.Bool.{eq-eqb}
use Rattle.std.proofs.lemmas.Nat.Bits.{bit_at-lt}
use Rattle.usb_hid.specs.declared.event.Event.{Event}
use Rattle.usb_hid.specs.Reports.{has, modifier_bits, modifier_key, is_set}
use Rattle.usb_hid.specs.Changes.{turned, modifier_changes}
use Rattle.usb_hid.specs.Down.{modifier_keys}
use Rattle.usb_hid.proofs.Traces.{trace, toggle, said_same, said_other}

-- no bit stands twice
abbrev Differ : List ℕ → Type 0
Differ [] = Unit {0}
Differ (b ∷ bits) = (has bits b ≡ false) × Differ bits

-- the changes of these bits, and the keys of those that are set
abbrev changes : ℕ → ℕ → List ℕ → List Event
changes old new bits = map (λ b. turned (is_set new b) (modifier_key b)) (filter (λ b. not (bit_at old b == bit_at new b)) bits)

abbrev keys : ℕ → List ℕ → List ℕ
keys m bits = map modifier_key (filter (is_set m) bits)

-- bits of other keys say nothing, and are not this key's
abbrev IsOther : ℕ → List ℕ → Type 0
IsOther key bits = has (map modifier_key bits) key ≡ false

other_bit : (a b : Bool) → (a || b) ≡ false → (a ≡ false) × (b ≡ false)
other_bit false b e = (refl, e)
other_bit true b e = absurd cc

others_say_nothing : (key old new : ℕ) (bits : List ℕ) → IsOther key bits → trace key (changes old new bits) ≡ []
others_say_nothing key old new [] o = refl
others_say_nothing key old new (b ∷ bits) o =
    let parts = other_bit (modifier_key b == key) (has (map modifier_key bits) key) o in
    go (not (bit_at old b == bit_at new b)) refl parts.0 (others_say_nothing key old new bits parts.1)
  where
    go : (d : Bool) → not (bit_at old b == bit_at new b) ≡ d → (modifier_key b == key) ≡ false → trace key (changes old new bits) ≡ [] → trace key (changes old new (b ∷ bits)) ≡ []
    go true e n h = rw e (said_other key (modifier_key b) (is_set new b) (changes old new bits) n ∙ h)
    go false e n h = rw e h

pub others_are_up : (key m : ℕ) (bits : List ℕ) → IsOther key bits → has (keys m bits) key ≡ false
others_are_up key m [] o = refl
others_are_up key m (b ∷ bits) o =
    let parts = other_bit (modifier_key b == key) (has (map modifier_key bits) key) o in
    go (is_set m b) refl parts.0 (others_are_up key m bits parts.1)
  where
    go : (d : Bool) → is_set m b ≡ d → (modifier_key b == key) ≡ false → has (keys m bits) key ≡ false → has (keys m (b ∷ bits)) key ≡ false
    go true e n h = rw (e, n) h
    go false e n h = rw e h

-- a bit that stands once is no other's
others_of : (key b : ℕ) (bits : List ℕ) → (modifier_key b == key) ≡ true → has bits b ≡ false → IsOther key bits
others_of key b [] e h = refl
others_of key b (c ∷ bits) e h =
    let parts = other_bit (c == b) (has bits b) h in
    go (modifier_key c == key) refl parts.0 (others_of key b bits e parts.1)
  where
    go : (s : Bool) → (modifier_key c == key) ≡ s → (c == b) ≡ false → IsOther key bits → IsOther key (c ∷ bits)
    go false k n o = rw k o
    go true k n o = let x : modifier_key b ≡ key = eqb-true _ _ e in let y : modifier_key c ≡ key = eqb-true _ _ k in let f : (c == b) ≡ true = eq-eqb c b (omega arith) in absurd cc

-- two bits are the same where both are set, or none is
same_bits : (x y : ℕ) → x < 2 → y < 2 → cond (not (x == y)) ((y == 1) ∷ []) [] ≡ toggle (x == 1) (y == 1)
same_bits x y a b = go (x == 1) refl (y == 1) refl
  where
    none : (n : ℕ) → n < 2 → (n == 1) ≡ false → n ≡ 0
    none n l e = let f : n ≢ 1 = λ (is : n ≡ 1). absurd (let t = eq-eqb n 1 is in cc) in omega arith

    go : (s : Bool) → (x == 1) ≡ s → (t : Bool) → (y == 1) ≡ t → cond (not (x == y)) ((y == 1) ∷ []) [] ≡ toggle (x == 1) (y == 1)
    go true e true f = let g : (x == y) ≡ true = eq-eqb x y (eqb-true x 1 e ∙ sym (eqb-true y 1 f)) in rw (g, e, f) refl
    go true e false f = let x1 : x ≡ 1 = eqb-true x 1 e in let y0 : y ≡ 0 = none y b f in rw (x1, y0) refl
    go false e true f = let x0 : x ≡ 0 = none x a e in let y1 : y ≡ 1 = eqb-true y 1 f in rw (x0, y1) refl
    go false e false f = let x0 : x ≡ 0 = none x a e in let y0 : y ≡ 0 = none y b f in rw (x0, y0) refl

bits_said : (key old new : ℕ) (bits : List ℕ) → Differ bits → trace key (changes old new bits) ≡ toggle (has (keys old bits) key) (has (keys new bits) key)
bits_said key old new [] d = refl
bits_said key old new (b ∷ bits) d = go (modifier_key b == key) refl (bits_said key old new bits d.1)
  where
    here : (m : ℕ) → (modifier_key b == key) ≡ true → (s : Bool) → is_set m b ≡ s → has (keys m (b ∷ bits)) key ≡ is_set m b
    here m e true k = rw (k, e) refl
    here m e false k = rw k (others_are_up key m bits (others_of key b bits e d.0))

    elsewhere : (m : ℕ) → (modifier_key b == key) ≡ false → (s : Bool) → is_set m b ≡ s → has (keys m (b ∷ bits)) key ≡ has (keys m bits) key
    elsewhere m e true k = rw (k, e) refl
    elsewhere m e false k = rw k refl

    told : (modifier_key b == key) ≡ true → (s : Bool) → not (bit_at old b == bit_at new b) ≡ s
        → trace key (changes old new (b ∷ bits)) ≡ cond (not (bit_at old b == bit_at new b)) (is_set new b ∷ []) []
    told e true k = rw k (said_same key (modifier_key b) (is_set new b) (changes old new bits) e ∙ ap (λ (xs : List Bool). is_set new b ∷ xs) (others_say_nothing key old new bits (others_of key b bits e d.0)))
    told e false k = rw k (others_say_nothing key old new bits (others_of key b bits e d.0))

    untold : (modifier_key b == key) ≡ false → (s : Bool) → not (bit_at old b == bit_at new b) ≡ s → trace key (changes old new (b ∷ bits)) ≡ trace key (changes old new bits)
    untold e true k = rw k (said_other key (modifier_key b) (is_set new b) (changes old new bits) e)
    untold e false k = rw k refl

    go : (s : Bool) → (modifier_key b == key) ≡ s → trace key (changes old new bits) ≡ toggle (has (keys old bits) key) (has (keys new bits) key)
        → trace key (changes old new (b ∷ bits)) ≡ toggle (has (keys old (b ∷ bits)) key) (has (keys new (b ∷ bits)) key)
    go true e h =
        told e (not (bit_at old b == bit_at new b)) refl
        ∙ same_bits (bit_at old b) (bit_at new b) (bit_at-lt old b) (bit_at-lt new b)
        ∙ ap (λ (x : Bool). toggle x (is_set new b)) (sym (here old e (is_set old b) refl))
        ∙ ap (toggle (has (keys old (b ∷ bits)) key)) (sym (here new e (is_set new b) refl))
    go false e h =
        untold e (not (bit_at old b == bit_at new b)) refl
        ∙ h
        ∙ ap (λ (x : Bool). toggle x (has (keys new bits) key)) (sym (elsewhere old e (is_set old b) refl))
        ∙ ap (toggle (has (keys old (b ∷ bits)) key)) (sym (elsewhere new e (is_set new b) refl))

pub modifiers_said : (key old new : ℕ) → trace key (modifier_changes old new) ≡ toggle (has (modifier_keys old) key) (has (modifier_keys new) key)
modifiers_said key old new = bits_said key old new modifier_bits (refl, (refl, (refl, (refl, (refl, (refl, (refl, (refl, tt))))))))
