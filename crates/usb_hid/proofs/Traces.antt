-- What the changes of a report say of one key.
use Rattle.std.proofs.Common.{◌≡◌, ℕ, Bool, true, false, not, cond, List, [], ◌∷◌, ◌++◌, map, refl, sym, ap, ◌∙◌, eqb-true}
use Rattle.std.specs.Prelude.{◌==◌, ◌&&◌, ◌||◌, filter, filter_map}
use Rattle.std.proofs.lemmas.Bool.{eq-eqb}
use Rattle.std.proofs.lemmas.List.Elements.{filter_map-append}
use Rattle.usb_hid.specs.declared.event.Event.{Event}
use Rattle.usb_hid.specs.declared.event.Event.TheVariants.{Down, Up}
use Rattle.usb_hid.specs.Reports.{is_key, has, is_roll_over}
use Rattle.usb_hid.specs.Changes.{turned, firsts, keys_lost, code_changes}
use Rattle.usb_hid.specs.Down.{said_of}
use Rattle.usb_hid.proofs.Lost.{has-filter}

-- what events say of a key
abbrev pub trace : ℕ → List Event → List Bool
trace key events = filter_map (said_of key) events

-- what is said of a key that was down or not, and now is or is not
abbrev pub toggle : Bool → Bool → List Bool
toggle true true = []
toggle true false = false ∷ []
toggle false true = true ∷ []
toggle false false = []

trace-append : (key : ℕ) (xs ys : List Event) → trace key (xs ++ ys) ≡ trace key xs ++ trace key ys
trace-append key xs ys = filter_map-append (said_of key) xs ys

-- an event of another key says nothing, and one of this key says what it is
pub said_same : (key k : ℕ) (d : Bool) (events : List Event) → (k == key) ≡ true → trace key (turned d k ∷ events) ≡ d ∷ trace key events
said_same key k true events e = rw e refl
said_same key k false events e = rw e refl

pub said_other : (key k : ℕ) (d : Bool) (events : List Event) → (k == key) ≡ false → trace key (turned d k ∷ events) ≡ trace key events
said_other key k true events e = rw e refl
said_other key k false events e = rw e refl

-- codes without this one say nothing of it
none_said : (key first : ℕ) (d : Bool) (codes : List ℕ) → (first == key) ≡ true → trace key (map (turned d) (filter (λ c. not (c == first)) codes)) ≡ []
none_said key first d [] e = refl
none_said key first d (c ∷ codes) e = go (none_said key first d codes e) (c == first) refl (c == key) refl
  where
    go : trace key (map (turned d) (filter (λ c. not (c == first)) codes)) ≡ [] → (b : Bool) → (c == first) ≡ b → (s : Bool) → (c == key) ≡ s
        → trace key (map (turned d) (filter (λ c. not (c == first)) (c ∷ codes))) ≡ []
    go h true k s l = rw k h
    go h false k false l = rw k (said_other key c d (map (turned d) (filter (λ c. not (c == first)) codes)) l ∙ h)
    go h false k true l = let a : first ≡ key = eqb-true first key e in let b : c ≡ key = eqb-true c key l in let f : (c == first) ≡ true = eq-eqb c first (b ∙ sym a) in absurd cc

-- codes without another one say the same of this one
same_said : (key first : ℕ) (d : Bool) (codes : List ℕ) → (first == key) ≡ false → trace key (map (turned d) (filter (λ c. not (c == first)) codes)) ≡ trace key (map (turned d) codes)
same_said key first d [] e = refl
same_said key first d (c ∷ codes) e = go (same_said key first d codes e) (c == first) refl (c == key) refl
  where
    rest : List Event
    rest = map (turned d) (filter (λ c. not (c == first)) codes)

    go : trace key (map (turned d) (filter (λ c. not (c == first)) codes)) ≡ trace key (map (turned d) codes) → (b : Bool) → (c == first) ≡ b → (s : Bool) → (c == key) ≡ s
        → trace key (map (turned d) (filter (λ c. not (c == first)) (c ∷ codes))) ≡ trace key (turned d c ∷ map (turned d) codes)
    go h true k false l = rw k (h ∙ sym (said_other key c d (map (turned d) codes) l))
    go h true k true l = let a : c ≡ first = eqb-true c first k in let b : c ≡ key = eqb-true c key l in let f : (first == key) ≡ true = eq-eqb first key (sym a ∙ b) in absurd cc
    go h false k false l = rw k (said_other key c d rest l ∙ h ∙ sym (said_other key c d (map (turned d) codes) l))
    go h false k true l = rw k (said_same key c d rest l ∙ ap (λ (xs : List Bool). d ∷ xs) h ∙ sym (said_same key c d (map (turned d) codes) l))

firsts_said : (key : ℕ) (d : Bool) (codes : List ℕ) → trace key (map (turned d) (firsts codes)) ≡ cond (has codes key) (d ∷ []) []
firsts_said key d [] = refl
firsts_said key d (c ∷ codes) = go (firsts_said key d codes) (c == key) refl
  where
    go : trace key (map (turned d) (firsts codes)) ≡ cond (has codes key) (d ∷ []) [] → (s : Bool) → (c == key) ≡ s
        → trace key (turned d c ∷ map (turned d) (filter (λ x. not (x == c)) (firsts codes))) ≡ cond ((c == key) || has codes key) (d ∷ []) []
    go h true l = said_same key c d (map (turned d) (filter (λ x. not (x == c)) (firsts codes))) l ∙ ap (λ (xs : List Bool). d ∷ xs) (none_said key c d (firsts codes) l) ∙ rw l refl
    go h false l = said_other key c d (map (turned d) (filter (λ x. not (x == c)) (firsts codes))) l ∙ same_said key c d (firsts codes) l ∙ h ∙ rw l refl

pub filtered_has : (p : ℕ → Bool) (codes : List ℕ) (key : ℕ) → has (filter p codes) key ≡ (p key && has codes key)
filtered_has p codes key = go (p key) refl
  where
    none : p key ≡ false → (cs : List ℕ) → has (filter p cs) key ≡ false
    none e [] = refl
    none e (c ∷ cs) = step (none e cs) (p c) refl (c == key) refl
      where
        step : has (filter p cs) key ≡ false → (b : Bool) → p c ≡ b → (s : Bool) → (c == key) ≡ s → has (cond (p c) (c ∷ filter p cs) (filter p cs)) key ≡ false
        step h false k s l = rw k h
        step h true k false l = rw (k, l) h
        step h true k true l = let same : p c ≡ p key = ap p (eqb-true c key l) in absurd cc

    go : (b : Bool) → p key ≡ b → has (filter p codes) key ≡ (p key && has codes key)
    go true e = has-filter p codes key e ∙ rw e refl
    go false e = none e codes ∙ rw e refl

-- codes that are no roll-over say what changed
pub codes_said : (key : ℕ) (old new : List ℕ) → is_roll_over new ≡ false
    → trace key (code_changes old new) ≡ toggle (has (filter is_key old) key) (has (filter is_key new) key)
codes_said key old new e =
    rw e
    (trace-append key (map Up (keys_lost old new)) (map Down (keys_lost new old))
    ∙ ap (λ (xs : List Bool). xs ++ trace key (map Down (keys_lost new old))) (lost false old new)
    ∙ ap (λ (xs : List Bool). cond ((is_key key && not (has new key)) && has old key) (false ∷ []) [] ++ xs) (lost true new old)
    ∙ joined (is_key key) (has old key) (has new key)
    ∙ ap (λ (b : Bool). toggle b (is_key key && has new key)) (sym (filtered_has is_key old key))
    ∙ ap (toggle (has (filter is_key old) key)) (sym (filtered_has is_key new key)))
  where
    lost : (d : Bool) (codes others : List ℕ) → trace key (map (turned d) (keys_lost codes others)) ≡ cond ((is_key key && not (has others key)) && has codes key) (d ∷ []) []
    lost d codes others =
        firsts_said key d (filter (λ c. is_key c && not (has others c)) codes)
        ∙ ap (λ (b : Bool). cond b (d ∷ []) []) (filtered_has (λ c. is_key c && not (has others c)) codes key)

    joined : (k o n : Bool) → cond ((k && not n) && o) (false ∷ []) [] ++ cond ((k && not o) && n) (true ∷ []) [] ≡ toggle (k && o) (k && n)
    joined false o n = refl
    joined true false false = refl
    joined true false true = refl
    joined true true false = refl
    joined true true true = refl
