-- One code more: what a list of codes lost to others.
use Rattle.std.proofs.Common.{◌≡◌, ℕ, ◌+◌, ◌<◌, Bool, true, false, not, cond, List, [], ◌∷◌, ◌++◌, length, get_or, take, map, refl, sym, ap, ◌∙◌, append_assoc, eqb-true}
use Rattle.std.specs.Prelude.{◌==◌, ◌&&◌, ◌||◌, filter}
use Rattle.std.proofs.lemmas.List.{append-nil, take_more, map-append}
use Rattle.usb_hid.specs.declared.event.Event.{Event}
use Rattle.std.proofs.lemmas.List.Elements.{filter-append}
use Rattle.std.proofs.lemmas.Bool.{eq-eqb}
use Rattle.usb_hid.specs.Reports.{is_key, has}
use Rattle.usb_hid.specs.Changes.{turned, firsts, keys_lost}

pub eqb-sym : (a b : ℕ) → (a == b) ≡ (b == a)
eqb-sym a b = go (a == b) refl (b == a) refl
  where
    go : (p : Bool) → (a == b) ≡ p → (q : Bool) → (b == a) ≡ q → (a == b) ≡ (b == a)
    go true e true f = cc
    go false e false f = cc
    go true e false f = let g : (b == a) ≡ true = eq-eqb b a (sym (eqb-true a b e)) in cc
    go false e true f = let g : (a == b) ≡ true = eq-eqb a b (sym (eqb-true b a f)) in cc

-- a code after others counts where they lack it
last_counts : (code first : ℕ) (behind : Bool)
    → filter (λ d. not (d == first)) (cond behind [] (code ∷ [])) ≡ cond ((first == code) || behind) [] (code ∷ [])
last_counts code first true = go (first == code)
  where
    go : (b : Bool) → [] ≡ cond (b || true) [] (code ∷ [])
    go true = refl
    go false = refl
last_counts code first false = rw (eqb-sym code first) (go (first == code))
  where
    go : (b : Bool) → cond (not b) (code ∷ []) [] ≡ cond (b || false) [] (code ∷ [])
    go true = refl
    go false = refl

pub firsts-snoc : (codes : List ℕ) (code : ℕ) → firsts (codes ++ code ∷ []) ≡ firsts codes ++ cond (has codes code) [] (code ∷ [])
firsts-snoc [] code = refl
firsts-snoc (c ∷ codes) code =
    ap (λ (xs : List ℕ). c ∷ filter (λ d. not (d == c)) xs) (firsts-snoc codes code)
    ∙ ap (λ (xs : List ℕ). c ∷ xs) (filter-append (λ d. not (d == c)) (firsts codes) (cond (has codes code) [] (code ∷ [])))
    ∙ ap (λ (xs : List ℕ). c ∷ filter (λ d. not (d == c)) (firsts codes) ++ xs) (last_counts code c (has codes code))

-- a filter that lets a code pass keeps it
pub has-filter : (p : ℕ → Bool) (codes : List ℕ) (code : ℕ) → p code ≡ true → has (filter p codes) code ≡ has codes code
has-filter p [] code passes = refl
has-filter p (c ∷ codes) code passes = go (has-filter p codes code passes) (p c) refl (c == code) refl
  where
    go : has (filter p codes) code ≡ has codes code → (b : Bool) → p c ≡ b → (s : Bool) → (c == code) ≡ s
        → has (cond (p c) (c ∷ filter p codes) (filter p codes)) code ≡ ((c == code) || has codes code)
    go e true h s k = rw h (ap (λ (r : Bool). (c == code) || r) e)
    go e false h false k = rw (h, k) e
    go e false h true k = let same : p c ≡ p code = ap p (eqb-true c code k) in absurd cc

turn : {X : Type 0} (x y : X) (b : Bool) → cond b x y ≡ cond (not b) y x
turn x y true = refl
turn x y false = refl

pub lost-more : (codes others : List ℕ) (i code : ℕ) → i < length codes → get_or codes i 0 ≡ code
    → keys_lost (take (i + 1) codes) others ≡ keys_lost (take i codes) others ++ cond ((is_key code && not (has others code)) && not (has (take i codes) code)) (code ∷ []) []
lost-more codes others i code l is =
    ap (λ (xs : List ℕ). keys_lost xs others) (take_more codes i 0 l ∙ ap (λ (c : ℕ). take i codes ++ c ∷ []) is)
    ∙ ap firsts (filter-append p (take i codes) (code ∷ []))
    ∙ go (p code) refl
  where
    p : ℕ → Bool
    p c = is_key c && not (has others c)

    go : (b : Bool) → p code ≡ b
        → firsts (filter p (take i codes) ++ filter p (code ∷ [])) ≡ firsts (filter p (take i codes)) ++ cond (p code && not (has (take i codes) code)) (code ∷ []) []
    go true h = rw h
        (firsts-snoc (filter p (take i codes)) code
        ∙ ap (λ (b : Bool). firsts (filter p (take i codes)) ++ cond b [] (code ∷ [])) (has-filter p (take i codes) code h)
        ∙ ap (λ (xs : List ℕ). firsts (filter p (take i codes)) ++ xs) (turn [] (code ∷ []) (has (take i codes) code)))
    go false h = rw h (ap firsts (append-nil (filter p (take i codes))) ∙ sym (append-nil (firsts (filter p (take i codes)))))

pub lost_told : (down : Bool) (codes others : List ℕ) (i code : ℕ) (first before now : List Event) (lost : Bool) (event : Event)
    → i < length codes → get_or codes i 0 ≡ code → before ≡ first ++ map (turned down) (keys_lost (take i codes) others)
    → lost ≡ ((is_key code && not (has others code)) && not (has (take i codes) code)) → event ≡ turned down code
    → now ≡ before ++ cond lost (event ∷ []) [] → now ≡ first ++ map (turned down) (keys_lost (take (i + 1) codes) others)
lost_told down codes others i code first before now lost event l is b d e h =
    h
    ∙ ap (λ (xs : List Event). xs ++ cond lost (event ∷ []) []) b
    ∙ ap (λ (x : Event). (first ++ map (turned down) (keys_lost (take i codes) others)) ++ cond lost (x ∷ []) []) e
    ∙ append_assoc first (map (turned down) (keys_lost (take i codes) others)) (cond lost (turned down code ∷ []) [])
    ∙ ap (λ (xs : List Event). first ++ (map (turned down) (keys_lost (take i codes) others) ++ xs)) (go lost)
    ∙ ap (λ (xs : List Event). first ++ xs) (sym (map-append (turned down) (keys_lost (take i codes) others) (cond lost (code ∷ []) [])))
    ∙ ap (λ (x : Bool). first ++ map (turned down) (keys_lost (take i codes) others ++ cond x (code ∷ []) [])) d
    ∙ ap (λ (xs : List ℕ). first ++ map (turned down) xs) (sym (lost-more codes others i code l is))
  where
    go : (b : Bool) → cond b (turned down code ∷ []) [] ≡ map (turned down) (cond b (code ∷ []) [])
    go true = refl
    go false = refl
