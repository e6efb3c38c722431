-- What a map of names finds after a new name.
use Rattle.std.proofs.Common.{◌≡◌, ℕ, ◌+◌, ◌≤◌, Bool, true, false, cond, eqb, List, [], ◌∷◌, ◌++◌, length, Option, Some, None, refl, sym, ap, ◌∙◌, arith}
use Rattle.std.specs.Prelude.{position, is_some, nat_lt, not}
use Rattle.std.specs.List.{position_or_len}
use Rattle.std.specs.Str.{bytes_eq}
use Rattle.std.specs.declared.vec.Vec.{Vec}
use Rattle.std.specs.HashMap.{HashMap, UpdatesBy}
use Rattle.std.specs.Map.{lookup, IsKeyTest, AreApart, KeepsOthers}
use Rattle.std.specs.Cmp.Lexicographic.{nat_list_eq_equiv}
use Rattle.std.proofs.lemmas.Bool.{cond-false, and_parts, not-true}
use Rattle.std.proofs.lemmas.Bool.Decides.{nat_tests}
use Rattle.std.proofs.lemmas.List.{length_push}
use Rattle.std.proofs.lemmas.List.Folds.{position_or_len_push}
use Rattle.std.proofs.lemmas.List.Sums.{prefix_len-le-length}
use Rattle.std.proofs.lemmas.Slice.Eq.{bytes_eq-Decides}
use Rattle.usb_scene.specs.declared.scene.SceneUrb.{SceneUrb}
use Rattle.usb_statement.specs.declared.statement.Statement.{Statement}
use Rattle.usb_statement.specs.declared.statement.Statement.TheVariants as say
use Rattle.usb_scene.specs.Rules.{SoFar, urb_number, are_once}
use Rattle.usb_scene.specs.Growth.{urb_said, scene_with}
use Rattle.usb_scene.specs.Named.{number_in, FindsUrbs, found_with}
use Rattle.usb_scene.proofs.Allowed.{IsAllowed}

apart : (bs cs ks : List ℕ) → bytes_eq bs cs ≡ false → bytes_eq bs ks ≡ true → bytes_eq cs ks ≡ false
apart bs cs ks n y = nat_list_eq_equiv.symm cs ks ∙ sym (nat_list_eq_equiv.congr bs ks cs y) ∙ n

others : {K X : Type 0} (eq : K → K → Bool) (test : K → Bool) (old new : List (K × X)) → KeepsOthers eq test old new
    → (other : K → Bool) → IsKeyTest eq other → AreApart test other → lookup other new ≡ lookup other old
unfolding KeepsOthers
others eq test old new h = h

by_name : (t : Bool) (f g : List ℕ → Option ℕ) (name other : List ℕ) (w : Option ℕ) → bytes_eq name other ≡ t → g name ≡ w
    → (bytes_eq name other ≡ false → g other ≡ f other) → g other ≡ cond t w (f other)
by_name true f g name other w e here rest = ap g (sym ((bytes_eq-Decides name other).0 e)) ∙ here
by_name false f g name other w e here rest = rest e

-- a map with a name more
pub named_more : {A S : Type 0} (name : List ℕ) (m n : HashMap (Vec ℕ A) ℕ S) (w : Option ℕ)
    → UpdatesBy (λ x y. bytes_eq x.items y.items) (λ k. bytes_eq name k.items) m n w
    → (other : List ℕ) → number_in n other ≡ cond (bytes_eq name other) w (number_in m other)
named_more name m n w h other =
    by_name (bytes_eq name other) (number_in m) (number_in n) name other w refl h.1
    (λ e. others _ _ _ _ h.3 _ (λ x y. nat_list_eq_equiv.congr other x.items y.items) (λ k. apart name other k.items e))

found_at : (t b : Bool) (i n m : ℕ) → i ≤ n → m ≡ n + 1 → nat_lt i n ≡ t
    → cond (nat_lt (cond (eqb i n) (n + cond b 0 1) i) m) (Some (cond (eqb i n) (n + cond b 0 1) i)) None
    ≡ cond (is_some (cond t (Some i) None)) (cond t (Some i) None) (cond b (Some n) None)
found_at true true i n m low size e = grind (arith, nat_tests)
found_at true false i n m low size e = grind (arith, nat_tests)
found_at false true i n m low size e = grind (arith, nat_tests)
found_at false false i n m low size e = grind (arith, nat_tests)

-- the first item that passes, in a list that grew by one
pub position_push : {X : Type 0} (p : X → Bool) (xs : List X) (y : X)
    → position p (xs ++ y ∷ []) ≡ cond (is_some (position p xs)) (position p xs) (cond (p y) (Some (length xs)) None)
position_push p xs y =
    let i = position_or_len p xs in
    ap (λ j. cond (nat_lt j (length (xs ++ y ∷ []))) (Some j) None) (position_or_len_push p xs y)
    ∙ found_at (nat_lt i (length xs)) (p y) i (length xs) (length (xs ++ y ∷ [])) (prefix_len-le-length _ xs) (length_push xs y) refl

kept_found : (o : Option ℕ) → cond (is_some o) o None ≡ o
kept_found None = refl
kept_found (Some n) = refl

-- a name that was not there has the last number
pub last_number : (t : Bool) (find : List ℕ → Option ℕ) (name other : List ℕ) (n : ℕ) → is_some (find name) ≡ false → bytes_eq name other ≡ t
    → cond t (Some n) (find other) ≡ cond (is_some (find other)) (find other) (cond t (Some n) None)
last_number true find name other n new e =
    let none : is_some (find other) ≡ false = ap (λ q. is_some (find q)) (sym ((bytes_eq-Decides name other).0 e)) ∙ new in
    sym (cond-false (is_some (find other)) (find other) (Some n) none)
last_number false find name other n new e = sym (kept_found (find other))

-- URBs are found after a line
pub found_after : (s : SoFar) (line : ℕ) (said : Statement) (find : List ℕ → Option ℕ) → IsAllowed s said → FindsUrbs s.scene find
    → (other : List ℕ) → found_with s.scene said find other ≡ urb_number (scene_with s.scene line said) other
found_after s line (say.Device name kind) find allowed h other = h other
found_after s line (say.Ep address kind size interval) find allowed h other = h other
found_after s line (say.Bytes which bytes) find allowed h other = h other
found_after s line (say.Port status) find allowed h other = h other
found_after s line (say.Answer address items) find allowed h other = h other
found_after s line (say.Urb name device address options) find allowed h other =
    let new = not-true (is_some (urb_number s.scene name)) (and_parts (not (is_some (urb_number s.scene name))) (are_once options) allowed.new).0 in
    ap (λ o. cond (bytes_eq name other) (Some (length s.scene.urbs)) o) (h other)
    ∙ last_number (bytes_eq name other) (urb_number s.scene) name other (length s.scene.urbs) new refl
    ∙ sym (position_push (λ (u : SceneUrb). bytes_eq u.name other) s.scene.urbs (urb_said s.scene name device address options))
found_after s line (say.Thread name) find allowed h other = h other
found_after s line (say.Submit urb setup bytes) find allowed h other = h other
found_after s line (say.OnUrb call urb) find allowed h other = h other
found_after s line (say.Alone call) find allowed h other = h other
found_after s line (say.OnInterface call device interface) find allowed h other = h other
