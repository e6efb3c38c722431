-- What a line adds to a scene.
use Rattle.std.proofs.Common.{◌≡◌, ℕ, ◌+◌, ◌-◌, Bool, true, false, cond, eqb, List, [], ◌∷◌, ◌++◌, length, suc, Some, refl, sym, ap, ◌∙◌, arith, append_assoc}
use Rattle.std.specs.Prelude.{slice_get, not}
use Rattle.std.specs.List.{sum_by}
use Rattle.std.proofs.lemmas.List.{length_push}
use Rattle.std.proofs.lemmas.List.Sums.{sum_by-append, sum_by-cons}
use Rattle.usb_xfer.specs.declared.script.Answers.{Answers}
use Rattle.usb_xfer.specs.declared.script.Item.{Item}
use Rattle.usb_scene.specs.declared.scene.SceneThread.{SceneThread}
use Rattle.usb_scene.specs.declared.scene.Call.{Call}
use Rattle.usb_statement.specs.Statements.{is_empty}
use Rattle.usb_scene.specs.WellFormed.{replies_of}
use Rattle.usb_scene.specs.Rules.{calls_of}
use Rattle.usb_scene.specs.Growth.{on_last, joined, together, with_call}

pub on_last_push : {X : Type 0} (f : X → X) (xs : List X) (x : X) → on_last f (xs ++ x ∷ []) ≡ xs ++ f x ∷ []
on_last_push f [] x = refl
on_last_push f (a ∷ []) x = refl
on_last_push f (a ∷ b ∷ xs) x = ap (λ ys. a ∷ ys) (on_last_push f (b ∷ xs) x)

pub length-on_last : {X : Type 0} (f : X → X) (xs : List X) → length (on_last f xs) ≡ length xs
length-on_last f [] = refl
length-on_last f (a ∷ []) = refl
length-on_last f (a ∷ b ∷ xs) = ap suc (length-on_last f (b ∷ xs))

pub get_push : {X : Type 0} (xs : List X) (x : X) → slice_get (xs ++ x ∷ []) (length xs) ≡ Some x
get_push [] x = refl
get_push (a ∷ xs) x = get_push xs x

-- the last item of a list that grew by one
pub last_push : {X : Type 0} (xs : List X) (x : X) → slice_get (xs ++ x ∷ []) (length (xs ++ x ∷ []) - 1) ≡ Some x
last_push xs x = ap (slice_get (xs ++ x ∷ [])) (let e = length_push xs x in omega arith) ∙ get_push xs x

-- a list that is not empty has a last item
pub record HasLast {X : Type 0} (xs : List X) : Type 0 where
  pub before : List X
  pub last : X
  pub split : xs ≡ before ++ last ∷ []

pub has_last : {X : Type 0} (xs : List X) → is_empty xs ≡ false → HasLast xs
has_last [] some = cc
has_last (x ∷ []) some = record { before = []; last = x; split = refl }
has_last (x ∷ y ∷ xs) some =
    let rest = has_last (y ∷ xs) refl in
    record { before = x ∷ rest.before; last = rest.last; split = ap (λ ys. x ∷ ys) rest.split }

-- the calls of the last script, with one call more
pub calls_grown : (c : Call) (threads : List SceneThread) → is_empty threads ≡ false
    → calls_of (slice_get (on_last (with_call c) threads) (length (on_last (with_call c) threads) - 1)) ≡ calls_of (slice_get threads (length threads - 1)) ++ c ∷ []
calls_grown c threads some =
    let last = has_last threads some in
    let old = ap (λ (ts : List SceneThread). calls_of (slice_get ts (length ts - 1)) ++ c ∷ []) last.split ∙ ap (λ t. calls_of t ++ c ∷ []) (last_push last.before last.last) in
    let new = ap (λ (ts : List SceneThread). calls_of (slice_get (on_last (with_call c) ts) (length (on_last (with_call c) ts) - 1))) last.split
    ∙ ap (λ (ts : List SceneThread). calls_of (slice_get ts (length ts - 1))) (on_last_push (with_call c) last.before last.last)
    ∙ ap calls_of (last_push last.before (with_call c last.last)) in
    new ∙ sym old

-- a change of the last item that adds n to its count adds n to the sum
pub sum_by-on_last : {X : Type 0} (g : X → ℕ) (f : X → X) (n : ℕ) → ((x : X) → g (f x) ≡ g x + n) → (xs : List X) → is_empty xs ≡ false
    → sum_by g (on_last f xs) ≡ sum_by g xs + n
sum_by-on_last g f n more [] some = cc
sum_by-on_last g f n more (a ∷ []) some = omega (arith, more a, sum_by-cons g a [], sum_by-cons g (f a) [])
sum_by-on_last g f n more (a ∷ b ∷ xs) some =
    omega (arith, sum_by-on_last g f n more (b ∷ xs) refl, sum_by-cons g a (b ∷ xs), sum_by-cons g a (on_last f (b ∷ xs)))

-- one that keeps its count keeps the sum
pub sum_by-on_last_same : {X : Type 0} (g : X → ℕ) (f : X → X) → ((x : X) → g (f x) ≡ g x) → (xs : List X) → sum_by g (on_last f xs) ≡ sum_by g xs
sum_by-on_last_same g f same [] = refl
sum_by-on_last_same g f same (a ∷ []) = omega (arith, same a, sum_by-cons g a [], sum_by-cons g (f a) [])
sum_by-on_last_same g f same (a ∷ b ∷ xs) =
    omega (arith, sum_by-on_last_same g f same (b ∷ xs), sum_by-cons g a (b ∷ xs), sum_by-cons g a (on_last f (b ∷ xs)))

pub joined_push : (said : Answers) (xs : List Answers) (x : Answers) → joined said (xs ++ x ∷ []) ≡ xs ++ joined said (x ∷ [])
joined_push said [] x = refl
joined_push said (a ∷ []) x = refl
joined_push said (a ∷ b ∷ xs) x = ap (λ ys. a ∷ ys) (joined_push said (b ∷ xs) x)

-- answers at another address come after the last ones
pub joined_other : (said : Answers) (xs : List Answers) (last : Answers) → eqb last.address said.address ≡ false
    → joined said (xs ++ last ∷ []) ≡ (xs ++ last ∷ []) ++ said ∷ []
joined_other said xs last other =
    joined_push said xs last ∙ ap (λ t. xs ++ cond t (together last said ∷ []) (last ∷ said ∷ [])) other ∙ sym (append_assoc xs (last ∷ []) (said ∷ []))

abbrev said_in : Answers → ℕ
said_in said = replies_of said.items

-- answers after others add their replies
joined_last : (t : Bool) (said last : Answers)
    → sum_by said_in (cond t (together last said ∷ []) (last ∷ said ∷ [])) ≡ sum_by said_in (last ∷ []) + replies_of said.items
joined_last true said last =
    omega (arith, sum_by-cons said_in (together last said) [], sum_by-cons said_in last [], sum_by-append (λ (item : Item). item.times) last.items said.items)
joined_last false said last = omega (arith, sum_by-cons said_in last (said ∷ []), sum_by-cons said_in said [], sum_by-cons said_in last [])

pub sum_by-joined : (said : Answers) (xs : List Answers) → sum_by said_in (joined said xs) ≡ sum_by said_in xs + replies_of said.items
sum_by-joined said [] = omega (arith, sum_by-cons said_in said [])
sum_by-joined said (last ∷ []) = joined_last (eqb last.address said.address) said last
sum_by-joined said (first ∷ next ∷ others) =
    omega (arith, sum_by-joined said (next ∷ others), sum_by-cons said_in first (next ∷ others), sum_by-cons said_in first (joined said (next ∷ others)))

pub not_empty : {X : Type 0} (xs : List X) → not (is_empty xs) ≡ true → is_empty xs ≡ false
not_empty [] h = cc
not_empty (x ∷ xs) h = refl
