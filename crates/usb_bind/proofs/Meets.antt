-- What is met, byte by byte.
use Rattle.std.proofs.Common.{◌≡◌, ◌≢◌, ℕ, ◌+◌, ◌<◌, Bool, true, false, not, cond, List, [], ◌∷◌, ◌++◌, length, get_or, set, replicate, refl, sym, ap, ◌∙◌, arith, length-set, length-append}
use Rattle.std.specs.Prelude.{◌||◌, ◌==◌}
use Rattle.std.proofs.lemmas.List.{get_or-set_same, get_or-set_other, get_or-replicate, length-replicate}
use Rattle.std.proofs.lemmas.List.Folds.{list_any-append}
use Rattle.std.proofs.lemmas.Bool.{eqb-true, eqb-false, eq-eqb}
use Rattle.usb_desc.specs.declared.tree.Alt.{Alt}
use Rattle.usb_desc.specs.declared.tree.End.{End}
use Rattle.usb_desc.specs.Growth.{has_end}
use Rattle.usb_bind.specs.declared.met.Met.{Met}
use Rattle.usb_bind.specs.Interfaces.{has_number, opens, with_interface, joins, joined}
use Rattle.usb_bind.specs.Seen.{Knows, KnowsNumbers, KnowsEnds}

or_true : (b : Bool) → (b || true) ≡ true
or_true true = refl
or_true false = refl

or_no : (b : Bool) → (b || false) ≡ b
or_no true = refl
or_no false = refl

or_either : (a b c : Bool) → (a || (b || (c || false))) ≡ ((a || b) || c)
or_either true b c = refl
or_either false true c = refl
or_either false false c = or_no c

not_both : (b : Bool) → not b ≡ false → b ≡ true
not_both true h = refl
not_both false h = cc

-- a byte more is met
at_byte : (at : List Bool) (test : ℕ → Bool) (n k : ℕ) (t : Bool) → length at ≡ 256 → k < 256 → get_or at k false ≡ test k
    → (n == k) ≡ t → get_or (set at n true) k false ≡ (test k || t)
at_byte at test n k true wide h each e =
    let same : n ≡ k = eqb-true n k e in
    rw (same, get_or-set_same at k true false (omega arith)) (sym (or_true (test k)))
at_byte at test n k false wide h each e =
    let other : k ≢ n = λ same. eqb-false n k e (sym same) in
    rw (get_or-set_other at n k true false other) (each ∙ sym (or_no (test k)))

-- a byte is met: the test holds of it too
pub met_more : (old new : Met) (test : ℕ → Bool) (n : ℕ) → new.at ≡ set old.at n true → Knows old test → Knows new (λ k. test k || (n == k))
met_more old new test n is knows = record {
  wide = ap length is ∙ length-set old.at n true ∙ knows.wide;
  each = λ k h. ap (λ at. get_or at k false) is ∙ at_byte old.at test n k (n == k) knows.wide h (knows.each k h) refl;
}

pub same_test : (met : Met) (one other : ℕ → Bool) → ((k : ℕ) → other k ≡ one k) → Knows met one → Knows met other
same_test met one other same knows = record { wide = knows.wide; each = λ k h. knows.each k h ∙ sym (same k) }

-- a byte that passes the test already
again : (test : ℕ → Bool) (n k : ℕ) (t : Bool) → test n ≡ true → (n == k) ≡ t → test k ≡ (test k || t)
again test n k true here e =
    let same : n ≡ k = eqb-true n k e in
    let there : test k ≡ true = ap test (sym same) ∙ here in
    there ∙ sym (or_true (test k))
again test n k false here e = sym (or_no (test k))

none_met : (k : ℕ) → k < 256 → get_or (replicate 256 false) k false ≡ false
none_met k h = get_or-replicate 256 k false false h

-- nothing was met
pub met_none : (met : Met) → met.at ≡ replicate 256 false → KnowsNumbers met []
met_none met is = record {
  wide = ap length is ∙ length-replicate 256 false;
  each = λ k h. ap (λ at. get_or at k false) is ∙ none_met k h;
}

zero_met : (k : ℕ) (t : Bool) → k < 256 → (0 == k) ≡ t → get_or (set (replicate 256 false) 0 true) k false ≡ (t || false)
zero_met k t h e = at_byte (replicate 256 false) (λ k. false) 0 k t (length-replicate 256 false) h (none_met k h) e ∙ sym (or_no t)

turned : (k : ℕ) (t : Bool) → (0 == k) ≡ t → (k == 0) ≡ t
turned k true e = eq-eqb k 0 (sym (eqb-true 0 k e))
turned k false e = elim (k == 0) as (λ b. (k == 0) ≡ b → b ≡ false) [
  | true ↦ λ same. absurd (eqb-false 0 k e (sym (eqb-true k 0 same)))
  | false ↦ λ _. refl
] refl

-- 00 alone was met
pub met_zero : (met : Met) → met.at ≡ set (replicate 256 false) 0 true → met.count ≡ 0 → KnowsEnds met []
met_zero met is none = record {
  met_all = record {
    wide = ap length is ∙ length-set (replicate 256 false) 0 true ∙ length-replicate 256 false;
    each = λ k h. ap (λ at. get_or at k false) is ∙ zero_met k (0 == k) h refl ∙ ap (λ t. t || false) (sym (turned k (0 == k) refl));
  };
  counted = none;
}

-- numbers of interfaces
pub number_more : (alts : List Alt) (a : Alt) (k : ℕ) → has_number (alts ++ a ∷ []) k ≡ (has_number alts k || (a.number == k))
number_more alts a k =
    list_any-append (λ (b : Alt). b.number == k) alts (a ∷ []) ∙ ap (λ t. has_number alts k || t) (or_no (a.number == k))

opened_by : (old new : Met) (alts : List Alt) (a : Alt) (t : Bool) → KnowsNumbers old alts → new.at ≡ set old.at a.number true
    → has_number alts a.number ≡ t → KnowsNumbers new (cond (not t) (alts ++ a ∷ []) alts)
opened_by old new alts a true knows is e =
    same_test new (λ k. has_number alts k || (a.number == k)) (has_number alts)
    (λ k. again (has_number alts) a.number k (a.number == k) e refl) (met_more old new (has_number alts) a.number is knows)
opened_by old new alts a false knows is e =
    same_test new (λ k. has_number alts k || (a.number == k)) (has_number (alts ++ a ∷ []))
    (number_more alts a) (met_more old new (has_number alts) a.number is knows)

-- a setting 0 opens an interface where its number is met for the first time
pub opened : (old new : Met) (alts : List Alt) (a : Alt) (first : Bool) → KnowsNumbers old alts → a.setting ≡ 0 → a.number < 256
    → first ≡ not (get_or old.at a.number false) → new.at ≡ set old.at a.number true
    → (first ≡ opens alts a) × KnowsNumbers new (with_interface alts a)
opened old new alts a first knows zero_is fits told is =
    let found : get_or old.at a.number false ≡ has_number alts a.number = knows.each a.number fits in
    let zero : (a.setting == 0) ≡ true = eq-eqb a.setting 0 zero_is in
    (rw zero (told ∙ ap not found), rw zero (opened_by old new alts a (has_number alts a.number) knows is refl))

pub not_opened : (met : Met) (alts : List Alt) (a : Alt) → KnowsNumbers met alts → (a.setting == 0) ≡ false
    → (false ≡ opens alts a) × KnowsNumbers met (with_interface alts a)
not_opened met alts a knows other = (rw other refl, rw other knows)

-- addresses of endpoints
abbrev address_test : List End → ℕ → Bool
address_test ends address = address == 0 || has_end ends address

pub end_more : (ends : List End) (e : End) (k : ℕ) → has_end (ends ++ e ∷ []) k ≡ (has_end ends k || (e.address == k || false))
end_more ends e k = list_any-append (λ (f : End). f.address == k) ends (e ∷ [])

test_more : (ends : List End) (e : End) (k : ℕ) → address_test (ends ++ e ∷ []) k ≡ (address_test ends k || (e.address == k))
test_more ends e k = ap (λ t. k == 0 || t) (end_more ends e k) ∙ or_either (k == 0) (has_end ends k) (e.address == k)

joined_by : (old new : Met) (ends : List End) (e : End) (t : Bool) → KnowsEnds old ends → new.at ≡ set old.at e.address true
    → new.count ≡ old.count + cond (not t) 1 0 → address_test ends e.address ≡ t → KnowsEnds new (cond (not t) (ends ++ e ∷ []) ends)
joined_by old new ends e true knows is count h = record {
  met_all = same_test new (λ k. address_test ends k || (e.address == k)) (address_test ends)
      (λ k. again (address_test ends) e.address k (e.address == k) h refl) (met_more old new (address_test ends) e.address is knows.met_all);
  counted = omega (arith, count, knows.counted);
}
joined_by old new ends e false knows is count h = record {
  met_all = same_test new (λ k. address_test ends k || (e.address == k)) (address_test (ends ++ e ∷ []))
      (test_more ends e) (met_more old new (address_test ends) e.address is knows.met_all);
  counted = omega (arith, count, knows.counted, length-append ends (e ∷ []));
}

-- an endpoint joins where its address is met for the first time
pub end_joined : (old new : Met) (ends : List End) (e : End) (first : Bool) → KnowsEnds old ends → e.address < 256
    → first ≡ not (get_or old.at e.address false) → new.at ≡ set old.at e.address true → new.count ≡ old.count + cond first 1 0
    → (first ≡ joins ends e) × KnowsEnds new (joined ends e)
end_joined old new ends e first knows fits told is count =
    let found : get_or old.at e.address false ≡ address_test ends e.address = knows.met_all.each e.address fits in
    let due : first ≡ joins ends e = told ∙ ap not found in
    (due, joined_by old new ends e (address_test ends e.address) knows is (count ∙ ap (λ t. old.count + cond t 1 0) due) refl)
