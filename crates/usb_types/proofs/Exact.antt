-- A table's rows are found by their codes and by their names, and nothing else is found.
use Rattle.std.proofs.Common.{◌≡◌, ℕ, ◌<◌, length, get_or, ◌==◌, Bool, true, false, not, ◌||◌, cond, List, [], ◌∷◌, Some, zero, suc, refl, ap, ◌∙◌, sym, arith}
use Rattle.std.specs.Prelude.{option_map, bytes_eq, find, nat_le}
use Rattle.std.specs.List.{list_any, Contains, AllPairs}
use Rattle.std.proofs.lemmas.Bool.{and_parts, and_from, eqb-true, eq-eqb, le-leb, leb-false, lt-leb}
use Rattle.std.proofs.lemmas.Slice.Eq.{bytes_eq-Decides}
use Rattle.usb_types.specs.Table.{Entry, clashes, is_table, Follows, name_at, code_at}

not_true : (b : Bool) → not b ≡ true → b ≡ false
not_true true h = cc
not_true false h = refl

or_false : (a b : Bool) → (a || b) ≡ false → (a ≡ false) × (b ≡ false)
or_false true b h = cc
or_false false b h = (refl, h)

-- what is after the first entry is a table, and does not clash with it
heads : (e : Entry) (behind : List Entry) → is_table (e ∷ behind) ≡ true → (list_any (clashes e) behind ≡ false) × (is_table behind ≡ true)
heads e behind h = let p = and_parts (not (list_any (clashes e) behind)) (is_table behind) h in (not_true _ p.0, p.1)

-- an entry that stands in a list does not clash, where none does
apart : (e x : Entry) (behind : List Entry) → list_any (clashes e) behind ≡ false → Contains behind x → clashes e x ≡ false
apart e x [] h (k, l, is) = absurd (omega arith)
apart e x (f ∷ behind) h (zero, l, is) = ap (clashes e) (sym is) ∙ (or_false (clashes e f) (list_any (clashes e) behind) h).0
apart e x (f ∷ behind) h (suc k, l, is) = apart e x behind (or_false (clashes e f) (list_any (clashes e) behind) h).1 (k, omega arith, is)

other_code : (e x : Entry) → clashes e x ≡ false → (e.code == x.code) ≡ false
other_code e x h =
    elim (e.code == x.code) as (λ b. (e.code == x.code) ≡ b → b ≡ false) [
      | true ↦ λ same. let le : e.code ≡ x.code = eqb-true e.code x.code same in
          let bad : nat_le x.code e.code ≡ true = le-leb x.code e.code (omega arith) in cc ((or_false (nat_le x.code e.code) (bytes_eq e.name x.name) h).0)
      | false ↦ λ _. refl
    ] refl

other_name : (e x : Entry) → clashes e x ≡ false → bytes_eq e.name x.name ≡ false
other_name e x h = (or_false (nat_le x.code e.code) (bytes_eq e.name x.name) h).1

same_bytes : (a b : List ℕ) → a ≡ b → bytes_eq a b ≡ true
same_bytes a b h = (bytes_eq-Decides a b).1 h

pub name_at_each : (table : List Entry) (e : Entry) → is_table table ≡ true → Contains table e → name_at table e.code ≡ Some e.name
name_at_each [] e t (k, l, is) = absurd (omega arith)
name_at_each (f ∷ table) e t (zero, l, is) =
    rw (eq-eqb f.code e.code (ap (λ (x : Entry). x.code) is)) (ap (λ (x : Entry). Some x.name) is)
name_at_each (f ∷ table) e t (suc k, l, is) =
    let p = heads f table t in
    let here : Contains table e = (k, omega arith, is) in
    rw (other_code f e (apart f e table p.0 here)) (name_at_each table e p.1 here)

pub code_at_each : (table : List Entry) (e : Entry) → is_table table ≡ true → Contains table e → code_at table e.name ≡ Some e.code
code_at_each [] e t (k, l, is) = absurd (omega arith)
code_at_each (f ∷ table) e t (zero, l, is) =
    rw (same_bytes f.name e.name (ap (λ (x : Entry). x.name) is)) (ap (λ (x : Entry). Some x.code) is)
code_at_each (f ∷ table) e t (suc k, l, is) =
    let p = heads f table t in
    let here : Contains table e = (k, omega arith, is) in
    rw (other_name f e (apart f e table p.0 here)) (code_at_each table e p.1 here)

behind_too : (f e : Entry) (table : List Entry) → Contains table e → Contains (f ∷ table) e
behind_too f e table (k, l, is) = (suc k, omega arith, is)

entry_is : (f : Entry) (code : ℕ) (name : List ℕ) → f.code ≡ code → f.name ≡ name → f ≡ record { code = code; name = name }
entry_is f code name c n =
    let by_code : f ≡ record { code = code; name = f.name } = ap (λ (x : ℕ). let e : Entry = record { code = x; name = f.name } in e) c in
    by_code ∙ ap (λ (x : List ℕ). let e : Entry = record { code = code; name = x } in e) n

pub name_at_row : (table : List Entry) (code : ℕ) (name : List ℕ) → name_at table code ≡ Some name → Contains table (record { code = code; name = name })
name_at_row [] code name h = cc
name_at_row (f ∷ table) code name h =
    elim (f.code == code) as (λ b. (f.code == code) ≡ b → option_map (λ (e : Entry). e.name) (cond b (Some f) (find (λ (e : Entry). e.code == code) table)) ≡ Some name → Contains (f ∷ table) (record { code = code; name = name })) [
      | true ↦ λ same found. let c : f.code ≡ code = eqb-true f.code code same in let n : f.name ≡ name = cc in (0, omega arith, entry_is f code name c n)
      | false ↦ λ _ found. behind_too f _ table (name_at_row table code name found)
    ] refl h

pub code_at_row : (table : List Entry) (code : ℕ) (name : List ℕ) → code_at table name ≡ Some code → Contains table (record { code = code; name = name })
code_at_row [] code name h = cc
code_at_row (f ∷ table) code name h =
    elim (bytes_eq f.name name) as (λ b. bytes_eq f.name name ≡ b → option_map (λ (e : Entry). e.code) (cond b (Some f) (find (λ (e : Entry). bytes_eq e.name name) table)) ≡ Some code → Contains (f ∷ table) (record { code = code; name = name })) [
      | true ↦ λ same found. let c : f.code ≡ code = cc in let n : f.name ≡ name = (bytes_eq-Decides f.name name).0 same in (0, omega arith, entry_is f code name c n)
      | false ↦ λ _ found. behind_too f _ table (code_at_row table code name found)
    ] refl h

pub code_of_name : (table : List Entry) (code : ℕ) (name : List ℕ) → is_table table ≡ true → name_at table code ≡ Some name → code_at table name ≡ Some code
code_of_name table code name t h = code_at_each table (record { code = code; name = name }) t (name_at_row table code name h)

-- an entry that does not clash with an earlier one follows it, and the other way round
follows : (e x : Entry) → clashes e x ≡ false → Follows e x
follows e x h =
    let p = or_false (nat_le x.code e.code) (bytes_eq e.name x.name) h in
    let other : bytes_eq e.name x.name ≡ false = p.1 in
    (leb-false x.code e.code p.0, λ same. let one : bytes_eq e.name x.name ≡ true = same_bytes e.name x.name same in cc)

no_clash : (e x : Entry) → Follows e x → clashes e x ≡ false
no_clash e x (less, other) =
    rw (lt-leb x.code e.code less)
    (elim (bytes_eq e.name x.name) as (λ b. bytes_eq e.name x.name ≡ b → b ≡ false) [
      | true ↦ λ one. absurd (other ((bytes_eq-Decides e.name x.name).0 one))
      | false ↦ λ _. refl
    ] refl)

apart_at : (e : Entry) (behind : List Entry) → list_any (clashes e) behind ≡ false → (k : ℕ) (d : Entry) → k < length behind → clashes e (get_or behind k d) ≡ false
apart_at e [] h k d l = absurd (omega arith)
apart_at e (f ∷ behind) h zero d l = (or_false (clashes e f) (list_any (clashes e) behind) h).0
apart_at e (f ∷ behind) h (suc k) d l = apart_at e behind (or_false (clashes e f) (list_any (clashes e) behind) h).1 k d (omega arith)

none_clashes : (e : Entry) (behind : List Entry) → ((k : ℕ) (d : Entry) → k < length behind → clashes e (get_or behind k d) ≡ false) → list_any (clashes e) behind ≡ false
none_clashes e [] h = refl
none_clashes e (f ∷ behind) h = rw (h zero f (omega arith)) (none_clashes e behind (λ k d l. h (suc k) d (omega arith)))

pub pairs_follow : (table : List Entry) → is_table table ≡ true → AllPairs Follows table
pairs_follow [] t i j d a b = absurd (omega arith)
pairs_follow (e ∷ table) t i zero d a b = absurd (omega arith)
pairs_follow (e ∷ table) t zero (suc j) d a b = follows e (get_or table j d) (apart_at e table (heads e table t).0 j d (omega arith))
pairs_follow (e ∷ table) t (suc i) (suc j) d a b = pairs_follow table (heads e table t).1 i j d (omega arith) (omega arith)

pub table_of_pairs : (table : List Entry) → AllPairs Follows table → is_table table ≡ true
table_of_pairs [] p = refl
table_of_pairs (e ∷ table) p =
    let none : list_any (clashes e) table ≡ false = none_clashes e table (λ k d l. no_clash e (get_or table k d) (p zero (suc k) d (omega arith) (omega arith))) in
    and_from (not (list_any (clashes e) table)) (is_table table) (ap not none) (table_of_pairs table (λ i j d a b. p (suc i) (suc j) d (omega arith) (omega arith)))
