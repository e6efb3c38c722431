-- What is found among rows is found among their entries.
use Rattle.std.proofs.Common.{◌≡◌, ℕ, ◌==◌, Bool, true, false, ◌||◌, cond, List, [], ◌∷◌, map, Option, Some, None, refl, ap, ◌∙◌, sym}
use Rattle.std.specs.Prelude.{option_map, bytes_eq, find}
use Rattle.std.specs.List.{list_any}
use Rattle.usb_types.specs.declared.table.Row.{Row}
use Rattle.usb_types.specs.Table.{Entry, entry, entries, name_at, code_at}

pub list_any_map : (p : Entry → Bool) (rows : List Row) → list_any p (map entry rows) ≡ list_any (λ row. p (entry row)) rows
list_any_map p [] = refl
list_any_map p (row ∷ rows) = ap (λ b. p (entry row) || b) (list_any_map p rows)

find_map : (p : Entry → Bool) (rows : List Row) → find p (map entry rows) ≡ option_map entry (find (λ row. p (entry row)) rows)
find_map p [] = refl
find_map p (row ∷ rows) =
    elim (p (entry row)) as (λ b. cond b (Some (entry row)) (find p (map entry rows)) ≡ option_map entry (cond b (Some row) (find (λ r. p (entry r)) rows))) [
      | true ↦ refl
      | false ↦ find_map p rows
    ]

-- the name of the row that was found, or none
pub name_at_found : (rows : List Row) (code : ℕ) (found : Option Row) → found ≡ find (λ row. row.code == code) rows →
    name_at (entries rows) code ≡ option_map (λ (row : Row). row.name.now) found
name_at_found rows code found h =
    ap (option_map (λ (e : Entry). e.name)) (find_map (λ (e : Entry). e.code == code) rows)
    ∙ elim (find (λ (row : Row). row.code == code) rows) as (λ o. found ≡ o → option_map (λ (e : Entry). e.name) (option_map entry o) ≡ option_map (λ (row : Row). row.name.now) found) [
      | None ↦ λ k. ap (option_map (λ (row : Row). row.name.now)) (sym k)
      | Some row ↦ λ k. ap (option_map (λ (row : Row). row.name.now)) (sym k)
    ] h

pub code_at_found : (rows : List Row) (name : List ℕ) (found : Option Row) → found ≡ find (λ row. bytes_eq row.name.now name) rows →
    code_at (entries rows) name ≡ option_map (λ (row : Row). row.code) found
code_at_found rows name found h =
    ap (option_map (λ (e : Entry). e.code)) (find_map (λ (e : Entry). bytes_eq e.name name) rows)
    ∙ elim (find (λ (row : Row). bytes_eq row.name.now name) rows) as (λ o. found ≡ o → option_map (λ (e : Entry). e.code) (option_map entry o) ≡ option_map (λ (row : Row). row.code) found) [
      | None ↦ λ k. ap (option_map (λ (row : Row). row.code)) (sym k)
      | Some row ↦ λ k. ap (option_map (λ (row : Row). row.code)) (sym k)
    ] h
