-- Where a descriptor ends.
use Rattle.std.specs.Prelude.{◌≡◌, ℕ, ◌==◌, nat_lt, if◌then◌else◌, List, length, take, drop, slice_index, Result, Ok, Err}
use Rattle.usb_desc.specs.declared.fault.DescFault.{DescFault}
use Rattle.usb_desc.specs.declared.fault.DescFault.TheVariants.{Short, BadLength, Memory}

-- the standard length of a type
abbrev pub standard_length : ℕ → ℕ
standard_length kind = if kind == 1 then 18 else if kind == 2 then 9 else if kind == 4 then 9 else if kind == 5 then 7 else 2

-- the first descriptor and the bytes after it; at is its place, and short what is reported where bytes are missing
abbrev pub cut : ℕ → ℕ → List ℕ → Result (List ℕ × List ℕ) DescFault
cut short at bytes =
    if nat_lt (length bytes) 2 then Err (Short short)
    else if nat_lt (length bytes) (slice_index bytes 0) then Err (Short short)
    else if nat_lt (slice_index bytes 0) (standard_length (slice_index bytes 1)) then Err (BadLength at)
    else Ok (take (slice_index bytes 0) bytes, drop (slice_index bytes 0) bytes)

-- what was answered, seen by view, is what reading gives, unless memory ran out
abbrev pub Fails : {Y : Type 0} → DescFault → Result Y DescFault → Type 0
Fails Memory read = Unit {0}
Fails fault read = read ≡ Err fault

abbrev pub Gives : {X Y : Type 0} → (X → Y) → Result X DescFault → Result Y DescFault → Type 0
Gives view (Ok x) read = read ≡ Ok (view x)
Gives view (Err fault) read = Fails fault read
