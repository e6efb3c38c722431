-- What contracts see of turns: which table they are, how many passes they have, and the value with which they began.
use Rattle.std.specs.Prelude.{ℕ}
use Rattle.atomic_table.specs.Seated.{TableId}
use Rattle.usb_turn.specs.declared.turns.Turns.{Turns}

-- the table, which no other turns have
abbrev pub id_of : {V R K : Type 0} → Turns V R K → TableId
id_of t = t.table.shared.table_id

-- how many passes there are, with the numbers from 0 on
abbrev pub passes_of : {V R K : Type 0} → Turns V R K → ℕ
passes_of t = t.table.shared.key.passes

-- the value that `new` was given
abbrev pub first_of : {V R K : Type 0} → Turns V R K → V
first_of t = t.table.shared.key.first.value
