-- The two lists of an endpoint: how much room they have, and what a Link, a Take and a Give do to them.
use Rattle.std.specs.Prelude.{ℕ, ◌<◌, Bool, false, ◌==◌, List, [], ◌∷◌, ◌++◌, length, slice_index_or, Option, Some, None}
use Rattle.circular_buffer.specs.Buffer.{buffer}
use Rattle.usb_machine.specs.declared.event.Answer.{Answer}
use Rattle.usb_machine.specs.declared.queues.Queues.{Queues}
use Rattle.usb_machine.specs.History.{without_first, without, taken}
use Rattle.usb_machine.specs.Laws.{total, bit}

-- URB u is last in the line
abbrev pub linked : ℕ → Queues → Queues
linked u q = record q { line = buffer (q.line.items ++ u ∷ []) q.line.capacity }

-- the line's first URB, which a Take answered, is last among the pending ones
abbrev pub moved : Answer → Queues → Queues
moved answer q = record { line = buffer (without_first q.line.items) q.line.capacity; pending = buffer (q.pending.items ++ taken answer) q.pending.capacity }

-- URB u is pending no more
abbrev pub given : ℕ → Queues → Queues
given u q = record q { pending = buffer (without u q.pending.items) q.pending.capacity }

-- the home is below n, where there is one
abbrev pub HomeIsBelow : ℕ → Option ℕ → Type 0
HomeIsBelow n None = Unit {0}
HomeIsBelow n (Some e) = e < n

abbrev pub is_at : ℕ → Option ℕ → Bool
is_at e None = false
is_at e (Some d) = d == e

-- how many URBs have this endpoint as their home
abbrev pub homed_at : List (Option ℕ) → ℕ → ℕ
homed_at homes e = total (length homes) (λ u. bit (is_at e (slice_index_or homes u None)))

-- two empty lists with this room
abbrev pub no_urbs : ℕ → Queues
no_urbs room = record { line = buffer [] room; pending = buffer [] room }
