-- The line that says how the run of a number's scene went.
use Rattle.std.specs.Prelude.{ℕ, ◌-◌, ◌^◌, min, Bool, true, false, not, List, [], ◌∷◌, count_by, sum, codes, decimal}
use Rattle.usb_text.specs.Print.{line}
use Rattle.usb_machine.specs.declared.event.Event.{Event}
use Rattle.usb_machine.specs.declared.event.Event.TheVariants.{Submit, Give}
use Rattle.usb_machine.specs.declared.event.Answer.{Answer}
use Rattle.usb_machine.specs.declared.entry.Entry.{Entry}
use Rattle.usb_machine.specs.State.{accepted}

-- a transfer was accepted, from a thread or from a handler
abbrev pub is_accepted : Event → Answer → Bool
is_accepted (Submit urb number) answer = accepted answer
is_accepted _ answer = false

abbrev pub is_refused : Event → Answer → Bool
is_refused (Submit urb number) answer = not (accepted answer)
is_refused _ answer = false

-- a transfer came back
abbrev pub is_given : Event → Bool
is_given (Give urb) = true
is_given _ = false

-- how many bytes these are in all, as far as 64 bits count
abbrev pub bytes_in : List ℕ → ℕ
bytes_in lengths = min (sum lengths) (2 ^ 64 - 1)

-- the line of a number, by the run's history and by how many bytes each transfer moved that came back
abbrev pub summary_of : ℕ → List Entry → List ℕ → List ℕ
summary_of number history lengths = line
    (codes "gen" ∷ decimal number
    ∷ codes "calls" ∷ codes "2000"
    ∷ codes "accepted" ∷ decimal (count_by (λ (e : Entry). is_accepted e.event e.answer) history)
    ∷ codes "refused" ∷ decimal (count_by (λ (e : Entry). is_refused e.event e.answer) history)
    ∷ codes "given" ∷ decimal (count_by (λ (e : Entry). is_given e.event) history)
    ∷ codes "bytes" ∷ decimal (bytes_in lengths) ∷ [])
