-- The events of a printer, as lines.
use Rattle.std.specs.Prelude.{ℕ, List, [], ◌∷◌, codes, decimal}
use Rattle.std.specs.List.{flat_map}
use Rattle.usb_types.specs.Codes.{code_text}
use Rattle.usb_text.specs.Print.{hex_pair, line}
use Rattle.usb_printer.specs.declared.event.Event.{Event}
use Rattle.usb_printer.specs.declared.event.Event.TheVariants.{Id, Job, Port}

-- id TEXT, job NUMBER BYTES STATUS, port HH
abbrev pub job_text : Event → List ℕ
job_text (Id text) = line (codes "id" ∷ text ∷ [])
job_text (Job number bytes code) = line (codes "job" ∷ decimal number ∷ decimal bytes ∷ code_text code ∷ [])
job_text (Port status) = line (codes "port" ∷ hex_pair status ∷ [])

abbrev pub jobs_text : List Event → List ℕ
jobs_text events = flat_map job_text events
