-- What the calls and givebacks of a run add up to, where no handler asks a driver's question.
use Rattle.std.specs.Prelude.{ℕ, ◌+◌, Bool, false, not, List, [], ◌∷◌, length, map, count_by, Option, Some, None, codes, decimal}
use Rattle.usb_types.specs.declared.errno.Code.{Code}
use Rattle.usb_text.specs.Print.{line}
use Rattle.usb_machine.specs.State.{is_zero}
use Rattle.usb_generate.specs.Summary.{bytes_in}
use Rattle.usb_scene.specs.declared.operation.Operation.{Operation}
use Rattle.usb_scene.specs.declared.operation.Operation.TheVariants as op
use Rattle.usb_trace.specs.declared.rows.CallMade.{CallMade}
use Rattle.usb_trace.specs.declared.rows.CallAnswer.{CallAnswer}
use Rattle.usb_trace.specs.declared.rows.CallAnswer.TheVariants as told
use Rattle.usb_trace.specs.declared.rows.GivebackRow.{GivebackRow}
use Rattle.usb_trace.specs.declared.rows.Outcome.{Outcome}
use Rattle.usb_trace.specs.declared.rows.Outcome.TheVariants as outcome
use Rattle.usb_summary.specs.declared.counts.Counts.{Counts}

abbrev pub code_in : CallAnswer → Option Code
code_in (told.Code code) = Some code
code_in _ = None

-- the answer of an URB's gate to an operation, if it submits
abbrev pub submit_in : Operation → CallAnswer → Option Code
submit_in op.Submit answer = code_in answer
submit_in _ answer = None

abbrev pub submit_code : CallMade → Option Code
submit_code m = submit_in m.operation m.answer

-- the gate's answer to a handler, if it submitted its transfer again
abbrev pub again_code : Outcome → Option Code
again_code (outcome.Again code) = Some code
again_code _ = None

abbrev pub is_fault : Code → Bool
is_fault code = not (is_zero code)

-- the gate was asked, and answered such a code
abbrev pub is_some_of : (Code → Bool) → Option Code → Bool
is_some_of such None = false
is_some_of such (Some code) = such code

-- how many transfers were submitted and answered such a code, by the calls and by the handlers
abbrev pub submits_in : (Code → Bool) → List CallMade → List GivebackRow → ℕ
submits_in such made given =
    count_by (λ (m : CallMade). is_some_of such (submit_code m)) made + count_by (λ (g : GivebackRow). is_some_of such (again_code g.outcome)) given

abbrev pub counts_of : List CallMade → List GivebackRow → Counts
counts_of made given = record {
  accepted = submits_in is_zero made given;
  refused = submits_in is_fault made given;
  given = length given;
  bytes = bytes_in (map (λ (g : GivebackRow). g.actual) given);
}

-- the line of a number with these counts
abbrev pub counts_line : ℕ → Counts → List ℕ
counts_line number counts = line
    (codes "gen" ∷ decimal number
    ∷ codes "calls" ∷ codes "2000"
    ∷ codes "accepted" ∷ decimal counts.accepted
    ∷ codes "refused" ∷ decimal counts.refused
    ∷ codes "given" ∷ decimal counts.given
    ∷ codes "bytes" ∷ decimal counts.bytes ∷ [])
