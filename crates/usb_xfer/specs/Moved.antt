-- How a list of replies moves a transfer: its bytes, and whether it goes on, waits or has ended.
use Rattle.std.specs.Prelude.{ℕ, ◌≡◌, Bool, true, false, if◌then◌else◌, List, [], ◌∷◌, ◌++◌, Option, Some, None}
use Rattle.usb_types.specs.declared.errno.Code.{Code}
use Rattle.usb_machine.specs.declared.layout.Shape.{Shape}
use Rattle.usb_machine.specs.declared.transfer.Transfer.{Transfer}
use Rattle.usb_machine.specs.Shapes.{HasWindow}
use Rattle.usb_machine.specs.Completion.{moved_bytes}
use Rattle.usb_xfer.specs.declared.script.What.TheVariants.{Nak}
use Rattle.usb_xfer.specs.declared.packet.Step.{Step}
use Rattle.usb_xfer.specs.declared.packet.Step.TheVariants.{More, Waiting, Ended}
use Rattle.usb_xfer.specs.Direction.{Direction, In, Out, ControlIn, ControlOut, direction_of, setup_in}
use Rattle.usb_xfer.specs.Replies.{Reply, Question, Fetch, Send, Ask, acked_by}
use Rattle.usb_xfer.specs.Input.{input_stops, input_code, input_moved, input_moves, input_step}
use Rattle.usb_xfer.specs.Output.{output_stops, output_code, output_moved, next_packet, output_moves, output_step}
use Rattle.usb_xfer.specs.Control.{control_stops, control_in_code, control_out_code, control_in_moved, control_out_moved, window_of, control_in_moves, control_out_moves, control_in_step, control_out_step}

abbrev pub stops_by : Direction → ℕ → Transfer → List Reply → Reply → Bool
stops_by In max t before r = input_stops max t.len before r
stops_by Out max t before r = output_stops max t.len before r
stops_by ControlIn max t before r = control_stops r
stops_by ControlOut max t before r = control_stops r

-- whether a transfer ends with this reply, after the replies before it
abbrev pub stops : Shape → Transfer → List Reply → Reply → Bool
stops shape t before r = stops_by (direction_of shape t) shape.max t before r

abbrev pub code_by : Direction → ℕ → Transfer → List Reply → Reply → Code
code_by In max t before r = input_code max t.len t.short_not_ok before r
code_by Out max t before r = output_code r
code_by ControlIn max t before r = control_in_code t.len t.short_not_ok r
code_by ControlOut max t before r = control_out_code r

-- the code that a reply ends a transfer with
abbrev pub end_code : Shape → Transfer → List Reply → Reply → Code
end_code shape t before r = code_by (direction_of shape t) shape.max t before r

-- the code of the first reply that ends the transfer
abbrev pub ending : Shape → Transfer → List Reply → List Reply → Option Code
ending shape t before [] = None
ending shape t before (r ∷ replies) = if stops shape t before r then Some (end_code shape t before r) else ending shape t (before ++ r ∷ []) replies

abbrev pub moved_by : Direction → ℕ → Transfer → List Reply → Transfer
moved_by In max t replies = input_moved max t replies
moved_by Out max t replies = output_moved max t replies
moved_by ControlIn max t replies = control_in_moved t replies
moved_by ControlOut max t replies = control_out_moved t replies

-- the transfer as the replies moved it
abbrev pub moved : Shape → Transfer → List Reply → Transfer
moved shape t replies = moved_by (direction_of shape t) shape.max t replies

abbrev pub is_nak : Reply → Bool
is_nak Nak = true
is_nak _ = false

abbrev pub ends_with_nak : List Reply → Bool
ends_with_nak [] = false
ends_with_nak (r ∷ []) = is_nak r
ends_with_nak (r ∷ s ∷ replies) = ends_with_nak (s ∷ replies)

abbrev pub state_by : Option Code → Bool → Step
state_by (Some code) nak = Ended code
state_by None true = Waiting
state_by None false = More

-- whether the transfer has ended, and else whether the last reply was a Nak
abbrev pub moved_state : Shape → Transfer → List Reply → Step
moved_state shape t replies = state_by (ending shape t [] replies) (ends_with_nak replies)

-- nothing follows the reply that ends the transfer
abbrev pub IsWhole : Shape → Transfer → List Reply → Type 0
IsWhole shape t replies = (before : List Reply) (r : Reply) (after : List Reply) → replies ≡ before ++ r ∷ after → stops shape t before r ≡ true → after ≡ []

-- no reply has ended the transfer
abbrev pub IsOpen : Shape → Transfer → List Reply → Type 0
IsOpen shape t replies = ending shape t [] replies ≡ None

-- the moved bytes of the window, where the device was sent them in packets
abbrev pub acked_in : Direction → Transfer → List ℕ
acked_in In now = []
acked_in Out now = moved_bytes now
acked_in ControlIn now = []
acked_in ControlOut now = []

-- the bytes of the window that an OUT endpoint has acknowledged
abbrev pub acked_bytes : Shape → Transfer → List Reply → List ℕ
acked_bytes shape t replies = acked_in (direction_of shape t) (moved shape t replies)

abbrev pub question_by : Direction → ℕ → Transfer → Question
question_by In max t = Fetch
question_by Out max t = Send (next_packet max t)
question_by ControlIn max t = Ask (setup_in t.setup) []
question_by ControlOut max t = Ask (setup_in t.setup) (window_of t)

-- what the host asks next
abbrev pub question_of : Shape → Transfer → Question
question_of shape t = question_by (direction_of shape t) shape.max t

abbrev pub moves_by : Direction → ℕ → Reply → Transfer → Transfer
moves_by In max r t = input_moves max r t
moves_by Out max r t = output_moves max r t
moves_by ControlIn max r t = control_in_moves r t
moves_by ControlOut max r t = control_out_moves r t

-- how one reply moves a transfer, by the table
abbrev pub reply_moves : Shape → Reply → Transfer → Transfer
reply_moves shape r t = moves_by (direction_of shape t) shape.max r t

abbrev pub step_by : Direction → ℕ → Reply → Transfer → Step
step_by In max r t = input_step max r t
step_by Out max r t = output_step max r t
step_by ControlIn max r t = control_in_step r t
step_by ControlOut max r t = control_out_step r t

-- what one reply answers, by the table
abbrev pub reply_step : Shape → Reply → Transfer → Step
reply_step shape r t = step_by (direction_of shape t) shape.max r t

-- what one more reply leaves and answers is what all the replies together do
pub record IsLastStep (shape : Shape) (old new : Transfer) (r : Reply) (step : Step) (start : Transfer) (replies : List Reply) : Type 0 where
  pub transfer : new ≡ moved shape start (replies ++ r ∷ [])
  pub state : step ≡ moved_state shape start (replies ++ r ∷ [])
  pub whole : IsWhole shape start (replies ++ r ∷ [])
  pub acked : acked_bytes shape start (replies ++ r ∷ []) ≡ acked_bytes shape start replies ++ acked_by (question_of shape old) r

-- the table's row for the reply, which is the last step of what all the replies do
pub record Advances (shape : Shape) (old new : Transfer) (r : Reply) (step : Step) : Type 0 where
  pub transfer : new ≡ reply_moves shape r old
  pub answer : step ≡ reply_step shape r old
  pub last : (start : Transfer) (replies : List Reply) → HasWindow start → IsOpen shape start replies → old ≡ moved shape start replies → IsLastStep shape old new r step start replies
