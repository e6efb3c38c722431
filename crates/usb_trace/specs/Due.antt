-- What an endpoint is asked, and the replies that are due, after those that it gave.
use Rattle.std.specs.Prelude.{ℕ, Bool, not, ◌&&◌, ◌==◌, if◌then◌else◌, List, [], ◌∷◌, ◌++◌, length, map, replicate, slice_get, slice_index_or, Option, Some, None}
use Rattle.usb_machine.specs.declared.transfer.Transfer.{Transfer}
use Rattle.usb_xfer.specs.declared.script.What.TheVariants.{Stall}
use Rattle.usb_xfer.specs.Replies.{Reply, Question}
use Rattle.usb_xfer.specs.Moved.{question_of}
use Rattle.usb_device.specs.Device.{Call, reply_to}
use Rattle.usb_device.specs.Replied.{call_of}
use Rattle.usb_scene.specs.declared.scene.Scene.{Scene}
use Rattle.usb_scene.specs.declared.scene.SceneDevice.{SceneDevice}
use Rattle.usb_prepare.specs.Ends.{shape_at, is_raw_at}
use Rattle.usb_prepare.specs.Prepared.{probes_of}
use Rattle.usb_trace.specs.Script.{replies_from}
use Rattle.usb_trace.specs.Plan.{script_of}

-- a transfer asks so often at e
abbrev pub asks : Scene → ℕ → Transfer → ℕ → List Question
asks s e t n = replicate n (question_of (shape_at s e) t)

-- whether an endpoint answers by rules beside its items: 00 of a device of a class
abbrev pub is_ruled : Scene → ℕ → Bool
is_ruled s e = let shape = shape_at s e in not (is_raw_at s shape.device) && (shape.address == 0)

-- what a device heard before the run: its enumeration and its probes
abbrev pub heard_before : Scene → ℕ → List Call
heard_before s d = slice_index_or (probes_of s).heard d []

-- the reply at 00, after these calls
abbrev pub answer_to : Option SceneDevice → List Call → Question → Reply
answer_to None calls question = Stall
answer_to (Some device) calls question = reply_to device.script calls (call_of 0 question)

-- and the replies to one question after another, each of which joins the calls
abbrev pub answers_from : Option SceneDevice → List Call → List Question → List Reply
answers_from device calls [] = []
answers_from device calls (question ∷ questions) = answer_to device calls question ∷ answers_from device (calls ++ call_of 0 question ∷ []) questions

-- the replies to these questions, where these others were asked before in the run: by items alone they go by number
abbrev pub next_due : Scene → ℕ → List Question → List Question → List Reply
next_due s e asked questions = let shape = shape_at s e in
    if is_ruled s e
    then answers_from (slice_get s.devices shape.device) (heard_before s shape.device ++ map (call_of 0) asked) questions
    else replies_from (script_of s e) (length asked) (length questions)
