-- The threads of a report, with their calls and what these answered.
use Rattle.std.specs.Prelude.{ℕ, ◌==◌, Bool, true, false, if◌then◌else◌, List, [], ◌∷◌, ◌++◌, filter, codes, decimal, Option, Some, None}
use Rattle.std.specs.List.{flat_map}
use Rattle.usb_types.specs.Codes.{code_text}
use Rattle.usb_text.specs.Print.{line}
use Rattle.usb_scene.specs.declared.scene.Scene.{Scene}
use Rattle.usb_scene.specs.declared.scene.SceneThread.{SceneThread}
use Rattle.usb_scene.specs.declared.scene.Target.{Target}
use Rattle.usb_scene.specs.declared.scene.Target.TheVariants as on
use Rattle.usb_scene.specs.Operation.{operation_text}
use Rattle.usb_trace.specs.declared.rows.CallAnswer.{CallAnswer}
use Rattle.usb_trace.specs.declared.rows.CallAnswer.TheVariants as told
use Rattle.usb_trace.specs.declared.rows.CallMade.{CallMade}
use Rattle.usb_report.specs.Numbered.{numbered}
use Rattle.usb_report.specs.Names.{device_name, own_name_or, role_name}

-- the words of a target, each with the space after it
abbrev pub target_text : Scene → Target → List ℕ
target_text s (on.Urb u) = own_name_or [] s u ++ codes " "
target_text s (on.Role device interface role) = role_name s device interface role ++ codes " "
target_text s (on.Interface device interface) = device_name s device ++ codes " " ++ decimal interface ++ codes " "
target_text s _ = []

-- the number of the buffer that a kill got
abbrev pub buffer_text : Option ℕ → List ℕ
buffer_text None = codes "none"
buffer_text (Some n) = codes "buffer " ++ decimal n

abbrev pub answer_text : CallAnswer → List ℕ
answer_text told.Nothing = []
answer_text told.Done = codes "ok"
answer_text (told.Code code) = code_text code
answer_text (told.Buffer n) = buffer_text n

-- LINE CALL TARGET and a space
abbrev pub call_text : Scene → CallMade → List ℕ
call_text s m = decimal m.line ++ codes " " ++ operation_text m.operation ++ codes " " ++ target_text s m.target

abbrev pub is_told : CallAnswer → Bool
is_told told.Nothing = false
is_told _ = true

-- LINE CALL TARGET ANSWER. A serve, which answers nothing, has no line
abbrev pub made_text : Scene → CallMade → List ℕ
made_text s m = if is_told m.answer then call_text s m ++ answer_text m.answer ++ codes "\n" else []

-- the calls that a thread made
abbrev pub made_by : ℕ → List CallMade → List CallMade
made_by i made = filter (λ m. m.thread == i) made

-- `thread NAME`, and the lines of the thread's calls
abbrev pub thread_text : Scene → List CallMade → ℕ → SceneThread → List ℕ
thread_text s made i thread = line (codes "thread" ∷ thread.name ∷ []) ++ flat_map (made_text s) (made_by i made)

-- the threads, in scene order
abbrev pub threads_text : Scene → List CallMade → List ℕ
threads_text s made = numbered (thread_text s made) 0 s.threads
