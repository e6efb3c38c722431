-- How the promises of main, the threads and the controller are put together.
use Rattle.std.specs.Prelude.{ℕ, ◌≡◌, ◌≢◌, ◌<◌, List, [], length, Contains}
use Rattle.std.specs.List.{flat_map}
use Rattle.usb_machine.specs.declared.entry.TheConstants.{SERVER}
use Rattle.usb_machine.specs.declared.entry.Entry.{Entry}
use Rattle.usb_machine.specs.Fresh.{Known}
use Rattle.usb_machine.specs.Tokens.{IsClosed}
use Rattle.usb_scene.specs.declared.scene.Scene.{Scene}
use Rattle.usb_prepare.specs.Below.{below}
use Rattle.usb_trace.specs.Plan.{machine_of, pass_of, main_pass}
use Rattle.usb_trace.specs.Run.{CallRecord, Giveback}
use Rattle.usb_threads.specs.MainPass.{IsMain}
use Rattle.usb_threads.specs.Scripts.{IsJoined}
use Rattle.usb_threads.specs.Serving.{IsServer}

-- the calls that the threads made, one thread after another
abbrev pub all_made : Scene → (ℕ → List CallRecord) → List CallRecord
all_made s made = flat_map made (below (length s.threads))

-- these promises are of one closed history: main's, those of the threads with the calls that each made, the controller's with its
-- givebacks. Each other pass made nothing
pub record IsPutTogether (s : Scene) (h : List Entry) (made : ℕ → List CallRecord) (rounds : List Giveback) : Type 0 where
  pub passes : List Known
  pub closed : IsClosed (machine_of s) h passes
  pub read : Known
  pub met : Known
  pub last : Known
  pub main : IsMain s read met last
  pub main_closed : Contains passes last
  pub threads : (i : ℕ) → i < length s.threads → IsJoined s passes read met i (made i)
  pub server : IsServer s passes read rounds
  pub spare : (p : Known) → Contains passes p → p.number ≢ SERVER → p.number ≢ main_pass s → ((i : ℕ) → i < length s.threads → p.number ≢ pass_of s i) → p.mine ≡ []
