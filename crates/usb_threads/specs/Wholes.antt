-- What a run in threads begins with, and what it comes to.
use Rattle.std.specs.Prelude.{ℕ, ◌≡◌, List, [], length, map, All}
use Rattle.usb_machine.specs.declared.entry.TheConstants.{SERVER}
use Rattle.usb_machine.specs.declared.entry.Entry.{Entry}
use Rattle.usb_machine.specs.Fresh.{Known, Sound, Begins, Looked}
use Rattle.usb_scene.specs.declared.scene.Scene.{Scene}
use Rattle.usb_prepare.specs.Below.{below}
use Rattle.usb_prepare.specs.Layout.{urb_count}
use Rattle.usb_prepare.specs.Ends.{ends_of}
use Rattle.usb_trace.specs.declared.rows.CallMade.{CallMade}
use Rattle.usb_trace.specs.declared.rows.GivebackRow.{GivebackRow}
use Rattle.usb_trace.specs.Plan.{machine_of, main_pass, pass_of}
use Rattle.usb_trace.specs.Run.{CallRecord, Giveback, IsRun, drivers_told}
use Rattle.usb_trace.specs.Rows.{made_of, end_of}
use Rattle.usb_trace.specs.GivebackRow.{giveback_row}
use Rattle.usb_threads.specs.declared.opened.Opened.{Opened}
use Rattle.usb_threads.specs.declared.ending.Ended.{Ended}
use Rattle.usb_threads.specs.declared.scene_host.Left.{Left}
use Rattle.usb_threads.specs.Passes.{WentOn, IsReady}
use Rattle.usb_threads.specs.MainPass.{HasRead, HasClosed}
use Rattle.usb_threads.specs.Controlling.{HasControlled}
use Rattle.usb_threads.specs.Jobs.{Collected}

-- the seats and the server are a host's, with their numbers, and none has made anything
pub record IsOpened {S P V : Type 0} (of : S → Type 0) (known : S → Known) (serves : V → Type 0) (own : V → Known) (is_spare : P → Type 0) (s : Scene) (opened : Opened S P V) : Type 0 where
  pub main_here : of opened.main
  pub main_number : (known opened.main).number ≡ main_pass s
  pub main_new : (known opened.main).mine ≡ []
  pub main_sound : Sound (machine_of s) (known opened.main)
  pub threads_here : All of opened.threads.items
  pub threads_new : All (λ seat. (known seat).mine ≡ []) opened.threads.items
  pub numbers : map (λ p. p.number) (map known opened.threads.items) ≡ map (pass_of s) (below (length s.threads))
  pub server_here : serves opened.server
  pub server_number : (own opened.server).number ≡ SERVER
  pub server_new : (own opened.server).mine ≡ []
  pub spare_here : is_spare opened.spare

-- main's pass before its reads
pub record IsMains (s : Scene) (p : Known) : Type 0 where
  pub number : p.number ≡ main_pass s
  pub new : p.mine ≡ []
  pub sound : Sound (machine_of s) p

-- main submitted the reads, and then the server's pass met it. Meeting others it may have seen more since
pub record HasStarted (s : Scene) (main read now server from : Known) : Type 0 where
  pub more : List Entry
  pub went : WentOn (machine_of s) main read more
  pub reads : HasRead s (urb_count s) more
  pub met : Looked (machine_of s) server from
  pub knows : Begins from.seen read.seen
  pub later : Looked (machine_of s) read now

-- main joined the threads, met each of their passes, and closed
pub record HasEnded {S : Type 0} (of : S → Type 0) (known : S → Known) (s : Scene) (read : Known) (n : ℕ) (ended : Ended S) : Type 0 where
  pub met : Known
  pub meets : Looked (machine_of s) read met
  pub count : length ended.seats.items ≡ n
  pub collected : Collected of known s read met ended.seats.items ended.made
  pub here : of ended.main
  pub more : List Entry
  pub went : WentOn (machine_of s) met (known ended.main) more
  pub closes : HasClosed s (known ended.main).seen more

-- what main, the threads and the controller came to, after one start: main's reads, and the server's pass when it had met main
pub record IsAllIn {S : Type 0} (of : S → Type 0) (known : S → Known) (s : Scene) (after : List Giveback → Type 0) (server : Known) (ended : Ended S) (given : List GivebackRow) : Type 0 where
  pub read : Known
  pub number : read.number ≡ main_pass s
  pub sound : Sound (machine_of s) read
  pub reads : HasRead s (urb_count s) read.mine
  pub from : Known
  pub ready : IsReady s read SERVER from
  pub controlled : HasControlled s after from server given
  pub ends : HasEnded of known s read (length s.threads) ended

-- the history is a run of the scene, of whose calls and givebacks the report tells this
pub record HasRun (s : Scene) (h : List Entry) (made : List CallMade) (given : List GivebackRow) (left : Left) : Type 0 where
  pub call_records : List CallRecord
  pub rounds : List Giveback
  pub run : IsRun s h call_records rounds
  pub calls_told : made ≡ map made_of call_records
  pub givebacks_told : given ≡ map (giveback_row s) rounds
  pub drivers_say : left.told ≡ drivers_told s rounds
  pub ends_say : left.ends ≡ map (end_of s rounds) (below (ends_of s))
