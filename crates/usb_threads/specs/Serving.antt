-- What the controller promises of the server's pass, whose entries are the takes, the finishes, the givebacks and their handlers.
use Rattle.std.specs.Prelude.{ℕ, ◌≡◌, ◌<◌, true, not, filter, if◌then◌else◌, List, [], ◌∷◌, ◌++◌, length, map, slice_get, Option, Some, None, All, Contains}
use Rattle.std.specs.List.{flat_map}
use Rattle.usb_machine.specs.declared.entry.TheConstants.{SERVER}
use Rattle.usb_machine.specs.declared.event.Event.TheVariants.{Give}
use Rattle.usb_machine.specs.declared.event.Answer.TheVariants.{Code as Status}
use Rattle.usb_machine.specs.declared.entry.Entry.{Entry}
use Rattle.usb_machine.specs.History.{home_of, pending_of, sent_of, episodes_of}
use Rattle.usb_machine.specs.declared.event.Event.TheVariants.{End}
use Rattle.usb_machine.specs.declared.transfer.Transfer.{Transfer}
use Rattle.usb_machine.specs.Shapes.{shape_fault}
use Rattle.usb_machine.specs.State.{is_zero}
use Rattle.usb_machine.specs.Calls.{entry, plain_entry}
use Rattle.usb_machine.specs.Fresh.{Known, Begins}
use Rattle.usb_scene.specs.declared.scene.Scene.{Scene}
use Rattle.usb_prepare.specs.Ends.{shape_at}
use Rattle.usb_prepare.specs.Layout.{home}
use Rattle.usb_trace.specs.declared.rows.Outcome.{Outcome}
use Rattle.usb_trace.specs.declared.rows.Outcome.TheVariants as outcome
use Rattle.usb_trace.specs.Plan.{machine_of, handlers_pass, DriverQuestion, question_at}
use Rattle.usb_trace.specs.Due.{next_due}
use Rattle.usb_trace.specs.Run.{Giveback, is_aside, submit_of, rest_entry, given_entries, handled_by, resent, episode_of, is_first, firsts_of, rounds_at, replies_in, asked_in, asked_of, IsGiveback, moved_in, acts, IsHandled, AreHandled}
use Rattle.usb_threads.specs.Passes.{WentOn, IsReady}
use Rattle.usb_threads.specs.Apt.{AreApt}

-- the entries that belong to givebacks: all but the takes, and the finishes that found a mark
abbrev pub of_givebacks : List Entry → List Entry
of_givebacks m = filter (λ x. not (is_aside x.event x.answer)) m

-- what a handler adds: its URB's home may not take what goes again, and then the submit makes no entry
abbrev pub completed_by : Scene → ℕ → Transfer → Transfer → Option DriverQuestion → Outcome → List Entry
completed_by s u back again asking outcome.Rest = handled_by s u back again asking outcome.Rest
completed_by s u back again asking (outcome.Again code) =
    submit_of (shape_fault (shape_at s (home s u)) again) (handlers_pass s) u again code ++ (if is_zero code then [] else rest_entry (handlers_pass s) u again ∷ [])
completed_by s u back again asking (outcome.Asked code) = handled_by s u back again asking (outcome.Asked code)

abbrev pub completion_entries : Scene → Giveback → List Entry
completion_entries s r = completed_by s r.urb (moved_in s r) (resent s r) (question_at s r.urb) r.outcome ++ plain_entry (handlers_pass s) (End record { 0 = r.urb }) ∷ []

-- a giveback with its handler. Where each transfer that was sent is one that its URB may have, these are the run's
abbrev pub served_entries : Scene → Giveback → List Entry
served_entries s r = given_entries r.urb r.status r.finished ++ completion_entries s r

-- the server, which has seen this history and has these entries of its own, made these givebacks, each with its handler right after it.
-- Their replies are those that were due, if each transfer that was sent in what it has seen is one that its URB may have
pub record HasServed (s : Scene) (seen mine : List Entry) (rounds : List Giveback) : Type 0 where
  pub entries : of_givebacks mine ≡ flat_map (served_entries s) rounds
  pub gives : episodes_of seen ≡ map episode_of rounds
  pub firsts : (k : ℕ) (r : Giveback) → slice_get rounds k ≡ Some r → 0 < length r.replies → slice_get (firsts_of (machine_of s) seen) k ≡ Some true
  pub replies : AreApt s seen → (e : ℕ) → replies_in (rounds_at s e rounds) ≡ next_due s e [] (asked_of s e rounds)
  pub moves : All (IsGiveback s) rounds
  pub handled : AreHandled s [] rounds

-- and its pass went on so
pub record Served (s : Scene) (from to : Known) (rounds : List Giveback) : Type 0 where
  pub more : List Entry
  pub went : WentOn (machine_of s) from to more
  pub served : HasServed s to.seen to.mine rounds

-- the server's pass met main before the controller's first turn, and came to the close as its last turn left it
pub record IsServer (s : Scene) (passes : List Known) (read : Known) (rounds : List Giveback) : Type 0 where
  pub from : Known
  pub to : Known
  pub ready : IsReady s read SERVER from
  pub served : Served s from to rounds
  pub closed : Contains passes to

-- the server looked about, and gave nothing back
pub record GaveNothing (s : Scene) (p q : Known) : Type 0 where
  pub more : List Entry
  pub went : WentOn (machine_of s) p q more
  pub aside : of_givebacks more ≡ []

-- after these givebacks it made one more, of the transfer that was sent last
pub record Gave (s : Scene) (rounds : List Giveback) (p q : Known) (r : Giveback) : Type 0 where
  pub more : List Entry
  pub went : WentOn (machine_of s) p q more
  pub entries : of_givebacks more ≡ served_entries s r
  -- the history before its Give, which begins with all that the pass had seen
  pub before : List Entry
  pub later : List Entry
  pub late : Begins before p.seen
  pub split : q.seen ≡ before ++ entry SERVER (Give record { 0 = r.urb }) (Status r.status) None ∷ later
  pub was_sent : sent_of before r.urb ≡ Some r.sent
  pub first : 0 < length r.replies → is_first r.urb (pending_of (machine_of s) before (home_of (machine_of s) r.urb)) ≡ true
  -- its replies are those that are due next at its endpoint, if each transfer that was sent is one that its URB may have, and they
  -- move its transfer. Its handler does what it should
  pub replies : AreApt s q.seen → r.replies ≡ next_due s (home s r.urb) (asked_of s (home s r.urb) rounds) (asked_in s r)
  pub moves : IsGiveback s r
  pub handled : IsHandled (acts s rounds r.urb r.status (moved_in s r)) r.outcome
