-- What the laws of a run say of its givebacks.
use Rattle.std.specs.Prelude.{ℕ, ◌≡◌, ◌*◌, ◌⊎◌, Bool, true, false, not, ◌&&◌, ◌==◌, if◌then◌else◌, List, [], ◌∷◌, ◌++◌, length, map, filter, take, Option, Some, None}
use Rattle.usb_types.specs.declared.errno.Code.TheVariants.{Fault}
use Rattle.usb_types.specs.declared.urb.Action.{Action}
use Rattle.usb_types.specs.declared.urb.Action.TheVariants.{Again}
use Rattle.usb_types.specs.declared.urb.Role.{Role}
use Rattle.usb_types.specs.declared.urb.Role.TheVariants.{Write}
use Rattle.usb_types.specs.Codes.{errno_of}
use Rattle.usb_machine.specs.declared.layout.Shape.{Shape}
use Rattle.usb_machine.specs.declared.event.Event.{Event}
use Rattle.usb_machine.specs.declared.event.Event.TheVariants.{Mark, Finish, Rest, Claim}
use Rattle.usb_machine.specs.declared.event.Answer.TheVariants.{Code as Status, Number}
use Rattle.usb_machine.specs.declared.transfer.Transfer.{Transfer}
use Rattle.usb_machine.specs.Completion.{Completion}
use Rattle.usb_machine.specs.declared.entry.Entry.{Entry}
use Rattle.usb_machine.specs.History.{episodes_of}
use Rattle.usb_machine.specs.State.{is_zero}
use Rattle.usb_machine.specs.Laws.{HasEpisode, NoneRestsOrClaims}
use Rattle.usb_xfer.specs.declared.packet.Step.TheVariants.{Ended}
use Rattle.usb_xfer.specs.Direction.{is_control, goes_in}
use Rattle.usb_xfer.specs.Replies.{Reply, acked_by}
use Rattle.usb_xfer.specs.Output.{acks}
use Rattle.usb_xfer.specs.Control.{window_of}
use Rattle.usb_xfer.specs.Moved.{moved, moved_state, question_of}
use Rattle.usb_bind.specs.declared.row.Driver.TheVariants.{Printer}
use Rattle.usb_printer.specs.Whole.{IsWindow, IsMovedOn, action_after, IsJob, begins_at}
use Rattle.usb_scene.specs.declared.scene.Scene.{Scene}
use Rattle.usb_prepare.specs.Ends.{shape_at}
use Rattle.usb_prepare.specs.Layout.{home}
use Rattle.usb_trace.specs.declared.owner.Owner.{Owner}
use Rattle.usb_trace.specs.declared.rows.Outcome.{Outcome}
use Rattle.usb_trace.specs.declared.rows.Outcome.TheVariants as outcome
use Rattle.usb_trace.specs.Plan.{owner_of}
use Rattle.usb_trace.specs.Run.{Giveback, moved_in, resent, done_at}

-- giveback number k of a run in its history: an accepted submit of the URB with the transfer that was sent, the entries
-- between, and the URB's next Give, which is number k of the history and answers the status
pub record IsGivenBack (h : List Entry) (k : ℕ) (r : Giveback) (between : List Entry) : Type 0 where
  pub give : Entry
  pub episode : HasEpisode h r.urb r.sent.number between give
  pub carries : episode.submit.carried ≡ Some r.sent
  pub answers : give.answer ≡ Status r.status
  pub place : length (episodes_of (episode.before ++ episode.submit ∷ between)) ≡ k

-- whether an event is an unlink, a kill or a shutdown of URB u, or the end of its transfer
abbrev pub is_ending : ℕ → Event → Bool
is_ending u (Mark v why) = v.0 == u
is_ending u (Finish v code) = v.0 == u
is_ending u _ = false

-- the first such event of these entries
abbrev pub first_ending : ℕ → List Entry → Option Event
first_ending u [] = None
first_ending u (x ∷ xs) = if is_ending u x.event then Some x.event else first_ending u xs

-- where an unlink, a kill or a shutdown came first, the status is that of it, and where the transfer ended first, it is the
-- result that the replies make
abbrev pub HasStatusBy : Scene → Giveback → Option Event → Type 0
HasStatusBy s r (Some (Mark u why)) = (r.status ≡ Fault (errno_of why)) × (r.finished ≡ false)
HasStatusBy s r (Some (Finish u code)) = (moved_state (shape_at s (home s r.urb)) r.sent r.replies ≡ Ended r.status) × (r.finished ≡ true)
HasStatusBy s r o = ⊥

-- the packets that the device acknowledged, one after another: for each reply to this transfer, after the replies before it,
-- the packet that was sent, where the reply is an Ack
abbrev pub acked_packets : Shape → Transfer → List Reply → List Reply → List ℕ
acked_packets shape t before [] = []
acked_packets shape t before (reply ∷ replies) = acked_by (question_of shape (moved shape t before)) reply ++ acked_packets shape t (before ++ reply ∷ []) replies

-- whether an endpoint takes packets from the host
abbrev pub takes_packets : Shape → Bool
takes_packets shape = not (is_control shape.kind) && not (goes_in shape.address)

-- as many full packets of the window as there are Acks, and not more than the window
abbrev pub acked_window : Shape → Giveback → List ℕ
acked_window shape r = take (shape.max * acks r.replies) (window_of r.sent)

-- the completion that a printer's driver has of a giveback of its URB for writes
abbrev pub write_of : Scene → Giveback → Completion
write_of s r = record { role = Write; status = r.status; transfer = moved_in s r }

abbrev pub writes_of : Scene → List Giveback → List Completion
writes_of s job = map (write_of s) job

-- whether an URB is the one for writes
abbrev pub is_write : Role → Bool
is_write Write = true
is_write role = false

-- what the printer's driver of the binding at this place hears of its writes
abbrev pub writes_heard : Scene → ℕ → List Giveback → List Completion
writes_heard s k rounds = filter (λ (c : Completion). is_write c.role) (done_at s k rounds)

-- the driver asked for one more window, and the gate refused it
abbrev pub IsRefused : Action → Outcome → Type 0
IsRefused (Again from len) (outcome.Again (Fault errno)) = Unit {0}
IsRefused action o = ⊥

-- these windows came back, each asked for by the one before, until one was refused
abbrev pub IsCutOff : Scene → List Giveback → Type 0
IsCutOff s [] = ⊥
IsCutOff s (r ∷ []) = IsWindow (write_of s r) × IsRefused (action_after (write_of s r)) r.outcome
IsCutOff s (r ∷ next ∷ more) = IsWindow (write_of s r) × IsMovedOn (action_after (write_of s r)) (moved_in s r) (moved_in s next) × IsCutOff s (next ∷ more)

-- a job: its first window begins at the first byte, and it came to its end or was cut off
abbrev pub IsJobInRun : Scene → List Giveback → Type 0
IsJobInRun s job = (begins_at (writes_of s job) ≡ 0) × (IsJob (writes_of s job) ⊎ IsCutOff s job)

-- a printer's driver has this URB for its writes, and the endpoint takes packets
pub record IsForWrites (s : Scene) (u : ℕ) : Type 0 where
  pub owner : Owner
  pub owned : owner_of s u ≡ Some owner
  pub driver : owner.driver ≡ Printer
  pub role : owner.role ≡ Write
  pub packets : takes_packets (shape_at s (home s u)) ≡ true

-- the transfer that a handler leaves with its URB: the one that came back, or the one that it submitted again in vain
abbrev pub left_by : Transfer → Transfer → Outcome → Option Transfer
left_by back again outcome.Rest = Some back
left_by back again (outcome.Again code) = if is_zero code then None else Some again
left_by back again (outcome.Asked code) = Some back

abbrev pub left_with : Scene → Giveback → Option Transfer
left_with s r = left_by (moved_in s r) (resent s r) r.outcome

-- a handler of URB u rested this transfer, and it is the one that pass p claimed: between the two no other was rested with u,
-- and none was claimed
pub record IsLastRest (h : List Entry) (p u : ℕ) (t : Transfer) : Type 0 where
  pub before : List Entry
  pub rest : Entry
  pub between : List Entry
  pub claim : Entry
  pub behind : List Entry
  pub parts : h ≡ before ++ rest ∷ (between ++ claim ∷ behind)
  pub rests : rest.event ≡ Rest record { 0 = u } t.number
  pub carries : rest.carried ≡ Some t
  pub none : NoneRestsOrClaims u between
  pub claims : claim.event ≡ Claim record { 0 = u }
  pub pass : claim.pass ≡ p
  pub answers : claim.answer ≡ Number (Some t.number)
