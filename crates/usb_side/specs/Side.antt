-- A host with its server, as a side: what it knows, by the server's pass.
use Rattle.std.specs.Prelude.{ℕ, ◌≡◌, ◌<◌, ◌^◌, Bool, true, false, List, [], ◌∷◌, Option, Some, None}
use Rattle.usb_types.specs.declared.urb.UrbId.{UrbId}
use Rattle.usb_types.specs.declared.errno.Code.{Code}
use Rattle.usb_types.specs.declared.errno.Errno.{Errno}
use Rattle.usb_machine.specs.declared.event.Event.TheVariants.{Finish, Give, Rest, End}
use Rattle.usb_machine.specs.declared.event.Answer.TheVariants.{Truth, Nothing, Code as Status}
use Rattle.usb_machine.specs.declared.transfer.Transfer.{Transfer}
use Rattle.usb_machine.specs.State.{is_clear}
use Rattle.usb_machine.specs.History.{Machine, HasHome, state_of, pending_of, sent_of}
use Rattle.usb_machine.specs.Calls.{entry, plain_entry, submit_entries}
use Rattle.usb_machine.specs.Fresh.{Known, Sound, Fresh, Looked}
use Rattle.usb_machine.specs.HostCalls.{IsUrb, Took, Finds, fault_at, shape_of}
use Rattle.usb_machine.specs.Tokens.{IsWholeServer, Told, is_finished}
use Rattle.usb_machine.specs.declared.host_answers.Look.{Look}
use Rattle.usb_serve.specs.Knows.{Knows}
use Rattle.usb_serve.specs.Handlers.{Runs, code_in}

-- the server's token is whole, and its pass is the host's and has seen a legal history
pub record IsWholeSide (g : Machine) (is_here : Type 0) (p : Known) (pending : ℕ → List ℕ) (given : ℕ) (has_room : Machine → Type 0) : Type 0 where
  pub here : is_here
  pub whole : IsWholeServer g p pending given has_room
  pub sound : Sound g p

-- what the side knows, with the given count, whether it is whole, and which URBs are settled
abbrev pub side_knows : Machine → Known → ℕ → Type 0 → (ℕ → Type 0) → Knows
side_knows g p given whole settled = record {
  layout = g.layout;
  is_whole = whole;
  may_give = given < 2 ^ 63;
  pending = λ e. pending_of g p.mine e;
  was_sent = λ u t. sent_of p.seen u ≡ Some t;
  is_marked = λ u. is_clear (state_of p.seen u).mark ≡ false;
  is_settled = settled;
  is_finished = λ u. is_finished (state_of p.seen u).mark ≡ true;
}

-- the calls, by the host and the server's pass before and after. The side stays over its host
pub record SideTakes {X : Type 0} (machine : X → Machine) (f g : X) (p q : Known) (ep : ℕ) (r : Option (UrbId × Transfer)) (cause : Type 0) : Type 0 where
  pub same : g ≡ f
  pub took : Took (machine f) p q ep r cause

pub record SideLooks {X : Type 0} (machine : X → Machine) (f g : X) (p q : Known) (u : UrbId) (look : Look) (soon : Type 0) : Type 0 where
  pub same : g ≡ f
  pub looked : Looked (machine f) p q
  pub finds : Finds (state_of q.seen u.0).mark look soon

pub record SideFinishes {X : Type 0} (machine : X → Machine) (f g : X) (p q : Known) (u : UrbId) (code : Code) (done : Bool) : Type 0 where
  pub same : g ≡ f
  pub fresh : Fresh (machine f) p q (entry p.number (Finish u code) (Truth done) None ∷ [])

pub record SideGives {X : Type 0} (machine : X → Machine) (f g : X) (p q : Known) (u : UrbId) (t : Transfer) (told : Told) : Type 0 where
  pub same : g ≡ f
  pub fresh : Fresh (machine f) p q (entry p.number (Give u) (Status told.code) None ∷ [])
  pub urb : told.urb ≡ u.0
  pub transfer : told.transfer ≡ Some t

-- which handlers run, and which URBs have a home
abbrev pub side_runs : Machine → Known → Type 0 → Runs
side_runs g p whole = record {
  is_whole = whole;
  handles = λ u. IsUrb g u × (0 < (state_of p.seen u).handlers);
  has_home = HasHome g;
}

-- the machine of a host that stands with another value
abbrev pub machine_in : {X Y : Type 0} → (X → Machine) → X × Y → Machine
machine_in machine pair = machine pair.0

pub record SideRests {X : Type 0} (machine : X → Machine) (f g : X) (p q : Known) (u : UrbId) (t : Transfer) : Type 0 where
  pub same : g ≡ f
  pub fresh : Fresh (machine f) p q (entry p.number (Rest u t.number) Nothing (Some t) ∷ [])

-- a shape's fault refuses without an event, or the answer is that of the call's Submit
abbrev pub SubmitsOr : Machine → Known → Known → ℕ → Transfer → Option Errno → Option Errno → Type 0
SubmitsOr f p q u t (Some e) r = (r ≡ Some e) × Looked f p q
SubmitsOr f p q u t None r = Fresh f p q (submit_entries p.number u t (code_in r))

pub record SideSubmits {X : Type 0} (machine : X → Machine) (f g : X) (p q : Known) (u : UrbId) (t : Transfer) (r : Option Errno) : Type 0 where
  pub same : g ≡ f
  pub submitted : SubmitsOr (machine f) p q u.0 t (fault_at (shape_of (machine f) u.0) t) r

pub record SideEnds {X : Type 0} (machine : X → Machine) (f g : X) (p q : Known) (u : UrbId) : Type 0 where
  pub same : g ≡ f
  pub fresh : Fresh (machine f) p q (plain_entry p.number (End u) ∷ [])
