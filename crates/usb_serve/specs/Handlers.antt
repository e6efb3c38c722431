-- What a handler's side of a host knows, and what a handler does with an URB that came back.
use Rattle.std.specs.Prelude.{ℕ, ◌≡◌, ◌+◌, ◌≤◌, length, Option, Some, None, Result, Ok, Err}
use Rattle.usb_types.specs.declared.urb.UrbId.{UrbId}
use Rattle.usb_types.specs.declared.urb.Action.{Action}
use Rattle.usb_types.specs.declared.urb.Action.TheVariants as action
use Rattle.usb_types.specs.declared.errno.Code.{Code}
use Rattle.usb_types.specs.declared.errno.Code.TheVariants.{Zero, Fault}
use Rattle.usb_types.specs.declared.errno.Errno.{Errno}
use Rattle.usb_machine.specs.declared.transfer.Transfer.{Transfer}
use Rattle.usb_machine.specs.Tokens.{Told}
use Rattle.usb_machine.specs.declared.host_answers.Refused.{Refused}

-- the URB that was given back
abbrev pub told_urb : Told → UrbId
told_urb t = record { 0 = t.urb }

-- whether the side's calls may be made, of which URBs a handler runs, and which URBs have a home
pub record Runs : Type 1 where
  pub is_whole : Type 0
  pub handles : ℕ → Type 0
  pub has_home : ℕ → Type 0

-- the handlers that run and the homes stay
pub record StillRuns (old new : Runs) : Type 0 where
  pub whole : new.is_whole
  pub handles : (u : ℕ) → old.handles u → new.handles u
  pub homes : (u : ℕ) → old.has_home u → new.has_home u

-- the transfer with another window, of which no byte is moved
abbrev pub windowed : ℕ → ℕ → Transfer → Transfer
windowed from len t = record t { from = from; len = len; actual = 0 }

-- where a transfer is to be submitted again, its new window lies in its buffer
abbrev pub FitsAgain : Transfer → Action → Type 0
FitsAgain t action.Rest = Unit {0}
FitsAgain t (action.Again from len) = from + len ≤ length t.buf
FitsAgain t action.Ask = Unit {0}

-- why a submit was refused, where it was
abbrev pub refusal_in : Result (Unit {0}) Refused → Option Errno
refusal_in (Ok done) = None
refusal_in (Err r) = Some r.errno

abbrev pub code_in : Option Errno → Code
code_in None = Zero
code_in (Some errno) = Fault errno
