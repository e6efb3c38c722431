-- What a scripted device replies to a call, after the calls that it heard before.
use Rattle.std.specs.Prelude.{ℕ, ◌≡◌, ◌+◌, ◌-◌, Bool, true, false, not, ◌&&◌, ◌==◌, nat_lt, if◌then◌else◌, List, [], ◌∷◌, ◌++◌, length, map, slice_get, Some}
use Rattle.std.specs.List.{filter}
use Rattle.usb_xfer.specs.Replies.{Reply, Question, Fetch, Send, Ask, acked_by}
use Rattle.usb_xfer.specs.declared.script.What.TheVariants.{Ack, Stall}
use Rattle.usb_xfer.specs.declared.script.Kind.{Kind}
use Rattle.usb_xfer.specs.declared.script.Kind.TheVariants.{Raw}
use Rattle.usb_xfer.specs.declared.script.DeviceScript.{DeviceScript}
use Rattle.usb_device.specs.declared.state.DeviceState.{DeviceState}
use Rattle.usb_device.specs.declared.scripted.ScriptedEnd.{ScriptedEnd}
use Rattle.usb_device.specs.declared.scripted.Scripted.{Scripted}
use Rattle.usb_device.specs.Items.{reply_at, reply_of, items_at, script_at}
use Rattle.usb_device.specs.Places.{IsAfter}
use Rattle.usb_device.specs.Acks.{IsAcked}
use Rattle.usb_device.specs.Rules.{first_state, is_halted, Ruled, control_rule}

-- a question that the host asked at an address
pub record Call : Type 0 where
  pub address : ℕ
  pub question : Question

-- what was asked at an address
abbrev pub questions_at : ℕ → List Call → List Question
questions_at address calls = map (λ (c : Call). c.question) (filter (λ (c : Call). c.address == address) calls)

abbrev pub is_raw : Kind → Bool
is_raw Raw = true
is_raw _ = false

-- the rules are for setup packets alone
abbrev pub ruled : DeviceScript → DeviceState → Question → Ruled
ruled script state (Ask setup out) = control_rule script state setup out
ruled script state (Send packet) = record { reply = Stall; state = state }
ruled script state Fetch = record { reply = Stall; state = state }

-- what the items reply to the control transfer that n came before, if the device isn't raw: nothing to the six of an
-- enumeration; an Ack, and no item, leave the reply to the rules
abbrev pub said_at_00 : DeviceScript → ℕ → Reply
said_at_00 script n = if nat_lt n 6 then Ack else reply_at Ack (items_at 0 script.answers) (n - 6)

abbrev pub by_item : Reply → DeviceScript → DeviceState → Question → Ruled
by_item Ack script state question = ruled script state question
by_item reply script state question = record { reply = reply; state = state }

-- the reply at 00 to the call that n came before, and the state after it; a raw device has items alone
abbrev pub at_00 : DeviceScript → DeviceState → ℕ → Question → Ruled
at_00 script state n question =
    if is_raw script.kind
    then record { reply = reply_of (script_at script 0) n; state = state }
    else by_item (said_at_00 script n) script state question

-- the state after these questions at 00, which n others came before
abbrev pub state_from : DeviceScript → DeviceState → ℕ → List Question → DeviceState
state_from script state n [] = state
state_from script state n (question ∷ questions) = state_from script (at_00 script state n question).state (n + 1) questions

-- the state after these calls
abbrev pub state_after : DeviceScript → List Call → DeviceState
state_after script calls = state_from script first_state 0 (questions_at 0 calls)

-- how many of these calls, which others came before, met no halt at the address
abbrev pub unhalted : DeviceScript → ℕ → List Call → List Call → ℕ
unhalted script address before [] = 0
unhalted script address before (c ∷ calls) =
    (if (c.address == address) && not (is_halted (state_after script before) address) then 1 else 0) + unhalted script address (before ++ c ∷ []) calls

-- how many items of an address other than 00 were used
abbrev pub used_at : DeviceScript → List Call → ℕ → ℕ
used_at script calls address = unhalted script address [] calls

-- the reply at an address other than 00: a halted one uses no item
abbrev pub end_reply : DeviceScript → List Call → ℕ → Reply
end_reply script calls address =
    if is_halted (state_after script calls) address
    then Stall
    else reply_of (script_at script address) (used_at script calls address)

-- the reply to a call after these calls
abbrev pub reply_to : DeviceScript → List Call → Call → Reply
reply_to script calls c =
    if c.address == 0
    then (at_00 script (state_after script calls) (length (questions_at 0 calls)) c.question).reply
    else end_reply script calls c.address

-- the bytes that an address acknowledged of these calls, which others came before
abbrev pub acked_after : DeviceScript → ℕ → List Call → List Call → List ℕ
acked_after script address before [] = []
acked_after script address before (c ∷ calls) =
    (if c.address == address then acked_by c.question (reply_to script before c) else []) ++ acked_after script address (before ++ c ∷ []) calls

-- the bytes of the packets that an address acknowledged, joined
abbrev pub acked_at : DeviceScript → List Call → ℕ → List ℕ
acked_at script calls address = acked_after script address [] calls

-- how many items of an address were used
abbrev pub items_used : DeviceScript → List Call → ℕ → ℕ
items_used script calls address =
    if address == 0
    then (if is_raw script.kind then length (questions_at 0 calls) else length (questions_at 0 calls) - 6)
    else used_at script calls address

-- the object's places are after the items that were used, and of the six control transfers without items it knows how many are left
pub record ArePlaced (d : Scripted) (script : DeviceScript) (calls : List Call) : Type 0 where
  pub free : d.free ≡ (if is_raw script.kind then 0 else 6 - length (questions_at 0 calls))
  pub places : (a : ℕ) (end : ScriptedEnd) → slice_get d.ends.items a ≡ Some end → IsAfter end.place a (items_at a script.answers) (items_used script calls a)

-- the object counts what its addresses acknowledged
abbrev pub AreAcked : Scripted → DeviceScript → List Call → Type 0
AreAcked d script calls = (a : ℕ) (end : ScriptedEnd) → slice_get d.ends.items a ≡ Some end → IsAcked end.acked (acked_at script calls a)

-- the object has this script, and heard these calls
pub record Stands (d : Scripted) (script : DeviceScript) (calls : List Call) : Type 0 where
  pub of : d.script.now ≡ script
  pub state : d.state ≡ state_after script calls
  pub placed : ArePlaced d script calls
  pub acked : AreAcked d script calls
