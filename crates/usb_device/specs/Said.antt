-- What the script replies to a question, before the rules reply where it is left to them.
use Rattle.std.specs.Prelude.{ℕ, ◌≡◌, ◌+◌, ◌-◌, ◌⊎◌, ◌≢◌, ◌<◌, ◌≤◌, true, List, [], ◌∷◌, ◌++◌, Option, Some, slice_get, slice_set, MatchOption}
use Rattle.std.specs.Borrow.{Bor}
use Rattle.usb_device.specs.Counts.{one_more}
use Rattle.usb_xfer.specs.Replies.{Reply, Question}
use Rattle.usb_xfer.specs.declared.script.What.{What}
use Rattle.usb_xfer.specs.declared.script.What.TheVariants.{Stall}
use Rattle.usb_xfer.specs.declared.script.DeviceScript.{DeviceScript}
use Rattle.usb_device.specs.declared.said.Said.{Said}
use Rattle.usb_device.specs.declared.said.Said.TheVariants.{Item, Other, Rules}
use Rattle.usb_device.specs.declared.state.DeviceState.{DeviceState}
use Rattle.usb_device.specs.declared.place.Place.{Place}
use Rattle.usb_device.specs.declared.scripted.ScriptedEnd.{ScriptedEnd}
use Rattle.usb_device.specs.declared.scripted.Scripted.{Scripted}
use Rattle.usb_device.specs.Places.{coming, next_or}
use Rattle.usb_device.specs.Rules.{Ruled}
use Rattle.usb_device.specs.Left.{items_left, is_spent}
use Rattle.usb_device.specs.Device.{Call, ruled, reply_to, state_after, ArePlaced, AreAcked}

-- the reply of the script, or that of the rules
abbrev pub word_of : Said → DeviceScript → DeviceState → Question → Ruled
word_of (Item what) script state question = record { reply = what.now; state = state }
word_of (Other what) script state question = record { reply = what; state = state }
word_of Rules script state question = ruled script state question

-- the reply to a packet, for which there are no rules
abbrev pub packet_word : Said → Reply
packet_word (Item what) = what.now
packet_word (Other what) = what
packet_word Rules = Stall

-- the object used an item for this call, and replied this; the state and what was acknowledged are still those before it
pub record IsAsked (new : Scripted) (script : DeviceScript) (calls : List Call) (c : Call) (said : Said) : Type 0 where
  pub of : new.script.now ≡ script
  pub state : new.state ≡ state_after script calls
  pub placed : ArePlaced new script (calls ++ c ∷ [])
  pub acked : AreAcked new script calls
  pub reply : (word_of said script (state_after script calls) c.question).reply ≡ reply_to script calls c
  pub next : (word_of said script (state_after script calls) c.question).state ≡ state_after script (calls ++ c ∷ [])

-- an item of an address was used, where one was left, and then fewer are left
pub record Uses (old new : Scripted) (address : ℕ) (next : Option (Bor What)) : Type 0 where
  pub of : new.script.now ≡ old.script.now
  pub free : new.free ≡ old.free
  pub state : new.state ≡ old.state
  pub end : ScriptedEnd
  pub place : Place
  pub there : slice_get old.ends.items address ≡ Some end
  pub ends : new.ends.items ≡ slice_set old.ends.items address (record end { place = place })
  pub item : (last : Reply) → next_or last next ≡ coming last end.place address 0
  pub on : (last : Reply) (k : ℕ) → coming last place address k ≡ coming last end.place address (k + 1)
  pub left : MatchOption next (items_left new ≤ items_left old) (λ what. items_left new < items_left old)
  pub count : MatchOption next (new.used ≡ old.used) (λ what. new.used ≡ one_more old.used)
  pub rises : old.used ≤ new.used

-- the items left never rise, and fall where an address other than 00 gives a reply that only an item gives; the count of the
-- used ones stays or goes up by one, and goes up there
pub record Spends (old new : Scripted) (address : ℕ) (r : Reply) : Type 0 where
  pub left : items_left new ≤ items_left old
  pub spent : address ≢ 0 → is_spent address r ≡ true → items_left new < items_left old
  pub rises : old.used ≤ new.used
  pub count : (new.used ≡ old.used) ⊎ (new.used ≡ one_more old.used)
  pub counted : address ≢ 0 → is_spent address r ≡ true → new.used ≡ one_more old.used
