-- What devices report when they are probed: ids that have room, one for each binding.
use Rattle.std.proofs.Common.{ℕ, ◌≡◌, ◌+◌, ◌-◌, ◌≤◌, Bool, true, false, cond, eqb, Option, Some, None, Result, Ok, Err, List, [], ◌∷◌, ◌++◌, length, refl, arith, length-append}
use Rattle.std.specs.Prelude.{nat_lt}
use Rattle.std.specs.List.{All}
use Rattle.std.proofs.lemmas.Bool.{eqb-true}
use Rattle.std.proofs.lemmas.List.{length-take}
use Rattle.std.proofs.lemmas.List.Elements.{All-nil, All-head, All-tail, All-push, All-append, All-weaker}
use Rattle.usb_desc.specs.declared.tree.Alt.{Alt}
use Rattle.usb_ctrl.specs.declared.enumerator.Attached.{Attached}
use Rattle.usb_xfer.specs.Replies.{Reply, Ask}
use Rattle.usb_xfer.specs.declared.script.What.TheVariants.{Ack, Nak, Stall, Error, Packet}
use Rattle.usb_xfer.specs.declared.script.Item.{Item}
use Rattle.usb_xfer.specs.declared.script.Answers.{Answers}
use Rattle.usb_xfer.specs.declared.script.DeviceScript.{DeviceScript}
use Rattle.usb_device.specs.declared.state.DeviceState.{DeviceState}
use Rattle.usb_device.specs.Items.{reply_at, reply_of, items_at, script_at}
use Rattle.usb_device.specs.Rules.{given, gives, control_rule}
use Rattle.usb_device.specs.Device as devices
use Rattle.usb_device.specs.Device.{Call, questions_at, said_at_00, by_item, state_after, reply_to}
use Rattle.usb_bind.specs.declared.row.Driver.{Driver}
use Rattle.usb_bind.specs.declared.row.Driver.TheVariants.{Keyboard, Acm, Printer}
use Rattle.usb_bind.specs.declared.bound.Bound.{Bound}
use Rattle.usb_bind.specs.declared.fault.ProbeFault.{ProbeFault}
use Rattle.usb_bind.specs.Interfaces.{interfaces_of}
use Rattle.usb_bind.specs.Pool.{Homes}
use Rattle.usb_bind.specs.Profile.{profile_rows}
use Rattle.usb_bind.specs.Board.{with_binding}
use Rattle.usb_bind.specs.Probe.{probed, pool_after}
use Rattle.usb_scene.specs.declared.scene.Scene.{Scene}
use Rattle.usb_scene.specs.declared.scene.SceneDevice.{SceneDevice}
use Rattle.usb_scene.specs.WellFormed.{IsShort, IsItem, is_raw, is_packet, IsNoPacketAt, IsDevice, IsWellFormed}
use Rattle.usb_prepare.specs.declared.found.Probe.TheVariants as probe
use Rattle.usb_prepare.specs.Enumerated.{attached_of}
use Rattle.usb_prepare.specs.Ends.{address_of, attached_as}
use Rattle.usb_prepare.specs.Probing.{id_request, requests_of, asking, Asked, ask_each, bytes_in, id_by, id_told, Probing, settled, probed_by, with_probe, IsWithin, FitsRoom}
use Rattle.usb_prepare.specs.Prepared.{Probes, with_device, probing_from, probed_device, probed_from, enumeration_of, probes_of, bindings_of, ids_of}
use Rattle.usb_prepare.proofs.Lists.{fold_keeps}
use Rattle.usb_prepare.proofs.Numbering.{AreDevices, first_is, others_are, devices_at}

-- items whose replies bring no more bytes than this
abbrev AreWithin : ℕ → List Item → Type 0
AreWithin most items = All (λ (item : Item). IsWithin most item.what) items

item_within : (most : ℕ) (last : Reply) → IsWithin most last → (items : List Item) → AreWithin most items → (n : ℕ) → IsWithin most (reply_at last items n)
item_within most last is [] all n = is
item_within most last is (x ∷ items) all n =
    go (nat_lt n x.times) (item_within most last is items (All-tail (λ (item : Item). IsWithin most item.what) x items all) (n - x.times))
  where
    go : (b : Bool) → IsWithin most (reply_at last items (n - x.times)) → IsWithin most (cond b x.what (reply_at last items (n - x.times)))
    go true rest = All-head (λ (item : Item). IsWithin most item.what) x items all
    go false rest = rest

-- the items of address 00 bring no more bytes than this
abbrev SayWithin : ℕ → Answers → Type 0
SayWithin most said = said.address ≡ 0 → AreWithin most said.items

items_within : (most : ℕ) (lines : List Answers) → All (SayWithin most) lines → AreWithin most (items_at 0 lines)
items_within most [] all = All-nil (λ (item : Item). IsWithin most item.what)
items_within most (x ∷ lines) all =
    All-append (λ (item : Item). IsWithin most item.what) (cond (eqb x.address 0) x.items []) (items_at 0 lines) (go (eqb x.address 0) refl) (items_within most lines (All-tail (SayWithin most) x lines all))
  where
    go : (b : Bool) → eqb x.address 0 ≡ b → AreWithin most (cond b x.items [])
    go true e = All-head (SayWithin most) x lines all (eqb-true x.address 0 e)
    go false e = All-nil (λ (item : Item). IsWithin most item.what)

-- the reply to a request for an id, which the rules cut to 1,023 bytes
module _ (script : DeviceScript) (most : ℕ) (enough : 1023 ≤ most) (say : All (SayWithin most) script.answers) (calls : List Call) (i : ℕ) where
  abbrev state : DeviceState
  state = state_after script calls

  abbrev before : ℕ
  before = length (questions_at 0 calls)

  abbrev items : List Item
  items = items_at 0 script.answers

  by_rule : IsWithin most (control_rule script state (id_request i) []).reply
  by_rule = go (given script state (id_request i))
    where
      go : (o : Option (List ℕ)) → IsWithin most (gives state 1023 o).reply
      go None = tt
      go (Some bytes) = let long = length-take 1023 bytes in omega arith

  by_word : (r : Reply) → IsWithin most r → IsWithin most (by_item r script state (Ask (id_request i) [])).reply
  by_word Ack is = by_rule
  by_word Nak is = tt
  by_word Stall is = tt
  by_word Error is = tt
  by_word (Packet bytes) is = is

  said_within : IsWithin most (said_at_00 script before)
  said_within = go (nat_lt before 6)
    where
      go : (b : Bool) → IsWithin most (cond b Ack (reply_at Ack items (before - 6)))
      go true = tt
      go false = item_within most Ack tt items (items_within most script.answers say) (before - 6)

  reply_within : IsWithin most (reply_to script calls (asking (id_request i)))
  reply_within = go (devices.is_raw script.kind)
    where
      go : (raw : Bool) → IsWithin most (cond raw (record { reply = reply_of (script_at script 0) before; state = state }) (by_item (said_at_00 script before) script state (Ask (id_request i) []))).reply
      go true = item_within most Stall tt items (items_within most script.answers say) before
      go false = by_word (said_at_00 script before) said_within

short_within : (r : Reply) → IsShort r → IsWithin 1024 r
short_within Ack is = tt
short_within Nak is = tt
short_within Stall is = tt
short_within Error is = tt
short_within (Packet bytes) is = is

no_packet_within : (r : Reply) → is_packet r ≡ false → IsWithin 1023 r
no_packet_within Ack is = tt
no_packet_within Nak is = tt
no_packet_within Stall is = tt
no_packet_within Error is = tt
no_packet_within (Packet bytes) is = cc

-- an id has room
pub fits_room : (d : ℕ) (device : SceneDevice) → IsDevice d device → FitsRoom device.script
fits_room d device is calls i = reply_within device.script 1024 (omega arith) say calls i
  where
    say : All (SayWithin 1024) device.script.answers
    say = All-weaker (λ (said : Answers). All (IsItem said.address) said.items) (SayWithin 1024)
        (λ said all at. All-weaker (IsItem said.address) (λ (item : Item). IsWithin 1024 item.what) (λ item one. short_within item.what one.short) said.items all) device.script.answers is.answers

-- and is what was asked for at most
tells_short : (d : ℕ) (device : SceneDevice) → IsDevice d device → is_raw device.script.kind ≡ false → (calls : List Call) (i : ℕ) → IsWithin 1023 (reply_to device.script calls (asking (id_request i)))
tells_short d device is other calls i = reply_within device.script 1023 (omega arith) say calls i
  where
    say : All (SayWithin 1023) device.script.answers
    say = All-weaker (λ (said : Answers). All (IsNoPacketAt said.address) said.items) (SayWithin 1023)
        (λ said all at. All-weaker (IsNoPacketAt said.address) (λ (item : Item). IsWithin 1023 item.what) (λ item one. no_packet_within item.what (one at)) said.items all) device.script.answers (is.own.no_packets other)

bytes_short : (most : ℕ) (r : Reply) → IsWithin most r → length (bytes_in r) ≤ most
bytes_short most Ack is = omega arith
bytes_short most Nak is = omega arith
bytes_short most Stall is = omega arith
bytes_short most Error is = omega arith
bytes_short most (Packet bytes) is = is

id_short : (driver : Driver) (script : DeviceScript) (calls : List Call) (i : ℕ) → IsWithin 1023 (reply_to script calls (asking (id_request i))) → length (id_by driver script calls i) ≤ 1023
id_short Keyboard script calls i is = omega arith
id_short Acm script calls i is = omega arith
id_short Printer script calls i is = bytes_short 1023 (reply_to script calls (asking (id_request i))) is

-- a device that is enumerated isn't raw
pub attached_not_raw : (d : ℕ) (device : SceneDevice) (a : Attached) → attached_as d device ≡ Some a → is_raw device.script.kind ≡ false
unfolding attached_as
attached_not_raw d device a is = go (is_raw device.script.kind) is
  where
    go : (raw : Bool) → cond raw None (attached_of device.script (address_of d)) ≡ Some a → raw ≡ false
    go true e = cc
    go false e = refl

-- each binding has an id, of no more bytes than were asked for
pub record AreTold (bindings : List Bound) (ids : List (List ℕ)) : Type 0 where
  pub count : length ids ≡ length bindings
  pub short : All (λ (id : List ℕ). length id ≤ 1023) ids

one_told : (bindings : List Bound) (ids : List (List ℕ)) (b : Bound) (id : List ℕ) → length id ≤ 1023 → AreTold bindings ids → AreTold (bindings ++ b ∷ []) (ids ++ id ∷ [])
one_told bindings ids b id is old = record {
  count = (let same = old.count in let one = length-append ids (id ∷ []) in let other = length-append bindings (b ∷ []) in omega arith);
  short = All-push (λ (id : List ℕ). length id ≤ 1023) ids id old.short is;
}

settled_told : (p : Probing) (b : Bound) (pool : Homes) (asked : Asked) (id : List ℕ) → length id ≤ 1023 → AreTold p.board.bindings p.ids → AreTold (settled p b pool asked id).board.bindings (settled p b pool asked id).ids
settled_told p b pool asked id is old = go asked.answered
  where
    same : Probing
    same = record p { calls = asked.calls; probes = p.probes ++ probe.Cancelled ∷ [] }

    more : Probing
    more = record { board = with_binding p.board b; pool = pool; calls = asked.calls; probes = p.probes ++ probe.Bound ∷ []; ids = p.ids ++ id ∷ [] }

    go : (x : Bool) → AreTold (cond x more same).board.bindings (cond x more same).ids
    go true = one_told p.board.bindings p.ids b id is old
    go false = old

module _ (device : SceneDevice) (short : (calls : List Call) (i : ℕ) → IsWithin 1023 (reply_to device.script calls (asking (id_request i)))) where
  probe_told : (d : ℕ) (p : Probing) (alt : Alt) → AreTold p.board.bindings p.ids → AreTold (with_probe device.script d p alt).board.bindings (with_probe device.script d p alt).ids
  probe_told d p alt old = go (probed p.board p.pool profile_rows d alt.number)
    where
      pool : Homes
      pool = pool_after p.board p.pool profile_rows d alt.number

      go : (r : Result Bound ProbeFault) → AreTold (probed_by device.script p pool r).board.bindings (probed_by device.script p pool r).ids
      go (Ok b) = settled_told p b pool (ask_each device.script p.calls (requests_of b.driver b.interface)) (id_told device.script p.calls b)
          (id_short b.driver device.script p.calls b.interface (short p.calls b.interface)) old
      go (Err fault) = old

device_told : (d : ℕ) (device : SceneDevice) → IsDevice d device → (p : Probing) → AreTold p.board.bindings p.ids
    → AreTold (probed_device d device.script (attached_as d device) p).board.bindings (probed_device d device.script (attached_as d device) p).ids
device_told d device is p old = go (attached_as d device) refl
  where
    go : (o : Option Attached) → attached_as d device ≡ o → AreTold (probed_device d device.script o p).board.bindings (probed_device d device.script o p).ids
    go None e = old
    go (Some a) e = fold_keeps (λ (p : Probing). AreTold p.board.bindings p.ids) (with_probe device.script d) (probe_told device (tells_short d device is (attached_not_raw d device a e)) d) p (interfaces_of a.config) old

all_told : (d : ℕ) (ds : List SceneDevice) → AreDevices d ds → (w : Probes) → AreTold w.board.bindings w.ids → AreTold (probed_from d ds w).board.bindings (probed_from d ds w).ids
all_told d [] all w old = old
all_told d (x ∷ ds) all w old =
    all_told (d + 1) ds (others_are d x ds all) (with_device w (probed_device d x.script (attached_as d x) (probing_from w (enumeration_of d x))))
    (device_told d x (first_is d x ds all) (probing_from w (enumeration_of d x)) old)

pub told : (s : Scene) → IsWellFormed s → AreTold (bindings_of s) (ids_of s)
unfolding probes_of
told s good = all_told 0 s.devices (devices_at s good) _ record { count = refl; short = All-nil (λ (id : List ℕ). length id ≤ 1023) }
