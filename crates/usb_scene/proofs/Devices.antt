-- A line of its own leaves a device well formed.
use Rattle.std.proofs.Common.{◌≡◌, ◌≢◌, ℕ, ◌<◌, ◌≤◌, ◌⊎◌, inl, inr, Bool, true, false, cond, eqb, List, [], ◌∷◌, length, refl, sym, ◌∙◌, arith, subst, lit<}
use Rattle.std.specs.Prelude.{nat_le, not, ◌&&◌, ◌||◌}
use Rattle.std.specs.List.{All, list_all, list_any}
use Rattle.std.proofs.lemmas.Bool.{and_parts, or_cases, leb-true, eqb-true, eqb-false, eq-eqb, not-true, true≢false}
use Rattle.std.proofs.lemmas.List.Elements.{All-nil, All-cons, All-head, All-tail, All-push, All-append}
use Rattle.usb_machine.specs.declared.layout.EndKind.{EndKind}
use Rattle.usb_machine.specs.declared.layout.EndKind.TheVariants.{Control, Bulk, Interrupt, Iso}
use Rattle.usb_machine.specs.declared.layout.Shape.{Shape}
use Rattle.usb_text.specs.Written.{AreBytes}
use Rattle.usb_xfer.specs.Direction.{goes_in}
use Rattle.usb_xfer.specs.declared.script.What.{What}
use Rattle.usb_xfer.specs.declared.script.What.TheVariants.{Ack, Nak, Stall, Error, Packet}
use Rattle.usb_xfer.specs.declared.script.Item.{Item}
use Rattle.usb_xfer.specs.declared.script.Answers.{Answers}
use Rattle.usb_xfer.specs.declared.script.Kind.{Kind}
use Rattle.usb_scene.specs.declared.scene.SceneDevice.{SceneDevice}
use Rattle.usb_statement.specs.declared.keyword.DeviceBytes.{DeviceBytes}
use Rattle.usb_statement.specs.declared.keyword.DeviceBytes.TheVariants.{Desc, Config, Id}
use Rattle.usb_statement.specs.Items.{is_reply_of, is_reply_at, are_items_of}
use Rattle.usb_statement.specs.Sayable.{IsEndAddress, is_end_kind, IsPacket, IsSayableItem}
use Rattle.usb_scene.specs.WellFormed.{IsEnd, IsShort, IsItemOf, IsItem, is_raw, is_printer, is_packet, IsNoPacketAt, HasOwnLines, IsDevice}
use Rattle.usb_scene.specs.Rules.{takes, most_of}
use Rattle.usb_scene.specs.Growth.{bare_device, with_end, with_bytes, with_port, together, joined, with_answers}
use Rattle.usb_scene.proofs.Pushed.{once_push, none_passes}

-- addresses
abbrev pub InRange : ℕ → Type 0
InRange a = ((0 < a) × (a < 16)) ⊎ ((128 < a) × (a < 144))

pub end_range : (a : ℕ) → IsEndAddress a → InRange a
end_range a h =
    elim (or_cases (nat_le a 15) (nat_le 129 a && nat_le a 143) h.valid) as (λ _. InRange a) [
      | inl x ↦ let no = eqb-false a 0 h.some in inl (omega arith, omega (arith, leb-true a 15 x))
      | inr y ↦ let p = and_parts (nat_le 129 a) (nat_le a 143) y in inr (omega (arith, leb-true 129 a p.0), omega (arith, leb-true a 143 p.1))
    ]

pub end_kind : (k : EndKind) → is_end_kind k ≡ true → (k ≡ Bulk) ⊎ (k ≡ Interrupt) ⊎ (k ≡ Iso)
end_kind Control h = cc
end_kind Bulk h = inl refl
end_kind Interrupt h = inr (inl refl)
end_kind Iso h = inr (inr refl)

-- items
item_short : (w : What) → IsPacket w → IsShort w
item_short Ack packet = tt
item_short Nak packet = tt
item_short Stall packet = tt
item_short Error packet = tt
item_short (Packet bytes) packet = packet.1

item_kind : (goes : Bool) (w : What) → is_reply_of goes w ≡ true → IsItemOf goes w
item_kind goes Ack h = not-true goes h
item_kind goes Nak h = tt
item_kind goes Stall h = tt
item_kind goes Error h = tt
item_kind goes (Packet bytes) h = h

item_at : (a : ℕ) (w : What) → is_reply_at a w ≡ true → a ≢ 0 → IsItemOf (goes_in a) w
item_at a w h other =
    elim (or_cases (eqb a 0) (is_reply_of (goes_in a) w) h) as (λ _. IsItemOf (goes_in a) w) [
      | inl x ↦ absurd (other (eqb-true a 0 x))
      | inr y ↦ item_kind (goes_in a) w y
    ]

pub good_items : (a : ℕ) (items : List Item) → All IsSayableItem items → are_items_of a items ≡ true → All (IsItem a) items
good_items a [] each fit = All-nil (IsItem a)
good_items a (item ∷ items) each fit =
    let p = and_parts (is_reply_at a item.what) (are_items_of a items) fit in
    let first = All-head IsSayableItem item items each in
    All-cons (IsItem a) item items
    (record { some = omega (arith, first.some); most = first.most; short = item_short item.what first.packet; kind = item_at a item.what p.0 })
    (good_items a items (All-tail IsSayableItem item items each) p.1)

-- what holds of items at the address of their answers
abbrev pub AtTheirs : (ℕ → Item → Type 0) → Answers → Type 0
AtTheirs P said = All (P said.address) said.items

together_last : (P : ℕ → Item → Type 0) (t : Bool) (said last : Answers) → eqb last.address said.address ≡ t → AtTheirs P said → AtTheirs P last
    → All (AtTheirs P) (cond t (together last said ∷ []) (last ∷ said ∷ []))
together_last P true said last e new h =
    let there = subst (λ a. All (P a) said.items) (sym (eqb-true last.address said.address e)) new in
    All-cons (AtTheirs P) (together last said) [] (All-append (P last.address) last.items said.items h there) (All-nil (AtTheirs P))
together_last P false said last e new h = All-cons (AtTheirs P) last (said ∷ []) h (All-cons (AtTheirs P) said [] new (All-nil (AtTheirs P)))

all_joined : (P : ℕ → Item → Type 0) (said : Answers) (xs : List Answers) → AtTheirs P said → All (AtTheirs P) xs → All (AtTheirs P) (joined said xs)
all_joined P said [] new h = All-cons (AtTheirs P) said [] new (All-nil (AtTheirs P))
all_joined P said (last ∷ []) new h = together_last P (eqb last.address said.address) said last refl new (All-head (AtTheirs P) last [] h)
all_joined P said (first ∷ next ∷ others) new h =
    All-cons (AtTheirs P) first (joined said (next ∷ others)) (All-head (AtTheirs P) first (next ∷ others) h) (all_joined P said (next ∷ others) new (All-tail (AtTheirs P) first (next ∷ others) h))

-- items without a packet
no_packets : (a : ℕ) (items : List Item) → list_all (λ (item : Item). not (is_packet item.what)) items ≡ true → All (IsNoPacketAt a) items
no_packets a [] h = All-nil (IsNoPacketAt a)
no_packets a (item ∷ items) h =
    let p = and_parts (not (is_packet item.what)) (list_all (λ (item : Item). not (is_packet item.what)) items) h in
    All-cons (IsNoPacketAt a) item items (λ e. not-true (is_packet item.what) p.0) (no_packets a items p.1)

pub fitting : (a : ℕ) (raw : Bool) (items : List Item) → (not (eqb a 0) || raw || list_all (λ (item : Item). not (is_packet item.what)) items) ≡ true
    → raw ≡ false → All (IsNoPacketAt a) items
fitting a raw items h classed =
    elim (or_cases (not (eqb a 0) || raw) (list_all (λ (item : Item). not (is_packet item.what)) items) h) as (λ _. All (IsNoPacketAt a) items) [
      | inl x ↦ elim (or_cases (not (eqb a 0)) raw x) as (λ _. All (IsNoPacketAt a) items) [
        | inl y ↦ λ k d l e. absurd (eqb-false a 0 (not-true (eqb a 0) y) e)
        | inr y ↦ absurd (true≢false (sym y ∙ classed))
      ]
      | inr x ↦ no_packets a items x
    ]

-- devices
pub new_device : (d : ℕ) (name : List ℕ) (kind : Kind) → IsDevice d (bare_device name kind)
new_device d name kind = record {
  ends = All-nil (IsEnd d);
  once = λ i j a b e g same. cc;
  answers = All-nil (AtTheirs IsItem);
  own = record {
    raw_desc = λ e. refl;
    raw_config = λ e. refl;
    no_ends = λ e. refl;
    no_packets = λ e. All-nil (AtTheirs IsNoPacketAt);
    no_id = λ e. refl;
    usual_port = λ e. refl;
    desc = tt;
    config = tt;
    id = tt;
    port = lit< tt;
  };
}

clash : {A : Type 0} (t : Bool) → t ≡ true → t ≡ false → A
clash true a b = cc
clash false a b = cc

pub device_with_end : (d : ℕ) (shape : Shape) (device : SceneDevice) → IsEnd d shape → is_raw device.script.kind ≡ true
    → list_any (λ (e : Shape). eqb e.address shape.address) device.script.ends ≡ false → IsDevice d device → IsDevice d (with_end shape device)
device_with_end d shape device new raw absent h = record {
  ends = All-push (IsEnd d) device.script.ends shape h.ends new;
  once = once_push (λ (e : Shape). e.address) device.script.ends shape h.once
      (λ i a e same. none_passes (λ (e : Shape). eqb e.address shape.address) device.script.ends i a absent e (eq-eqb a.address shape.address same));
  answers = h.answers;
  own = record {
    raw_desc = h.own.raw_desc;
    raw_config = h.own.raw_config;
    no_ends = λ e. clash (is_raw device.script.kind) raw e;
    no_packets = h.own.no_packets;
    no_id = h.own.no_id;
    usual_port = h.own.usual_port;
    desc = h.own.desc;
    config = h.own.config;
    id = h.own.id;
    port = h.own.port;
  };
}

-- bytes of a kind that has them
own_bytes : (which : DeviceBytes) (bytes : List ℕ) (device : SceneDevice) → takes which device.script.kind ≡ true → AreBytes bytes → length bytes ≤ most_of which
    → HasOwnLines device.script → HasOwnLines (with_bytes which bytes device).script
own_bytes Desc bytes device kind are few h = record {
  raw_desc = λ e. clash (is_raw device.script.kind) e (not-true (is_raw device.script.kind) kind);
  raw_config = h.raw_config;
  no_ends = h.no_ends;
  no_packets = h.no_packets;
  no_id = h.no_id;
  usual_port = h.usual_port;
  desc = (are, few);
  config = h.config;
  id = h.id;
  port = h.port;
}
own_bytes Config bytes device kind are few h = record {
  raw_desc = h.raw_desc;
  raw_config = λ e. clash (is_raw device.script.kind) e (not-true (is_raw device.script.kind) kind);
  no_ends = h.no_ends;
  no_packets = h.no_packets;
  no_id = h.no_id;
  usual_port = h.usual_port;
  desc = h.desc;
  config = (are, few);
  id = h.id;
  port = h.port;
}
own_bytes Id bytes device kind are few h = record {
  raw_desc = h.raw_desc;
  raw_config = h.raw_config;
  no_ends = h.no_ends;
  no_packets = h.no_packets;
  no_id = λ e. clash (is_printer device.script.kind) kind e;
  usual_port = h.usual_port;
  desc = h.desc;
  config = h.config;
  id = (are, few);
  port = h.port;
}

given_bytes : (d : ℕ) (which : DeviceBytes) (bytes : List ℕ) (device : SceneDevice) → HasOwnLines (with_bytes which bytes device).script
    → IsDevice d device → IsDevice d (with_bytes which bytes device)
given_bytes d Desc bytes device own h = record { ends = h.ends; once = h.once; answers = h.answers; own = own }
given_bytes d Config bytes device own h = record { ends = h.ends; once = h.once; answers = h.answers; own = own }
given_bytes d Id bytes device own h = record { ends = h.ends; once = h.once; answers = h.answers; own = own }

pub device_with_bytes : (d : ℕ) (which : DeviceBytes) (bytes : List ℕ) (device : SceneDevice) → takes which device.script.kind ≡ true → AreBytes bytes
    → length bytes ≤ most_of which → IsDevice d device → IsDevice d (with_bytes which bytes device)
device_with_bytes d which bytes device kind are few h = given_bytes d which bytes device (own_bytes which bytes device kind are few h.own) h

pub device_with_port : (d : ℕ) (status : ℕ) (device : SceneDevice) → is_printer device.script.kind ≡ true → status < 256 → IsDevice d device
    → IsDevice d (with_port status device)
device_with_port d status device printer small h = record {
  ends = h.ends;
  once = h.once;
  answers = h.answers;
  own = record {
    raw_desc = h.own.raw_desc;
    raw_config = h.own.raw_config;
    no_ends = h.own.no_ends;
    no_packets = h.own.no_packets;
    no_id = h.own.no_id;
    usual_port = λ e. clash (is_printer device.script.kind) printer e;
    desc = h.own.desc;
    config = h.own.config;
    id = h.own.id;
    port = small;
  };
}

pub device_with_answers : (d : ℕ) (said : Answers) (device : SceneDevice) → AtTheirs IsItem said → (is_raw device.script.kind ≡ false → AtTheirs IsNoPacketAt said)
    → IsDevice d device → IsDevice d (with_answers said device)
device_with_answers d said device new fits h = record {
  ends = h.ends;
  once = h.once;
  answers = all_joined IsItem said device.script.answers new h.answers;
  own = record {
    raw_desc = h.own.raw_desc;
    raw_config = h.own.raw_config;
    no_ends = h.own.no_ends;
    no_packets = λ e. all_joined IsNoPacketAt said device.script.answers (fits e) (h.own.no_packets e);
    no_id = h.own.no_id;
    usual_port = h.own.usual_port;
    desc = h.own.desc;
    config = h.own.config;
    id = h.own.id;
    port = h.own.port;
  };
}
