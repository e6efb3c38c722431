-- Examples that the checker computes: a keyboard that is enumerated, and a raw device.
use Rattle.std.proofs.Common.{◌≡◌, ℕ, List, [], ◌∷◌, ◌++◌, take, Some, None, refl}
use Rattle.usb_xfer.specs.Replies.{Fetch, Send, Ask}
use Rattle.usb_xfer.specs.declared.script.What.TheVariants.{Ack, Nak, Stall, Packet}
use Rattle.usb_xfer.specs.declared.script.Kind.TheVariants.{Raw, Keyboard, Acm}
use Rattle.usb_xfer.specs.declared.script.DeviceScript.{DeviceScript}
use Rattle.usb_device.specs.Rules.{first_state, default_desc}
use Rattle.usb_device.specs.Device.{Call, state_after, reply_to, acked_at}
use Rattle.usb_device.specs.Replied.{call_of}

-- a keyboard whose configuration has the value 1 and no interface; 00 has a Nak, then two Acks, and 81 two packets and a Stall
abbrev keyboard : DeviceScript
keyboard = record {
  kind = Keyboard;
  ends = [];
  desc = None;
  config = Some (9 ∷ 2 ∷ 9 ∷ 0 ∷ 0 ∷ 1 ∷ 0 ∷ 128 ∷ 50 ∷ []);
  answers =
      record { address = 0; items = record { times = 1; what = Nak } ∷ record { times = 2; what = Ack } ∷ [] }
      ∷ record { address = 0x81; items = record { times = 2; what = Packet (7 ∷ []) } ∷ record { times = 1; what = Stall } ∷ [] }
      ∷ [];
  id = None;
  port = 0x18;
}

abbrev asks : ℕ → ℕ → ℕ → ℕ → ℕ → Call
asks kind request value index length = call_of 0 (Ask (record { kind = kind; request = request; value = value; index = index; length = length }) [])

-- an enumeration's six requests
abbrev enumeration : List Call
enumeration =
    asks 0x80 6 0x0100 0 8 ∷ asks 0x00 5 1 0 0 ∷ asks 0x80 6 0x0100 0 18 ∷ asks 0x80 6 0x0200 0 9 ∷ asks 0x80 6 0x0200 0 9 ∷ asks 0x00 9 1 0 0 ∷ []

-- its first eight bytes, and all
first_bytes : reply_to keyboard [] (asks 0x80 6 0x0100 0 8) ≡ Packet (0x12 ∷ 0x01 ∷ 0x00 ∷ 0x02 ∷ 0x00 ∷ 0x00 ∷ 0x00 ∷ 0x40 ∷ [])
first_bytes = refl

all_bytes : reply_to keyboard (take 2 enumeration) (asks 0x80 6 0x0100 0 18) ≡ Packet default_desc
all_bytes = refl

-- a configuration is set after an address, and not before
too_early : reply_to keyboard [] (asks 0x00 9 1 0 0) ≡ Stall
unfolding first_state
too_early = refl

configured : reply_to keyboard (take 5 enumeration) (asks 0x00 9 1 0 0) ≡ Ack
unfolding first_state
configured = refl

other_value : reply_to keyboard (take 5 enumeration) (asks 0x00 9 2 0 0) ≡ Stall
unfolding first_state
other_value = refl

is_configured : (state_after keyboard enumeration).configuration ≡ 1
unfolding first_state
is_configured = refl

-- the seventh control transfer uses the first item, and the eighth is left to the rules
seventh : reply_to keyboard enumeration (asks 0x80 8 0 0 1) ≡ Nak
seventh = refl

eighth : reply_to keyboard (enumeration ++ asks 0x80 8 0 0 1 ∷ []) (asks 0x80 8 0 0 1) ≡ Packet (1 ∷ [])
unfolding first_state
eighth = refl

-- an address that is halted is reported so, stalls, and keeps its items
abbrev halted : List Call
halted = enumeration ++ call_of 0x81 Fetch ∷ asks 0x80 8 0 0 1 ∷ asks 0x02 3 0 0x81 0 ∷ call_of 0x81 Fetch ∷ []

halt_status : reply_to keyboard halted (asks 0x82 0 0 0x81 2) ≡ Packet (1 ∷ 0 ∷ [])
unfolding first_state
halt_status = refl

other_status : reply_to keyboard halted (asks 0x82 0 0 0x01 2) ≡ Packet (0 ∷ 0 ∷ [])
unfolding first_state
other_status = refl

halt_stalls : reply_to keyboard halted (call_of 0x81 Fetch) ≡ Stall
unfolding first_state
halt_stalls = refl

goes_on : reply_to keyboard (halted ++ asks 0x02 1 0 0x81 0 ∷ []) (call_of 0x81 Fetch) ≡ Packet (7 ∷ [])
unfolding first_state
goes_on = refl

-- an OUT address takes what comes, and its bytes are joined
takes_all : acked_at keyboard (enumeration ++ call_of 0x02 (Send (1 ∷ 2 ∷ [])) ∷ call_of 0x81 Fetch ∷ call_of 0x02 (Send (3 ∷ [])) ∷ []) 0x02 ≡ 1 ∷ 2 ∷ 3 ∷ []
unfolding first_state
takes_all = refl

-- a keyboard's LEDs and a modem's line coding
leds : (state_after keyboard (enumeration ++ asks 0x80 8 0 0 1 ∷ call_of 0 (Ask (record { kind = 0x21; request = 9; value = 0x0200; index = 0; length = 1 }) (2 ∷ [])) ∷ [])).leds ≡ 2
unfolding first_state
leds = refl

abbrev modem : DeviceScript
modem = record keyboard { kind = Acm }

line_coding : reply_to modem (call_of 0 (Ask (record { kind = 0x21; request = 0x20; value = 0; index = 0; length = 7 }) (0x80 ∷ 0x25 ∷ 0 ∷ 0 ∷ 0 ∷ 0 ∷ 8 ∷ [])) ∷ []) (asks 0xA1 0x21 0 0 7) ≡ Packet (0x80 ∷ 0x25 ∷ 0 ∷ 0 ∷ 0 ∷ 0 ∷ 8 ∷ [])
unfolding first_state
line_coding = refl

-- a raw device has items alone, and is never halted
abbrev raw : DeviceScript
raw = record keyboard { kind = Raw }

raw_items : reply_to raw [] (asks 0x80 6 0x0100 0 8) ≡ Nak
raw_items = refl

raw_last : reply_to raw (take 3 enumeration) (asks 0x80 6 0x0100 0 8) ≡ Stall
raw_last = refl

raw_goes_on : reply_to raw (asks 0x02 3 0 0x81 0 ∷ []) (call_of 0x81 Fetch) ≡ Packet (7 ∷ [])
unfolding first_state
raw_goes_on = refl
