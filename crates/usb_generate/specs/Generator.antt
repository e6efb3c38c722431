-- The scene of a number: four raw devices with 64 answers each, sixteen URBs, and a thread of 2,000 calls.
use Rattle.std.specs.Prelude.{ℕ, zero, suc, ◌+◌, ◌*◌, ◌%◌, ◌==◌, nat_lt, false, if◌then◌else◌, List, [], ◌∷◌, ◌++◌, map, replicate, None, codes, decimal}
use Rattle.std.specs.List.{range_with_len}
use Rattle.usb_machine.specs.declared.layout.EndKind.TheVariants.{Bulk}
use Rattle.usb_xfer.specs.declared.script.Kind.TheVariants.{Raw}
use Rattle.usb_xfer.specs.declared.script.What.{What}
use Rattle.usb_xfer.specs.declared.script.What.TheVariants.{Nak, Stall, Packet}
use Rattle.usb_xfer.specs.declared.script.Item.{Item}
use Rattle.usb_statement.specs.declared.keyword.UrbCall.TheVariants.{Unlink, Kill}
use Rattle.usb_statement.specs.declared.keyword.BareCall.TheVariants.{Serve}
use Rattle.usb_scene.specs.declared.scene.Scene.{Scene}
use Rattle.usb_scene.specs.declared.scene.SceneDevice.{SceneDevice}
use Rattle.usb_scene.specs.declared.scene.SceneUrb.{SceneUrb}
use Rattle.usb_scene.specs.declared.scene.Call.{Call}
use Rattle.usb_scene.specs.declared.scene.Target.TheVariants as target
use Rattle.usb_scene.specs.Growth.{plain_call, urb_call_code, bare_call_code}
use Rattle.usb_generate.specs.Draws.{beginning, behind, draw}

-- what an answer is, by the two numbers that are drawn for it: a NAK, a STALL, or a packet of n bytes
abbrev pub reply_of : ℕ → ℕ → ℕ → What
reply_of t n byte = if t == 0 then Nak else if t == 1 then Stall else Packet (replicate n byte)

-- an answer that is given once
abbrev pub item_of : ℕ → ℕ → ℕ → Item
item_of t n byte = record { times = 1; what = reply_of t n byte }

-- how many numbers are drawn for an answer: only a packet has a second one
abbrev pub item_draws : ℕ → ℕ
item_draws t = if nat_lt t 2 then 1 else 2

-- the draw with which answer j begins
unfoldable pub item_place : ℕ → ℕ → ℕ
item_place x zero = 0
item_place x (suc j) = item_place x j + item_draws (draw x (item_place x j) 8)

-- answer j of those that are drawn from x on; its bytes are j
abbrev pub item_at : ℕ → ℕ → Item
item_at x j = item_of (draw x (item_place x j) 8) (draw x (item_place x j + 1) 65) j

-- the first n answers
unfoldable pub items : ℕ → ℕ → List Item
items x n = map (item_at x) (range_with_len 0 n)

-- where the answers of device d begin, and after the last device the calls
unfoldable pub device_beginning : ℕ → ℕ → ℕ
device_beginning x zero = x
device_beginning x (suc d) = behind (item_place (device_beginning x d) 64) (device_beginning x d)

-- device d, with one endpoint that goes in
abbrev pub device_of : ℕ → List Item → SceneDevice
device_of d said = record {
  name = codes "d" ++ decimal d;
  script = record {
    kind = Raw;
    ends = record { device = d; address = 129; kind = Bulk; max = 64; interval = 0 } ∷ [];
    desc = None;
    config = None;
    answers = record { address = 129; items = said } ∷ [];
    id = None;
    port = 24;
  };
}

-- device d with its answers
abbrev pub device_at : ℕ → ℕ → SceneDevice
device_at x d = device_of d (items (device_beginning x d) 64)

-- the first n devices
unfoldable pub devices : ℕ → ℕ → List SceneDevice
devices x n = map (device_at x) (range_with_len 0 n)

-- u0 to u15
abbrev pub urb_name : ℕ → List ℕ
urb_name i = codes "u" ++ decimal i

-- URB i
abbrev pub urb_at : ℕ → SceneUrb
urb_at i = record { name = urb_name i; device = i % 4; address = 129; len = 64 * (1 + i % 2); again = i % 3; short = false }

-- the first n URBs
unfoldable pub urbs : ℕ → List SceneUrb
urbs n = map urb_at (range_with_len 0 n)

-- what a call is, by the two numbers that are drawn for it: it submits, unlinks or kills an URB, or serves
abbrev pub call_of : ℕ → ℕ → ℕ → Call
call_of line c u =
    if nat_lt c 4 then plain_call line 1 (target.Urb u) None None
    else if c == 4 then plain_call line (urb_call_code Unlink) (target.Urb u) None None
    else if c == 5 then plain_call line (urb_call_code Kill) (target.Urb u) None None
    else plain_call line (bare_call_code Serve) target.Nothing None None

-- how many numbers are drawn for a call: only one on an URB has a second one
abbrev pub call_draws : ℕ → ℕ
call_draws c = if nat_lt c 6 then 2 else 1

-- the draw with which call i begins
unfoldable pub call_place : ℕ → ℕ → ℕ
call_place x zero = 0
call_place x (suc i) = call_place x i + call_draws (draw x (call_place x i) 8)

-- call i of those that are drawn from x on. In the text of the scene the header is line 1, each device has three lines, each URB
-- one and the thread one, so the calls begin with line 31.
abbrev pub call_at : ℕ → ℕ → Call
call_at x i = call_of (31 + i) (draw x (call_place x i) 8) (draw x (call_place x i + 1) 16)

-- the first n calls
unfoldable pub calls : ℕ → ℕ → List Call
calls x n = map (call_at x) (range_with_len 0 n)

-- the scene of a number
abbrev pub generated : ℕ → Scene
generated number = record {
  version = 1;
  devices = devices (beginning number) 4;
  urbs = urbs 16;
  anchors = [];
  threads = record { name = codes "t"; calls = calls (device_beginning (beginning number) 4) 2000 } ∷ [];
}
