-- Scenes of one device each, on which examples are computed, and how transfers are written there.
use Rattle.std.proofs.Common.{ℕ, true, false, List, [], ◌∷◌, Some, None}
use Rattle.std.specs.Prelude.{codes}
use Rattle.usb_types.specs.declared.urb.UrbId.{UrbId}
use Rattle.usb_machine.specs.declared.layout.EndKind.TheVariants.{Bulk}
use Rattle.usb_machine.specs.declared.transfer.Transfer.{Transfer}
use Rattle.usb_xfer.specs.declared.script.Kind.{Kind}
use Rattle.usb_xfer.specs.declared.script.Kind.TheVariants.{Raw, Keyboard, Acm, Printer}
use Rattle.usb_scene.specs.declared.scene.Scene.{Scene}

-- URB u, by its number
abbrev pub urb : ℕ → UrbId
urb u = record { 0 = u }

-- a transfer without a setup packet: its number, its buffer, where its window begins, how long that is, and how much of it was moved
abbrev pub transfer : ℕ → List ℕ → ℕ → ℕ → ℕ → Transfer
transfer number buf from len actual =
    record { setup = None; buf = buf; from = from; len = len; short_not_ok = false; actual = actual; number = number }

-- a device with this configuration, and a scene of it alone. What a call does is asked of the call itself, so no thread is needed
abbrev pub alone : List ℕ → Kind → List ℕ → Scene
alone name kind config = record {
  version = 1;
  devices = record { name = name; script = record { kind = kind; ends = []; desc = None; config = Some config; answers = []; id = None; port = 24 } } ∷ [];
  urbs = [];
  anchors = [];
  threads = [];
}

-- A boot keyboard. Its driver has URB 0 for reports, from endpoint 81, and URB 1 for control transfers.

abbrev pub typing : Scene
typing = alone (codes "kbd") Keyboard
    (0x09 ∷ 0x02 ∷ 0x22 ∷ 0x00 ∷ 0x01 ∷ 0x01 ∷ 0x00 ∷ 0xA0 ∷ 0x32
    ∷ 0x09 ∷ 0x04 ∷ 0x00 ∷ 0x00 ∷ 0x01 ∷ 0x03 ∷ 0x01 ∷ 0x01 ∷ 0x00
    ∷ 0x09 ∷ 0x21 ∷ 0x11 ∷ 0x01 ∷ 0x00 ∷ 0x01 ∷ 0x22 ∷ 0x3F ∷ 0x00
    ∷ 0x07 ∷ 0x05 ∷ 0x81 ∷ 0x03 ∷ 0x08 ∷ 0x00 ∷ 0x0A ∷ [])

-- A serial port. Interface 0 has its notifications, and interface 1, which the union descriptor names, its bytes, in packets of 64. URB 0
-- reads notifications, URBs 1 and 2 read bytes, URB 3 writes, and URB 4 is for control transfers.

abbrev pub port : Scene
port = alone (codes "m") Acm
    (0x09 ∷ 0x02 ∷ 0x43 ∷ 0x00 ∷ 0x02 ∷ 0x01 ∷ 0x00 ∷ 0x80 ∷ 0x32
    ∷ 0x09 ∷ 0x04 ∷ 0x00 ∷ 0x00 ∷ 0x01 ∷ 0x02 ∷ 0x02 ∷ 0x01 ∷ 0x00
    ∷ 0x05 ∷ 0x24 ∷ 0x00 ∷ 0x10 ∷ 0x01
    ∷ 0x05 ∷ 0x24 ∷ 0x01 ∷ 0x00 ∷ 0x01
    ∷ 0x04 ∷ 0x24 ∷ 0x02 ∷ 0x02
    ∷ 0x05 ∷ 0x24 ∷ 0x06 ∷ 0x00 ∷ 0x01
    ∷ 0x07 ∷ 0x05 ∷ 0x82 ∷ 0x03 ∷ 0x08 ∷ 0x00 ∷ 0x10
    ∷ 0x09 ∷ 0x04 ∷ 0x01 ∷ 0x00 ∷ 0x02 ∷ 0x0A ∷ 0x00 ∷ 0x00 ∷ 0x00
    ∷ 0x07 ∷ 0x05 ∷ 0x01 ∷ 0x02 ∷ 0x40 ∷ 0x00 ∷ 0x00
    ∷ 0x07 ∷ 0x05 ∷ 0x81 ∷ 0x02 ∷ 0x40 ∷ 0x00 ∷ 0x00 ∷ [])

-- A printer. URB 0 takes the bytes of jobs, at endpoint 01, and URB 1 is for control transfers.

abbrev pub printing : Scene
printing = alone (codes "prn") Printer
    (0x09 ∷ 0x02 ∷ 0x20 ∷ 0x00 ∷ 0x01 ∷ 0x01 ∷ 0x00 ∷ 0xC0 ∷ 0x00
    ∷ 0x09 ∷ 0x04 ∷ 0x00 ∷ 0x00 ∷ 0x02 ∷ 0x07 ∷ 0x01 ∷ 0x02 ∷ 0x00
    ∷ 0x07 ∷ 0x05 ∷ 0x01 ∷ 0x02 ∷ 0x40 ∷ 0x00 ∷ 0x00
    ∷ 0x07 ∷ 0x05 ∷ 0x82 ∷ 0x02 ∷ 0x40 ∷ 0x00 ∷ 0x00 ∷ [])

-- A raw device, whose URBs are the scene's own and have no driver: 0 reads four bytes from endpoint 81 and is submitted again twice by
-- its handler, 1 once, and 2 is for control transfers, where fewer bytes than asked are a fault.

abbrev pub own : Scene
own = record {
  version = 1;
  devices = record {
    name = codes "d";
    script = record { kind = Raw; ends = record { device = 0; address = 0x81; kind = Bulk; max = 64; interval = 0 } ∷ []; desc = None; config = None; answers = []; id = None; port = 24 };
  } ∷ [];
  urbs = record { name = codes "a"; device = 0; address = 0x81; len = 4; again = 2; short = false }
      ∷ record { name = codes "b"; device = 0; address = 0x81; len = 4; again = 1; short = false }
      ∷ record { name = codes "c"; device = 0; address = 0x00; len = 18; again = 0; short = true } ∷ [];
  anchors = [];
  threads = [];
}
