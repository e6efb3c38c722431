-- Definitions that the laws of scripted devices use.
use Rattle.std.specs.Prelude.{◌≡◌, Bool, false, List, length}
use Rattle.std.specs.List.{All}
use Rattle.usb_xfer.specs.Replies.{Question, Fetch, Send, Ask}
use Rattle.usb_xfer.specs.declared.script.DeviceScript.{DeviceScript}
use Rattle.usb_device.specs.Items.{reply_of, script_at}
use Rattle.usb_device.specs.Rules.{is_at}
use Rattle.usb_device.specs.Device.{Call, questions_at, reply_to}

-- whether a question sets an endpoint's halt (USB 2.0 §9.4.9)
abbrev pub sets_halt : Question → Bool
sets_halt (Ask setup out) = is_at 0x02 3 0 setup
sets_halt (Send packet) = false
sets_halt Fetch = false

-- no call set a halt
abbrev pub NoneHalts : List Call → Type 0
NoneHalts calls = All (λ (c : Call). sets_halt c.question ≡ false) calls

-- the reply is that of the item whose place is the number of earlier calls at the address
abbrev pub CountsCalls : DeviceScript → List Call → Call → Type 0
CountsCalls script calls c = reply_to script calls c ≡ reply_of (script_at script c.address) (length (questions_at c.address calls))
