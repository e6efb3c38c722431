-- What of a host by turns never changes.
use Rattle.usb_machine.specs.declared.entry.Entry.{Entry}
use Rattle.usb_turn.specs.Shown.{first_of}
use Rattle.usb_turn.specs.declared.turns.Turns.{Turns}
use Rattle.usb_turn_host.specs.declared.stock.Setup.{Setup}
use Rattle.usb_turn_host.specs.declared.stock.Stock.{Stock}

-- the layout and the number of passes of the stock with which the turns began
abbrev pub setup_of : Turns Stock Entry Setup → Setup
setup_of t = (first_of t).setup
