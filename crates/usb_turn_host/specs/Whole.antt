-- When the server's token is whole.
use Rattle.usb_machine.specs.History.{Machine}
use Rattle.usb_machine.specs.Tokens.{IsWholeServer}
use Rattle.usb_turn_host.specs.Turning.{known_of}
use Rattle.usb_turn_host.specs.Server.{pending_at, HasRooms}
use Rattle.usb_turn_host.specs.declared.server.TurnServer.{TurnServer}

abbrev pub IsServer : Machine → TurnServer → Type 0
IsServer g t = IsWholeServer g (known_of t.pass) (λ e. pending_at t.pending.items e) t.given (λ m. HasRooms m t.pending.items)
