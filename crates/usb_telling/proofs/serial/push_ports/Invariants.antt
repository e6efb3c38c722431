use Rattle.std.proofs.Common.{◌≡◌, ◌++◌, take}
use Rattle.std.specs.List.{flat_map}
use Rattle.usb_telling.specs.Serial.{port_text}
use Rattle.usb_telling.proofs.serial.push_ports.Given as goal

abbrev pub invariant-loop-event : goal.invariant-loop-event
invariant-loop-event l = l.report ≡ l.initial.report ++ flat_map port_text (take l.event-index l.events)
