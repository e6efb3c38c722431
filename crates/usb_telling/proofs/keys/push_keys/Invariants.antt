use Rattle.std.proofs.Common.{◌≡◌, ◌++◌, take}
use Rattle.std.specs.List.{flat_map}
use Rattle.usb_telling.specs.Keys.{key_text}
use Rattle.usb_telling.proofs.keys.push_keys.Given as goal

abbrev pub invariant-loop-event : goal.invariant-loop-event
invariant-loop-event l = l.report ≡ l.initial.report ++ flat_map key_text (take l.event-index l.events)
