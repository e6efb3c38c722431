use Rattle.std.proofs.Common.{◌≡◌, List, Option, length, take}
use Rattle.usb_machine.specs.declared.transfer.Transfer.{Transfer}
use Rattle.usb_machine.specs.declared.entry.Entry.{Entry}
use Rattle.usb_machine.specs.Plain.{Stands}
use Rattle.usb_machine.specs.Replay.{machine_for, entries, CarryAll, CanReplay, answers_in}
use Rattle.usb_machine.proofs.replays.replay.Given as goal

abbrev pub invariant-loop-step : goal.invariant-loop-step
invariant-loop-step l = let g = machine_for l.layout l.passes in let made = take l.step-index l.steps in record {
  each : length l.answers ≡ length made;
  stands : (carried : List (Option Transfer)) → CarryAll g made carried → Stands l.plain g (entries made l.answers carried);
  complete : (h : List Entry) → CanReplay g h l.steps → l.answers ≡ answers_in (take l.step-index h);
}
