use Rattle.std.proofs.Common.{◌≡◌, List, ◌++◌, take}
use Rattle.usb_machine.specs.declared.entry.Entry.{Entry}
use Rattle.usb_machine.specs.History.{Machine}
use Rattle.usb_machine.specs.Plain.{urbs_of}
use Rattle.usb_serve.specs.Solo.{IsSoloAt}
use Rattle.usb_serve.specs.Flushing.{ids, flags_of, MayFlush}
use Rattle.usb_serve.proofs.solo.Solo.flag_all.Given as goal

abbrev pub invariant-loop-urb : goal.invariant-loop-urb
invariant-loop-urb g l = record {
  flagged : (m : Machine) (h : List Entry) → IsSoloAt g.H.Handler.asks_with l.fn.self m h → MayFlush m h l.flag (ids l.urbs) → IsSoloAt g.H.Handler.asks_with l.self m (h ++ flags_of l.flag (ids (take l.urb-index l.urbs)));
  counts : urbs_of l.self.side.plain ≡ urbs_of l.fn.self.side.plain;
}
