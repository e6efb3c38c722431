use Rattle.std.proofs.Common.{◌≡◌, List, ◌++◌, take}
use Rattle.usb_machine.specs.declared.entry.Entry.{Entry}
use Rattle.usb_machine.specs.History.{Machine}
use Rattle.usb_machine.specs.Plain.{urbs_of}
use Rattle.usb_serve.specs.Solo.{IsSoloAt}
use Rattle.usb_serve.specs.Flushing.{ids, MaySettle, Settles}
use Rattle.usb_serve.proofs.solo.Solo.settle_all.Given as goal

abbrev pub invariant-loop-i : goal.invariant-loop-i
invariant-loop-i g l = record {
  settled : (m : Machine) (h : List Entry) → IsSoloAt g.H.Handler.asks_with l.fn.self m h → MaySettle m h (ids l.urbs) → (es : List Entry) × Settles m h (ids (take l.i l.urbs)) (take l.i l.rests) es × IsSoloAt g.H.Handler.asks_with l.self m (h ++ es);
  counts : urbs_of l.self.side.plain ≡ urbs_of l.fn.self.side.plain;
}
