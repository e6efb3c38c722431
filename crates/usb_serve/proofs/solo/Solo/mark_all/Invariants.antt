use Rattle.std.proofs.Common.{◌≡◌, ◌<◌, List, ◌++◌, length, take}
use Rattle.usb_types.specs.declared.errno.Code.{Code}
use Rattle.usb_types.specs.declared.urb.Why.TheVariants.{Shutdown}
use Rattle.usb_machine.specs.declared.entry.TheConstants.{HUB}
use Rattle.usb_machine.specs.declared.entry.Entry.{Entry}
use Rattle.usb_machine.specs.History.{Machine}
use Rattle.usb_machine.specs.Calls.{marks_of}
use Rattle.usb_machine.specs.Plain.{urbs_of}
use Rattle.usb_serve.specs.Solo.{IsSoloAt}
use Rattle.usb_serve.specs.Flushing.{ids}
use Rattle.usb_serve.proofs.solo.Solo.mark_all.Given as goal

abbrev pub invariant-loop-urb : goal.invariant-loop-urb
invariant-loop-urb g l = record {
  marked : (m : Machine) (h : List Entry) → IsSoloAt g.H.Handler.asks_with l.fn.self m h → HUB < m.passes
      → (answers : List Code) × (length answers ≡ length (ids (take l.urb-index l.urbs))) × IsSoloAt g.H.Handler.asks_with l.self m (h ++ marks_of HUB Shutdown (ids (take l.urb-index l.urbs)) answers);
  counts : urbs_of l.self.side.plain ≡ urbs_of l.fn.self.side.plain;
}
