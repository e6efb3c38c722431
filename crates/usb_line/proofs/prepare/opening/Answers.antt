use Rattle.std.proofs.Common.{sym, subst}
use Rattle.usb_machine.specs.Plain.{IsLayout}
use Rattle.usb_prepare.proofs.Facts.{layout_fits}
use Rattle.usb_line.proofs.prepare.opening.Goals as goal

pub new-requires-clause-layout : goal.new-requires-clause-layout
new-requires-clause-layout c = subst IsLayout (sym c.requires.prepared.layout) (layout_fits c.args.scene.now c.requires.good)
