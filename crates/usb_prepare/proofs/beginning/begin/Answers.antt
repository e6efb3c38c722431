use Rattle.std.proofs.Common.{◌∙◌, sym, subst}
use Rattle.usb_prepare.specs.Bindings.{IsEnumerated}
use Rattle.usb_prepare.proofs.Begins.{own, begun_raw, begun_other}
use Rattle.usb_prepare.proofs.beginning.begin.Goals as goal

pub returns-then-is_raw-clause-begun : goal.returns-then-is_raw-clause-begun
returns-then-is_raw-clause-begun c = begun_raw c.args.number c.args.device.now c.in_ok-made.made (sym c.is_raw.ensures ∙ c.if-is_raw.true) c.in_ok-made.ensures

pub returns-clause-begun : goal.returns-clause-begun
returns-clause-begun c =
    let other = sym c.is_raw.ensures ∙ c.if-is_raw.false in
    let script = c.args.device.now.script in
    let is = own c.args.device.now other c.requires.given in
    subst (IsEnumerated c.args.number c.args.device.now) (sym c.enumerated.ensures)
    (begun_other c.args.number c.args.device.now c.enumerate.new.device c.in_ok-told.told other (c.in_ok-told.ensures.found script c.in_ok-made.ensures is) (c.in_ok-told.ensures.heard script c.in_ok-made.ensures is))
