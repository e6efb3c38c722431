use Rattle.std.proofs.Common.{◌<◌, ◌-◌, ◌++◌, ◌∷◌, [], sym, ◌∙◌, subst}
use Rattle.usb_machine.specs.declared.transfer.Transfer.{Transfer}
use Rattle.usb_xfer.specs.On.{Gave, nothing, one_more}
use Rattle.usb_xfer.proofs.GoesOn.{goes_on, stops_at, gone_nowhere, falls}
use Rattle.usb_xfer.proofs.on.advance_on.Goals as goal

pub loop-step-init : goal.loop-step-init
loop-step-init g c = ([], nothing, gone_nowhere _ _ c.requires.window)

pub loop-step-preserved : goal.loop-step-preserved
loop-step-preserved g c = let i = c.loop-step.invariant in let a = c.advance.ensures in (
  i.0 ++ a.0 ∷ [],
  subst (λ (t : Transfer). Gave g.D.Device.replies c.args.shape.now c.args.t.now c.args.device.now (i.0 ++ a.0 ∷ []) t c.advance.new.device) (sym a.2.transfer)
      (one_more i.0 c.loop-step.t c.loop-step.device a.0 c.advance.new.device i.1 a.1),
  goes_on c.args.shape.now c.args.t.now c.loop-step.t c.advance.new.t i.0 a.0 c.advance.result a.2 i.2 c.in-More.is,
)

pub loop-step-smaller : goal.loop-step-smaller
loop-step-smaller g c = let i = c.loop-step.invariant in let a = c.advance.ensures in
    subst (λ (t : Transfer). t.len - t.actual < c.loop-step.t.len - c.loop-step.t.actual) (sym a.2.transfer)
    (falls c.args.shape.now a.0 c.loop-step.t c.requires.size i.2.window (sym a.2.answer ∙ c.in-More.is))

pub returns-in_default : goal.returns-in_default
returns-in_default g c = let i = c.loop-step.invariant in let a = c.advance.ensures in (
  i.0 ++ a.0 ∷ [],
  subst (λ (t : Transfer). Gave g.D.Device.replies c.args.shape.now c.args.t.now c.args.device.now (i.0 ++ a.0 ∷ []) t c.advance.new.device) (sym a.2.transfer)
      (one_more i.0 c.loop-step.t c.loop-step.device a.0 c.advance.new.device i.1 a.1),
  stops_at c.args.shape.now c.args.t.now c.loop-step.t c.advance.new.t i.0 a.0 c.advance.result a.2 i.2 c.in_default.not-More,
)
