use Rattle.std.proofs.Common.{◌≡◌, true, false, refl, sym, ap, ◌∙◌, arith}
use Rattle.usb_xfer.specs.declared.script.What.TheVariants.{Stall}
use Rattle.usb_xfer.specs.declared.script.DeviceScript.{DeviceScript}
use Rattle.usb_device.specs.Device.{is_raw, state_after}
use Rattle.usb_device.proofs.Asking.{free_asked, raw_asked, other_asked}
use Rattle.usb_device.proofs.Spending.{spends_none}
use Rattle.usb_device.proofs.scripted.Scripted.said_at_00.Goals as goal

pub returns-then-self-gt0-clause-asked : goal.returns-then-self-gt0-clause-asked
returns-then-self-gt0-clause-asked c script calls question stands =
    free_asked script calls c.args.self.now _ question stands (omega arith) refl refl refl refl

pub returns-then-self-gt0-clause-spends : goal.returns-then-self-gt0-clause-spends
returns-then-self-gt0-clause-spends c = spends_none c.args.self.now _ 0 Stall refl refl (λ off. absurd (off refl))

pub returns-then-is_raw-clause-asked : goal.returns-then-is_raw-clause-asked
returns-then-is_raw-clause-asked c script calls question stands =
    let raw : is_raw script.kind ≡ true = ap (λ (s : DeviceScript). is_raw s.kind) (sym stands.of ∙ sym c.next-next.ensures.used.of) ∙ (sym c.is_raw.ensures ∙ c.if-is_raw.true) in
    raw_asked script calls c.args.self.now c.next-next.new.self question c.next-next.result c.or_last.result stands (omega arith) raw c.next-next.ensures.used
    (c.or_last.ensures.word script (state_after script calls) question)

pub returns-else-is_raw-clause-asked : goal.returns-else-is_raw-clause-asked
returns-else-is_raw-clause-asked c script calls question stands =
    let other : is_raw script.kind ≡ false = ap (λ (s : DeviceScript). is_raw s.kind) (sym stands.of ∙ sym c.next-next.ensures.used.of) ∙ (sym c.is_raw.ensures ∙ c.if-is_raw.false) in
    other_asked script calls c.args.self.now c.next-next.new.self question c.next-next.result c.or_rules.result stands (omega arith) other c.next-next.ensures.used
    (c.or_rules.ensures.word script (state_after script calls) question)
