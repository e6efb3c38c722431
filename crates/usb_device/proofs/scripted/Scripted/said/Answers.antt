use Rattle.std.proofs.Common.{ℕ, sym, subst}
use Rattle.usb_device.specs.Said.{IsAsked}
use Rattle.usb_device.specs.Replied.{call_of}
use Rattle.usb_device.proofs.scripted.Scripted.said.Goals as goal

pub returns-then-address-eq0-clause-asked : goal.returns-then-address-eq0-clause-asked
returns-then-address-eq0-clause-asked c script calls question stands =
    subst (λ (a : ℕ). IsAsked c.said_at_00.new.self script calls (call_of a question) c.said_at_00.result) (sym c.if-address-eq0.true) (c.said_at_00.ensures.asked script calls question stands)
