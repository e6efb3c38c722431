use Rattle.std.proofs.Common.{sym, ap, ◌∙◌}
use Rattle.usb_xfer.specs.Replies.{Fetch}
use Rattle.usb_device.specs.Rules.{Ruled}
use Rattle.usb_device.specs.Device.{state_after}
use Rattle.usb_device.proofs.Asking.{halted_asked, end_asked}
use Rattle.usb_device.proofs.Spending.{spends_next}
use Rattle.usb_device.proofs.Replying.{fetch_word}
use Rattle.usb_device.proofs.scripted.Scripted.said_at_end.Goals as goal

pub returns-then-self-address-clause-asked : goal.returns-then-self-address-clause-asked
returns-then-self-address-clause-asked c script calls question stands =
    halted_asked script calls c.args.self.now c.args.address question c.requires stands c.if-self-address.true

pub returns-clause-asked : goal.returns-clause-asked
returns-clause-asked c script calls question stands =
    end_asked script calls c.args.self.now c.next-next.new.self c.args.address question c.next-next.result c.or_last.result c.requires stands c.if-self-address.false c.next-next.ensures.used
    (c.or_last.ensures.word script (state_after script calls) question)

pub returns-clause-spends : goal.returns-clause-spends
returns-clause-spends c =
    let d = c.args.self.now in
    let word = sym (fetch_word c.or_last.result d.script.now d.state) ∙ c.or_last.ensures.word d.script.now d.state Fetch in
    spends_next d c.next-next.new.self c.args.address c.next-next.result _ c.next-next.ensures.used (ap (λ (r : Ruled). r.reply) word)
