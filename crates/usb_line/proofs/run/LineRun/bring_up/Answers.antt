use Rattle.std.proofs.Common.{◌<◌, true, ◌∙◌, subst}
use Rattle.usb_machine.specs.declared.entry.TheConstants.{HUB}
use Rattle.usb_trace.specs.declared.rows.HostCall.TheVariants as host_call
use Rattle.usb_line.proofs.Calling.{flags_are, was_up, made_up}
use Rattle.usb_line.proofs.run.LineRun.bring_up.Goals as goal

pub returns-then-not-self : goal.returns-then-not-self
returns-then-not-self c s f i k may = was_up s f i k c.args.self.now may c.if-not-self.true

pub returns : goal.returns
returns c s f i k may =
    let run = c.args.self.now in let n = c.urb_count-urbs.result in
    let all = c.urb_count-urbs.ensures ∙ may.shows.all_urbs in
    made_up s f i k run may n c.unflag_each.new.plain c.if-not-self.false all
    (c.unflag_each.ensures.unflagged s f.history may.shows.stands (λ u l. flags_are s f i k run HUB host_call.Up may u true (subst (λ n. u < n) all l) c.if-not-self.false))
