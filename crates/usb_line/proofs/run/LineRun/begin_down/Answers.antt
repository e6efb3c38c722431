use Rattle.std.proofs.Common.{◌<◌, subst}
use Rattle.usb_line.proofs.Shutting.{shows_shut}
use Rattle.usb_line.proofs.run.LineRun.begin_down.Goals as goal

pub returns : goal.returns
returns c s f good shows all down = shows_shut s good f c.args.self.now shows c.args.urbs c.flag_each.new.plain c.mark_each.new.plain all
    (c.flag_each.ensures.flagged s f.history shows.stands (λ u l. down u (subst (λ n. u < n) all l))) (c.mark_each.ensures.marked s)
