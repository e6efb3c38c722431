use Rattle.std.proofs.Common.{cond, ap, ◌∙◌}
use Rattle.usb_scene.specs.WellFormed.{is_on}
use Rattle.usb_scene.specs.Counts.{count_in, next_count}
use Rattle.usb_scene.proofs.Counting.{count_more}
use Rattle.usb_scene.proofs.rejects.Rejects.change.Goals as goal

pub returns : goal.returns
returns c = λ other.
    count_more c.args.self.now.counts c.insert.new.self c.args.urb c.next_count-next.result c.in-Ok.ensures.updates other
    ∙ ap (λ n. cond (is_on c.args.urb other) n (count_in c.args.self.now.counts other)) (c.next_count-next.ensures ∙ ap (next_count c.args.call) c.held.ensures)
