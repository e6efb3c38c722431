use Rattle.usb_trace.specs.Rows.{outcome_of}
use Rattle.std.proofs.Common.{◌∙◌}
use Rattle.usb_line.proofs.Telling.{ends_told, same_outcome}
use Rattle.usb_line.proofs.line.leaves.Goals as goal

pub returns : goal.returns
returns c = λ s f found board made shows.
    same_outcome _ (outcome_of s f.call_records f.rounds) found board made (c.of.ensures ∙ shows.came_back) (c.in_ok-told.ensures s f.rounds shows.cores) (c.in_ok-ends.ensures ∙ ends_told s f c.args.run shows)
