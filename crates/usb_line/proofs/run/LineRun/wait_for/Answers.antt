use Rattle.std.proofs.Common.{sym, ◌∙◌}
use Rattle.usb_line.specs.Line.{woken, already, turns}
use Rattle.usb_line.proofs.run.LineRun.wait_for.Goals as goal

pub returns-then-is_quiet-clause-waited : goal.returns-then-is_quiet-clause-waited
returns-then-is_quiet-clause-waited c s f good shows stops = record { far = f; waits = already (sym (c.is_quiet.ensures s f shows) ∙ c.if-is_quiet.true); shows = shows }

pub returns-clause-waited : goal.returns-clause-waited
returns-clause-waited c s f good shows stops =
    let t = c.in_ok-turn_until.ensures.waited s (woken f) good (c.wake.ensures.woken s f shows) (sym (c.is_quiet.ensures s f shows) ∙ c.if-is_quiet.false) stops in
    record { far = t.far; waits = turns t.before t.far t.loud t.last t.quiet; shows = t.shows }
