use Rattle.usb_serve.proofs.Awake.{agrees_awake}
use Rattle.usb_side_cases.proofs.serving.serve_until.Goals as goal

pub one_step-outcome-requires-clause-agrees : goal.one_step-outcome-requires-clause-agrees
one_step-outcome-requires-clause-agrees g c κs within = agrees_awake _ c.loop-turn.controller c.wake.new.self c.wake.ensures.devices c.wake.ensures.ends c.loop-turn.invariant.3
