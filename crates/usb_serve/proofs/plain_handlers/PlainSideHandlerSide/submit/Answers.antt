use Rattle.std.proofs.Common.{arith}
use Rattle.usb_serve.proofs.plain_handlers.PlainSideHandlerSide.submit.Goals as goal

pub submit_by-requires-clause-pass : goal.submit_by-requires-clause-pass
submit_by-requires-clause-pass c = let w = c.requires.whole in let p = w.2.passes in let q = w.2.stands.passes in omega arith
