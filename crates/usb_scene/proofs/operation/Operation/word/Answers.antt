use Rattle.usb_scene.proofs.Operations.{word_found}
use Rattle.usb_scene.proofs.operation.Operation.word.Goals as goal

pub returns-in-Some : goal.returns-in-Some
returns-in-Some c = word_found _ _ _ _ c.args.self c.name_of.ensures c.calls.ensures.rows c.number.ensures _ c.in-Some.is

pub returns-in-None : goal.returns-in-None
returns-in-None c = word_found _ _ _ _ c.args.self c.name_of.ensures c.calls.ensures.rows c.number.ensures _ c.in-None.is
