use Rattle.usb_prepare.proofs.Answering.{keyboard_ends, keyboard_both}
use Rattle.usb_prepare.proofs.probing.ask_keyboard.Goals as goal

pub returns-then-ask-clause-asked : goal.returns-then-ask-clause-asked
returns-then-ask-clause-asked c = keyboard_both c.args.device.now c.ask.new.device c.args.interface c.ask-then-ask.new.device c.request.result c.request-then-ask.result c.ask.result c.ask-then-ask.result
    c.request.ensures c.request-then-ask.ensures c.ask.ensures.asked c.if-ask.true c.ask-then-ask.ensures.asked

pub returns-else-ask-clause-asked : goal.returns-else-ask-clause-asked
returns-else-ask-clause-asked c = keyboard_ends c.args.device.now c.ask.new.device c.args.interface c.request.result c.ask.result c.request.ensures c.ask.ensures.asked c.if-ask.false
