use Rattle.std.proofs.Common.{arith}
use Rattle.usb_prepare.proofs.Turns.{turn_less, turn_live, answer_fits, goes}
use Rattle.usb_prepare.proofs.enumeration.ask_next.Goals as goal

pub returns-clause-less : goal.returns-clause-less
returns-clause-less c = turn_less c.args.enumerator.now.address c.args.enumerator.now.stage c.answer.new.self.stage c.args.setup _ _ c.requires.next c.answer.result c.answer.ensures.turn

pub returns-clause-live : goal.returns-clause-live
returns-clause-live c = turn_live c.args.enumerator.now.address c.args.enumerator.now.stage c.answer.new.self.stage c.args.setup _ _ c.requires.next c.answer.result c.answer.ensures.turn

pub returns-clause-goes : goal.returns-clause-goes
returns-clause-goes c script calls k stands own at =
    let address = c.args.enumerator.now.address in
    let stage = c.args.enumerator.now.stage in
    let fits = answer_fits script own address k c.requires.given c.requires.fits stage calls c.args.setup at c.requires.next in
    goes script own address k c.requires.given c.requires.fits stage calls c.args.setup at c.requires.next c.answer.result c.answer.new.self.stage _ _
    (c.ask-code.ensures.bytes script calls stands (let room = c.requires.room in omega arith)) (c.ask-code.ensures.code script calls stands) c.answer.ensures.turn
