use Rattle.std.proofs.Common.{◌<◌, length, refl, sym, ◌∙◌, arith}
use Rattle.usb_class.proofs.Handled.{asks_with_its, unmoved, question_there, none_asked}
use Rattle.usb_class.proofs.handlers.HandlersHandler.ask.Goals as goal

pub returns-in-Some-ask-clause-asked : goal.returns-in-Some-ask-clause-asked
returns-in-Some-ask-clause-asked c =
    let near : c.in-Some.place < length c.args.self.now.cores.items = (let ok = c.args.self.now.cores.ok.0 in let n = c.len.ensures in let f = c.if-place-len.false in omega arith) in
    let t = unmoved c.ask.new.self c.in-Some-ask.question c.in-Some-ask.ensures.back in (
      asks_with_its c.args.self.now.urbs.items c.args.self.now.asker c.in-Some.place c.in-Some.urb (sym c.questioner-questioner.ensures ∙ c.in-Some.is),
      t.0,
      t.1,
      question_there c.args.self.now.cores.items c.in-Some.place c.ask.new.self c.in-Some-ask.question near c.in-Some-ask.ensures.back,
    )

pub returns-in-None-clause-asks : goal.returns-in-None-clause-asks
returns-in-None-clause-asks c =
    let near : c.in-Some.place < length c.args.self.now.cores.items = (let ok = c.args.self.now.cores.ok.0 in let n = c.len.ensures in let f = c.if-place-len.false in omega arith) in
    none_asked c.args.self.now _ c.in-Some.place c.in-Some.urb c.index_mut.result.now c.ask.new.self (sym c.questioner-questioner.ensures ∙ c.in-Some.is) near c.index_mut.ensures.value c.in-None.ensures.kept refl refl refl
    (λ driver origin done is. (c.in-None.ensures.question driver origin done is, is, refl))
