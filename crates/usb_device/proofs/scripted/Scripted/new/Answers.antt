use Rattle.std.proofs.Common.{rules, List, refl, sym, ap, ◌∙◌, subst}
use Rattle.std.specs.Prelude.{slice_get}
use Rattle.usb_xfer.specs.declared.script.Answers.{Answers}
use Rattle.usb_device.specs.Fresh.{IsFresh}
use Rattle.usb_device.proofs.Starting.{each_more, stands_first}
use Rattle.usb_device.proofs.scripted.Scripted.new.Goals as goal

pub loop-preserved : goal.loop-preserved
loop-preserved c = record {
  many = search rules;
  fresh = λ a end at. each_more (IsFresh c.args.script.now.answers) c.loop.ends.items c.new.result c.loop.invariant.fresh (subst (λ (l : List Answers). IsFresh l c.new.result) c.items.ensures c.new.ensures) a end
      (ap (λ l. slice_get l a) (sym c.in_ok-push.ensures.items) ∙ at);
}

pub returns : goal.returns
returns c = stands_first _ c.args.script.now refl c.new-2.ensures c.free.ensures c.loop.invariant.fresh
