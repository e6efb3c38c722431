use Rattle.std.proofs.Common.{◌++◌, refl, sym, ◌∙◌, subst, append-nil, add-one}
use Rattle.usb_machine.specs.Plain.{Stands}
use Rattle.usb_trace.specs.Plan.{machine_of}
use Rattle.usb_line.specs.Line.{takes_below}
use Rattle.usb_line.proofs.Taking.{taken_next}
use Rattle.usb_line.proofs.take.take_all.Goals as goal

pub loop-ep-init : goal.loop-ep-init
loop-ep-init c = record { counts = record { urbs = refl; ends = refl }; taken = λ s h stands. subst (Stands c.args.plain.now (machine_of s)) (sym (append-nil h)) stands }

pub loop-ep-preserved : goal.loop-ep-preserved
loop-ep-preserved c = record {
  counts = let old = c.loop-ep.invariant.counts in let now = c.take_line.ensures.counts in record { urbs = now.urbs ∙ old.urbs; ends = now.ends ∙ old.ends };
  taken = λ s h stands. subst (λ n. Stands c.take_line.new.plain (machine_of s) (h ++ takes_below s h n)) (sym (add-one c.loop-ep.ep))
      (taken_next s h c.loop-ep.ep c.loop-ep.plain c.take_line.new.plain (c.loop-ep.invariant.taken s h stands) (c.take_line.ensures.taken s));
}
