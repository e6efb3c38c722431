use Rattle.std.proofs.Common.{◌≡◌, ◌<◌, ◌++◌, length, refl, ◌∙◌, subst, arith, None}
use Rattle.usb_machine.specs.declared.event.Answer.TheVariants.{Urb}
use Rattle.usb_machine.specs.History.{line_of}
use Rattle.usb_trace.specs.Plan.{machine_of}
use Rattle.usb_line.specs.Line.{takes}
use Rattle.usb_line.proofs.Taking.{HasTaken, taken_none, next_taken, taken_more, taken_all}
use Rattle.usb_line.proofs.take.take_line.Goals as goal

pub loop-init : goal.loop-init
loop-init c = record { counts = record { urbs = refl; ends = refl }; taken = λ s h stands. taken_none s h c.args.ep c.args.plain.now stands }

pub loop-preserved : goal.loop-preserved
loop-preserved c = record {
  counts = let old = c.loop.invariant.counts in let now = c.enter.ensures.counts in record { urbs = now.urbs ∙ old.urbs; ends = now.ends ∙ old.ends };
  taken = λ s h stands.
      let is = c.loop.invariant.taken s h stands in
      let count = c.waiting-end.ensures (machine_of s) h stands in
      let more : c.loop.counter < length (line_of (machine_of s) h c.args.ep) = omega arith in
      let next = next_taken s h c.args.ep c.loop.counter c.loop.plain is more in
      taken_more s h c.args.ep c.loop.counter c.loop.plain is more next c.enter.new.plain
      (c.enter.ensures.entered s (h ++ takes c.args.ep is.taken) (Urb record { 0 = next.urb }) None is.stands next.follows tt).1;
}

pub returns-clause-taken : goal.returns-clause-taken
returns-clause-taken c = λ s h stands.
    let count = c.waiting-end.ensures (machine_of s) h stands in
    let all : c.loop.counter ≡ length (line_of (machine_of s) h c.args.ep) = omega arith in
    taken_all s h c.args.ep c.loop.plain (subst (λ n. HasTaken s h c.args.ep n c.loop.plain) all (c.loop.invariant.taken s h stands))
