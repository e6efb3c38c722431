use Rattle.std.proofs.Common.{◌≡◌, ◌++◌, [], ◌∷◌, map, take, get_or, sym, ap, ◌∙◌, subst, arith, append-nil}
use Rattle.std.proofs.lemmas.Grind.{common_steps}
use Rattle.usb_scene.specs.declared.scene.Call.{Call}
use Rattle.usb_scene.specs.Operation.{operation_of}
use Rattle.usb_trace.specs.Plan.{calls_from}
use Rattle.usb_line.specs.Calls.{Made, MayBeMade, IsUnderway}
use Rattle.usb_line.proofs.Threads.{next_here, made_row, one_made}
use Rattle.usb_line.proofs.run.LineRun.make_all.Goals as goal

pub loop-call-init : goal.loop-call-init
loop-call-init c = subst (λ l. IsUnderway c.args.scene.now l c.args.self.now c.args.made.now) (sym (append-nil (calls_from 0 (take c.args.thread c.args.scene.now.threads)))) c.requires.underway

pub make-requires-clause-can : goal.make-requires-clause-can
make-requires-clause-can c = record {
  far = c.loop-call.invariant.far;
  may = subst (λ k. MayBeMade c.args.scene.now c.loop-call.invariant.far c.args.thread k c.loop-call.self) (sym c.call-item.is)
      (next_here c.args.scene.now c.requires.good c.args.thread c.requires.there c.args.calls.now c.requires.script c.loop-call.self c.loop-call.made c.loop-call.call-index c.call-item.result
      c.loop-call-test.true c.loop-call.invariant);
}

pub loop-call-preserved : goal.loop-call-preserved
loop-call-preserved c =
    let s = c.args.scene.now in let i = c.args.thread in let calls = c.args.calls.now in let k = c.loop-call.call-index in let d = c.call-item.result in let at = c.loop-call.invariant in
    let may = next_here s c.requires.good i c.requires.there calls c.requires.script c.loop-call.self c.loop-call.made k d c.loop-call-test.true at in
    let done : Made s at.far i (get_or calls k d) c.in_ok-answer.answer c.make.new.self
    = subst (λ x. Made s at.far i x c.in_ok-answer.answer c.make.new.self) c.call-item.is (c.in_ok-answer.ensures at.far (subst (λ x. MayBeMade s at.far i x c.loop-call.self) (sym c.call-item.is) may)) in
    let asked : c.operation.result ≡ operation_of (get_or calls k d) = c.operation.ensures ∙ ap operation_of c.call-item.is in
    let row : record { thread = i; line = d.line; operation = c.operation.result; target = d.target; answer = c.in_ok-answer.answer } ≡ made_row i (get_or calls k d) c.in_ok-answer.answer
    = (λ j. record { thread = i; line = (c.call-item.is j).line; operation = asked j; target = (c.call-item.is j).target; answer = c.in_ok-answer.answer }) in
    one_made s c.requires.good i c.requires.there calls c.requires.script c.loop-call.self c.loop-call.made k d c.loop-call-test.true at c.in_ok-answer.answer c.make.new.self c.push.new.self done
    (c.in_ok-push.ensures.ok ∙ ap (λ x. c.loop-call.made ++ x ∷ []) row)

pub returns : goal.returns
returns c =
    let all : take c.loop-call.call-index c.args.calls.now ≡ c.args.calls.now = grind (arith, common_steps) in
    subst (λ l. IsUnderway c.args.scene.now l c.loop-call.self c.loop-call.made)
    (ap (λ l. calls_from 0 (take c.args.thread c.args.scene.now.threads) ++ map (λ (x : Call). (c.args.thread, x)) l) all ∙ sym c.requires.script) c.loop-call.invariant
