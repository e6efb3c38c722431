use Rattle.std.proofs.Common.{◌+◌, ◌∙◌, sym, subst, List, false}
use Rattle.usb_trace.specs.declared.rows.CallMade.{CallMade}
use Rattle.usb_threads.proofs.Making.{Making, making_none, may_call, made_more}
use Rattle.usb_threads.proofs.worker.make_all.Goals as goal

pub loop-call-init : goal.loop-call-init
loop-call-init g c =
    let h = g.H.SceneHost in let s = h.scene c.args.host.now in let from = h.known c.args.seat.now in
    (c.requires.here, subst (λ (made : List CallMade). Making s c.args.thread c.args.calls.now from from 0 made false) (sym (c.of-made.ensures ∙ c.new.ensures.items)) (making_none s c.args.thread c.args.calls.now from c.requires.new))

pub make-requires-clause-may : goal.make-requires-clause-may
make-requires-clause-may g c κs within =
    let h = g.H.SceneHost in let s = h.scene c.args.host.now in let from = h.known c.args.seat.now in let script = c.requires.script in
    may_call s c.args.thread c.args.calls.now from c.requires.new (h.known c.loop-call.seat) c.loop-call.call-index c.loop-call.made c.loop-call.down c.loop-call.invariant.1
    script.0 script.1 script.2 c.call-item.result c.loop-call-test.true c.call-item.is

pub loop-call-preserved : goal.loop-call-preserved
loop-call-preserved g c =
    let h = g.H.SceneHost in let s = h.scene c.args.host.now in let from = h.known c.args.seat.now in
    let more = made_more s c.args.thread c.args.calls.now from c.requires.new (h.known c.loop-call.seat) c.loop-call.call-index c.loop-call.made c.loop-call.down c.loop-call.invariant.1
    (h.known c.make.new.seat) c.call-item.result c.in_ok-answer.answer c.is_down_after-down.result c.loop-call-test.true c.call-item.is c.in_ok-answer.ensures.called c.operation.result c.operation.ensures c.is_down_after-down.ensures in
    (c.make.ensures.here, subst (λ (made : List CallMade). Making s c.args.thread c.args.calls.now from (h.known c.make.new.seat) (c.loop-call.call-index + 1) made c.is_down_after-down.result) (sym c.in_ok-push.ensures.ok) more)
