use Rattle.std.proofs.Common.{◌≡◌, ◌<◌, ◌++◌, List, length, map, take, get_or, sym, ap, ◌∙◌, subst}
use Rattle.usb_scene.specs.declared.scene.SceneThread.{SceneThread}
use Rattle.usb_scene.specs.declared.scene.Call.{Call}
use Rattle.usb_trace.specs.Plan.{calls_from}
use Rattle.usb_line.proofs.Threads.{calls_longer}
use Rattle.usb_line.proofs.line.make_calls.Goals as goal

pub make_all-requires-clause-script : goal.make_all-requires-clause-script
make_all-requires-clause-script c =
    let threads = c.args.scene.now.threads in let i = c.loop-i.i in let d = c.thread-item.result in
    let all = c.items-thread-items.ensures in
    let is : get_or threads i d ≡ d = sym (c.thread-item.is ∙ ap (λ (l : List SceneThread). get_or l i d) all) in
    calls_longer threads i d (subst (λ (l : List SceneThread). i < length l) all c.loop-i-test.true)
    ∙ (ap (λ (t : SceneThread). calls_from 0 (take i threads) ++ map (λ (x : Call). (i, x)) t.calls) is
    ∙ ap (λ (l : List Call). calls_from 0 (take i threads) ++ map (λ (x : Call). (i, x)) l) (sym c.items.ensures))
