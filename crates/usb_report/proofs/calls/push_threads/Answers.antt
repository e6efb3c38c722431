use Rattle.std.proofs.Common.{◌++◌, ap, ◌∙◌, arith}
use Rattle.usb_report.specs.Calls.{thread_text}
use Rattle.usb_report.proofs.NumberedTexts.{text_more}
use Rattle.usb_report.proofs.calls.push_threads.Goals as goal

pub loop-thread-preserved : goal.loop-thread-preserved
loop-thread-preserved c =
    let text = thread_text c.args.scene.now c.args.made.now in
    let n = c.loop-thread.number in let t = c.thread-item.result in
    record {
      count = omega arith;
      text = c.in_ok-push_thread.ensures ∙ (ap (λ before. before ++ text n t) c.loop-thread.invariant.text
          ∙ text_more text c.args.report.now c.loop-thread.thread-index n c.items-thread-items.result.now t c.loop-thread-test.true c.thread-item.is c.loop-thread.invariant.count);
    }
