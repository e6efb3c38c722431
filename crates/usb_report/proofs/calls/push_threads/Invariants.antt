use Rattle.std.proofs.Common.{◌≡◌, ◌++◌, take}
use Rattle.usb_report.specs.Numbered.{numbered}
use Rattle.usb_report.specs.Calls.{thread_text}
use Rattle.usb_report.proofs.calls.push_threads.Given as goal

abbrev pub invariant-loop-thread : goal.invariant-loop-thread
invariant-loop-thread l = record {
  count : l.number ≡ l.thread-index;
  text : l.report ≡ l.initial.report ++ numbered (thread_text l.scene l.made) 0 (take l.thread-index l.thread-items);
}
