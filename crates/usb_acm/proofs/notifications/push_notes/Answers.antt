use Rattle.usb_acm.proofs.Streams.{to_the_end, within_more, told_more, behind_more, told_all, behind_all}
use Rattle.usb_acm.proofs.notifications.push_notes.Goals as goal

pub loop-stream-preserved : goal.loop-stream-preserved
loop-stream-preserved c =
    let at = c.loop-stream.at in
    let s = c.args.bytes.now in
    record {
      within = within_more s _ at c.note_length-at.result c.is_whole.result (to_the_end at s) c.loop-stream.invariant.within c.is_whole.ensures c.loop-stream-test.true c.note_length-at.ensures;
      told = told_more s _ at c.note_length-at.result c.is_whole.result c.event.result c.args.events.now.items c.loop-stream.events.items c.push.new.self.items
          (to_the_end at s) c.is_whole.ensures c.loop-stream-test.true c.note_length-at.ensures c.event.ensures c.in_ok-push.ensures.items c.loop-stream.invariant.told;
      behind = behind_more s _ at c.note_length-at.result c.is_whole.result (to_the_end at s) c.is_whole.ensures c.loop-stream-test.true c.note_length-at.ensures c.loop-stream.invariant.behind;
    }

pub returns-clause-ok : goal.returns-clause-ok
returns-clause-ok c =
    let at = c.loop-stream.at in
    let s = c.args.bytes.now in
    told_all s _ at c.is_whole.result c.args.events.now.items c.loop-stream.events.items (to_the_end at s) c.is_whole.ensures c.loop-stream-test.false c.loop-stream.invariant.told

pub returns-clause-rest : goal.returns-clause-rest
returns-clause-rest c =
    let at = c.loop-stream.at in
    let s = c.args.bytes.now in
    behind_all s _ at c.is_whole.result (to_the_end at s) c.is_whole.ensures c.loop-stream-test.false c.loop-stream.invariant.behind
