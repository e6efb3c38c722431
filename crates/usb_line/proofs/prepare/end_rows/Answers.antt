use Rattle.usb_line.proofs.Opening.{ends_longer}
use Rattle.usb_line.proofs.prepare.end_rows.Goals as goal

pub loop-shape-preserved : goal.loop-shape-preserved
loop-shape-preserved c = ends_longer c.args.shapes.now c.loop-shape.shape-index _ c.loop-shape.ends.items c.push.new.self.items c.end_row.result c.loop-shape-test.true c.loop-shape.invariant
    c.end_row.ensures c.in_ok-push.ensures.items
