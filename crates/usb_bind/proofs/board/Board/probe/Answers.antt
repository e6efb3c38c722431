use Rattle.std.proofs.Common.{sym}
use Rattle.usb_bind.proofs.Joining.{plan_may_join}
use Rattle.usb_bind.proofs.board.Board.probe.Goals as goal

pub add-requires : goal.add-requires
add-requires c =
    plan_may_join c.args.self.now c.spare.result c.args.rows.now c.args.device c.args.interface c.in_ok-plan.plan c.take_all.result (sym c.in_ok-plan.ensures)
