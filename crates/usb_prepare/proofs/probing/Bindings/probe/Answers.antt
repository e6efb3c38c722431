use Rattle.std.proofs.Common.{◌∙◌, ap, refl}
use Rattle.usb_bind.specs.Board.{without, released_all}
use Rattle.usb_prepare.proofs.Probed.{refused_so, bound_so, cancelled_so}
use Rattle.usb_prepare.proofs.probing.Bindings.probe.Goals as goal

pub returns-in_ok-push-in-Some-clause-probed : goal.returns-in_ok-push-in-Some-clause-probed
returns-in_ok-push-in-Some-clause-probed c script p probes far fits =
    bound_so script p probes c.args.self.now c.args.device.now far c.args.number c.args.interface c.profile.result c.profile.ensures
    (record { board = c.probe.new.self; pool = c.probe.new.pool; ids = c.push.new.self }) c.ask_each.new.device c.probe.result c.probe.ensures.answer c.in-Ok.bound c.in-Ok.is
    c.in-Some.count c.ask_each.new.room c.in_ok-copy-in-Some.field-0 fits c.in-Some.ensures.told c.in_ok-copy-in-Some.ensures
    c.in-Some.ensures.asked c.probe.ensures.board c.probe.ensures.pool c.in_ok-push-in-Some.ensures.ok

pub returns-in-None-clause-probed : goal.returns-in-None-clause-probed
returns-in-None-clause-probed c script p probes far fits =
    cancelled_so script p probes c.args.self.now c.args.device.now far c.args.number c.args.interface c.profile.result c.profile.ensures
    (record { board = c.cancel.new.self; pool = c.cancel.new.pool; ids = c.args.self.now.ids }) c.ask_each.new.device c.probe.result c.probe.ensures.answer c.in-Ok.bound c.in-Ok.is
    c.in-None.ensures.asked
    (c.cancel.ensures.board ∙ ap (λ x. without x c.in-Ok.bound) c.probe.ensures.board) (c.cancel.ensures.pool ∙ ap (λ x. released_all x c.in-Ok.bound.urbs) c.probe.ensures.pool) refl

pub returns-in-Err-clause-probed : goal.returns-in-Err-clause-probed
returns-in-Err-clause-probed c script p probes far fits =
    refused_so script p probes c.args.self.now c.args.device.now far c.args.number c.args.interface c.profile.result c.profile.ensures
    (record { board = c.probe.new.self; pool = c.probe.new.pool; ids = c.args.self.now.ids }) c.args.device.now c.probe.result c.probe.ensures.answer c.in-Err.fault c.in-Err.is c.probe.ensures.board c.probe.ensures.pool refl refl
