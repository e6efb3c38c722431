use Rattle.std.proofs.Common.{◌∙◌, subst, arith}
use Rattle.usb_bind.specs.Board.{attached_at}
use Rattle.usb_prepare.specs.Probing.{Probing}
use Rattle.usb_prepare.specs.Bindings.{IsProbing}
use Rattle.usb_prepare.proofs.Probed.{all_after}
use Rattle.usb_prepare.proofs.probing.Bindings.probe_all.Goals as goal

pub returns-clause-probed : goal.returns-clause-probed
returns-clause-probed c script calls stands fits =
    subst (λ (p : Probing). IsProbing p script c.loop-interface.self c.loop-interface.device c.loop-interface.probes)
    (all_after script c.args.number c.loop-interface.interface-index _ (attached_at c.args.self.now.board c.args.number) c.items-interface-items.result.now (c.items-interface-items.ensures ∙ c.in_ok-numbers.ensures) (let end = c.loop-interface-test.false in omega arith))
    (c.loop-interface.invariant.far script calls stands fits)
