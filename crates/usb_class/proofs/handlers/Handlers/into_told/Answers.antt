use Rattle.std.proofs.Common.{◌≡◌, sym, ◌∙◌, subst}
use Rattle.std.proofs.lemmas.List.{map-id}
use Rattle.std.proofs.lemmas.Iterator.Adapters.{YieldsList-from_vec}
use Rattle.std.proofs.lemmas.Iterator.Consumers.{YieldsList-end}
use Rattle.usb_class.specs.Handlers.{AreTold}
use Rattle.usb_class.proofs.Handled.{told_longer}
use Rattle.usb_class.proofs.handlers.Handlers.into_told.Goals as goal

pub loop-core-preserved : goal.loop-core-preserved
loop-core-preserved c = told_longer c.loop-core.yielded c.loop-core.list c.push.new.self c.in-Some.core c.into_told.result c.loop-core.invariant c.into_told.ensures c.in_ok-push.ensures.ok

pub returns : goal.returns
returns c =
    let given = c.into_iter-core-iterator.ensures.into_iter_gives in
    let whole = (YieldsList-end (YieldsList-from_vec c.args.self.cores.items given.0 (given.1 ∙ c.args.self.cores.ok.0)) c.loop-core.yielded c.loop-core.core-iterator c.loop-core.yielded_by c.next.result c.next.new.self c.in-None.is c.next.ensures.steps).0 in
    let all : c.loop-core.yielded ≡ c.args.self.cores.items = sym (map-id c.loop-core.yielded) ∙ whole in
    subst (λ l. AreTold l c.loop-core.list) all c.loop-core.invariant
