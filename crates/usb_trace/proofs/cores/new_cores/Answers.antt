use Rattle.std.proofs.Common.{get_or, subst}
use Rattle.usb_trace.specs.NewCores.{origin_among, IsNewCore}
use Rattle.usb_trace.proofs.Owners.{no_bound}
use Rattle.usb_trace.proofs.NewCoresShown.{lent, cores_longer}
use Rattle.usb_trace.proofs.cores.new_cores.Goals as goal

pub loop-place-preserved : goal.loop-place-preserved
loop-place-preserved c =
    let owners = c.args.owners.now in
    let bindings = c.args.bindings.now in
    let ids = c.args.ids.now in
    let k = c.loop-place.place in
    let core = c.in_ok-core.core in
    cores_longer owners bindings ids k no_bound c.loop-place.cores.items c.push.new.self.items core c.loop-place-test.true c.loop-place.invariant
    (subst (λ id. IsNewCore (origin_among owners (get_or bindings k no_bound) id) (get_or bindings k no_bound) core) (lent ids k c.get.result c.get.ensures.lookup) c.in_ok-core.ensures) c.in_ok-push.ensures.items
