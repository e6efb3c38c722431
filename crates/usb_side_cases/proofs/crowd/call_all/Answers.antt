use Rattle.std.proofs.Common.{arith, sym, subst, slice_index_or}
use Rattle.usb_side_cases.specs.Crowd.{Called}
use Rattle.usb_side_cases.proofs.crowd.call_all.Goals as goal

pub returns : goal.returns
returns g c =
    let called = c.in_ok-called.called in let passes = c.args.passes in
    record {
      len = omega (arith, called.ok.0, passes.ok.0, c.in_ok-called.ensures.len);
      each = λ i d e lt. let x = (c.in_ok-called.ensures.each i e lt).1 in
          subst (λ p. Called (g.H.Host.machine c.args.host.now) g.H.Host.known (g.H.Host.is_of c.args.host.now) c.args.urb.0 p (slice_index_or called.items i e)) (sym (x.job_is d)) x.call.met;
    }
