use Rattle.std.proofs.Common.{◌≡◌, ◌++◌, ap, ◌∙◌}
use Rattle.std.specs.Prelude.{Result, Ok, Err, OnErr}
use Rattle.usb_acm.specs.Acm.{AcmState}
use Rattle.usb_acm.specs.Notifications.{Grown}
use Rattle.usb_acm.proofs.acm.Acm.gather.Goals as goal

-- what holds in any case holds of an error
of_error : {T E : Type 0} (P : Type 0) (r : Result T E) → P → OnErr r P
of_error P (Ok x) p = tt
of_error P (Err e) p = p

pub returns-in_err-at-clause-part : goal.returns-in_err-at-clause-part
returns-in_err-at-clause-part c =
    let e : c.extend_from_slice.new.self.items ≡ c.args.self.now.part ++ c.args.moved.now
    = c.in_ok-extend_from_slice.ensures.items ∙ ap (λ (k : AcmState). k.part ++ c.args.moved.now) c.self.view_is in
    of_error (Grown c.args.self.now.part c.extend_from_slice.new.self.items) c.from_residual-in_err-at.result (c.args.moved.now, e)
