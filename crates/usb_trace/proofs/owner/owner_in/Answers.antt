use Rattle.std.proofs.Common.{◌+◌, drop, get_or, Some, None, sym, ap, ◌∙◌}
use Rattle.usb_trace.specs.Plan.{owner_from}
use Rattle.usb_trace.proofs.Owners.{no_bound, owner_is, owner_here, owner_none}
use Rattle.usb_trace.proofs.owner.owner_in.Goals as goal

pub returns-in-Some : goal.returns-in-Some
returns-in-Some c = λ s is. let b = c.args.board.now in let u = c.args.urb in let l = c.bindings-bindings.result.now in let same = c.bindings-bindings.ensures.bindings in
    (λ j. Some (record { place = c.loop-place.place; driver = (get_or l c.loop-place.place no_bound).driver; role = c.in-Some.role; size = c.kept_size.ensures j; ctl = c.urb.ensures j }))
    ∙ sym (owner_is s b u is ∙ (c.loop-place.invariant ∙ (ap (λ l. owner_from b c.loop-place.place (drop c.loop-place.place l) u) (sym same)
    ∙ owner_here b l u c.loop-place.place no_bound _ c.loop-place-test.true (sym c.in-Some.is ∙ c.role_of.ensures))))

pub loop-place-preserved : goal.loop-place-preserved
loop-place-preserved c = let b = c.args.board.now in let u = c.args.urb in let l = c.bindings-bindings.result.now in let same = c.bindings-bindings.ensures.bindings in
    c.loop-place.invariant ∙ (ap (λ l. owner_from b c.loop-place.place (drop c.loop-place.place l) u) (sym same)
    ∙ (owner_here b l u c.loop-place.place no_bound None c.loop-place-test.true (sym c.in_default.is ∙ c.role_of.ensures)
    ∙ ap (λ l. owner_from b (c.loop-place.place + 1) (drop (c.loop-place.place + 1) l) u) same))

pub returns : goal.returns
returns c = λ s is. let b = c.args.board.now in let u = c.args.urb in let l = c.bindings-bindings.result.now in let same = c.bindings-bindings.ensures.bindings in
    sym (owner_is s b u is ∙ (c.loop-place.invariant ∙ (ap (λ l. owner_from b c.loop-place.place (drop c.loop-place.place l) u) (sym same) ∙ owner_none b l u c.loop-place.place c.loop-place-test.false)))
