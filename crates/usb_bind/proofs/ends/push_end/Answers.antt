use Rattle.std.proofs.Common.{◌≡◌, true, sym, ap, [], ◌∷◌, ◌++◌, ◌∙◌}
use Rattle.std.proofs.lemmas.Result.{on_ok_weaker}
use Rattle.usb_bind.specs.Interfaces.{joins}
use Rattle.usb_bind.proofs.EndWalk.{shape_pushed}
use Rattle.usb_bind.proofs.ends.push_end.Goals as goal

pub returns-then-joins : goal.returns-then-joins
returns-then-joins c before ends knows is =
    let next = c.joins.ensures.next ends knows in
    let e = c.args.end.now in
    let new : joins ends e ≡ true = sym next.0 ∙ c.if-joins.true in
    on_ok_weaker c.push.result (λ pushed. (next.1, pushed ∙ ap (λ s. c.args.shapes.now ++ s ∷ []) c.shape_of_end.ensures ∙ shape_pushed c.args.device before c.args.shapes.now ends e new is)) c.push.ensures.ok
