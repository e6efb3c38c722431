use Rattle.std.proofs.Common.{◌≡◌, ◌++◌, append-nil, OnOk, subst, sym, ap, ◌∙◌}
use Rattle.std.proofs.lemmas.List.{at_drop_all}
use Rattle.usb_report.specs.Names.{bound_name}
use Rattle.usb_report.proofs.BoundNames.{bound_next, bound_here}
use Rattle.usb_report.proofs.names.push_bound_urb.Goals as goal

pub loop-bound-preserved : goal.loop-bound-preserved
loop-bound-preserved c =
    let s = c.args.scene.now in let xs = c.args.bindings.now in let i = c.loop-bound.bound-index in
    let next = bound_next s c.args.urb xs i _ c.loop-bound-test.true (sym c.role_of.ensures ∙ c.in_default.is) in
    record { report = c.loop-bound.invariant.report; name = sym next ∙ c.loop-bound.invariant.name }

pub returns-in-Some : goal.returns-in-Some
returns-in-Some c =
    let s = c.args.scene.now in let xs = c.args.bindings.now in let i = c.loop-bound.bound-index in
    let here = bound_here s c.args.urb xs i _ c.in-Some.role c.loop-bound-test.true (sym c.role_of.ensures ∙ c.in-Some.is) in
    let name = sym here ∙ c.loop-bound.invariant.name in
    subst (λ text. OnOk c.push_role.result (c.push_role.new.report ≡ text)) (λ j. c.loop-bound.invariant.report j ++ name j) c.push_role.ensures

pub returns : goal.returns
returns c =
    let s = c.args.scene.now in let xs = c.args.bindings.now in let old = c.args.report.now in
    let none = sym c.loop-bound.invariant.name ∙ at_drop_all (bound_name s c.args.urb) xs c.loop-bound.bound-index c.loop-bound-test.false in
    c.loop-bound.invariant.report ∙ (sym (append-nil old) ∙ ap (λ name. old ++ name) (sym none))
