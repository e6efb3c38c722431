use Rattle.std.proofs.Common.{ℕ, ◌+◌, ◌≤◌, refl, sym, ap, ◌∙◌, arith}
use Rattle.std.specs.Prelude.{count_by}
use Rattle.std.proofs.lemmas.List.{take_all}
use Rattle.usb_trace.specs.NewCores.{number_among}
use Rattle.usb_trace.specs.Plan.{is_numbered_by}
use Rattle.usb_trace.proofs.Numbered.{numbers_before, number_next, numbers_few}
use Rattle.usb_trace.proofs.numbering.own_number.Goals as goal

pub loop-u-init : goal.loop-u-init
loop-u-init c = (refl, omega arith)

pub overflow_add-number : goal.overflow_add-number
overflow_add-number c =
    let owners = c.args.owners.now in
    let next = number_next owners c.loop-u.u c.loop-u.number c.numbers-number.result c.loop-u-test.true c.loop-u.invariant.0 c.numbers-number.ensures in
    let near = c.loop-u-test.true in
    let most = numbers_few owners (c.loop-u.u + 1) (omega arith) in
    let few = c.requires in
    omega arith

pub loop-u-preserved : goal.loop-u-preserved
loop-u-preserved c =
    let near = c.loop-u.invariant.1 in
    let off = c.if-u-urb.false in
    let next : c.loop-u.u + 1 ≤ c.in-Some.field-0.0 = grind arith in
    (number_next c.args.owners.now c.loop-u.u c.loop-u.number c.numbers-number.result c.loop-u-test.true c.loop-u.invariant.0 c.numbers-number.ensures, next)

pub returns-after-loop-u : goal.returns-after-loop-u
returns-after-loop-u c =
    let owners = c.args.owners.now in
    let past = c.loop-u-test.false in
    let near = c.loop-u.invariant.1 in
    c.loop-u.invariant.0 ∙ (ap (λ l. 2000000 + count_by is_numbered_by l) (take_all c.loop-u.u owners past ∙ sym (take_all c.in-Some.field-0.0 owners (omega arith))) ∙ ap (number_among owners) (sym c.in-Some.is))

pub returns-then-u-urb : goal.returns-then-u-urb
returns-then-u-urb c =
    let owners = c.args.owners.now in
    c.loop-u.invariant.0 ∙ (ap (λ (n : ℕ). 2000000 + numbers_before owners n) c.if-u-urb.true ∙ ap (number_among owners) (sym c.in-Some.is))
