use Rattle.std.proofs.Common.{◌≡◌, ◌∙◌, Option, Some, None, sym, ap, length, get_or, arith, ◌<◌}
use Rattle.std.proofs.lemmas.Option.{slice_get_within}
use Rattle.usb_bind.specs.Interfaces.{interfaces_of}
use Rattle.usb_prepare.specs.declared.found.Probe.TheVariants as probe
use Rattle.usb_prepare.specs.Prepared.{face_of}
use Rattle.usb_prepare.proofs.Lists.{any_default}
use Rattle.usb_prepare.proofs.InFace.{at_place, faces_longer}
use Rattle.usb_prepare.proofs.faces.faces.Goals as goal

some_none : {X : Type 0} (x : X) → ◌≡◌ {A = Option X} (Some x) None → ⊥
some_none x e = cc

some_some : {X : Type 0} (x y : X) → ◌≡◌ {A = Option X} (Some x) (Some y) → x ≡ y
some_some x y e = cc

pub unreachable-requires : goal.unreachable-requires
unreachable-requires c =
    let at = at_place c.args.config.now c.loop-i.i 0 c.items-number-items.result.now (c.items-number-items.ensures ∙ c.in_ok-numbers.ensures) c.loop-i-test.true in
    some_none at.0 (sym at.2 ∙ sym c.in_default.ensures)

pub loop-i-preserved : goal.loop-i-preserved
loop-i-preserved c =
    let at = at_place c.args.config.now c.loop-i.i 0 c.items-number-items.result.now (c.items-number-items.ensures ∙ c.in_ok-numbers.ensures) c.loop-i-test.true in
    let same = some_some c.in-Some.alt.now at.0 (c.in-Some.ensures ∙ at.2) in
    let near = slice_get_within (interfaces_of c.args.config.now) c.loop-i.i at.0 at.1 in
    let here : c.loop-i.i < length c.args.probes.now = let long = c.requires in omega arith in
    let went = get_or c.args.probes.now c.loop-i.i probe.Bound in
    faces_longer c.args.board.now c.args.device c.loop-i.i (interfaces_of c.args.config.now) c.args.probes.now at.0 went c.face.result c.loop-i.faces c.push.new.self c.requires at.1 near
    (any_default c.args.probes.now c.loop-i.i probe.Bound went here) (c.face.ensures ∙ ap (λ a. face_of c.args.board.now c.args.device a went) same) c.loop-i.invariant c.in_ok-push.ensures.ok
