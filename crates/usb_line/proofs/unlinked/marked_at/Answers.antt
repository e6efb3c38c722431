use Rattle.std.proofs.Common.{◌≡◌, arith, sym, ap, ◌∙◌, Some, subst, length}
use Rattle.std.specs.Prelude.{slice_get}
use Rattle.usb_machine.specs.History.{state_of, pending_of}
use Rattle.usb_trace.specs.Plan.{machine_of}
use Rattle.usb_line.specs.Line.{is_unlinked}
use Rattle.usb_line.proofs.Scanning.{NoneBefore, pending_known, none_more, first_passes, none_passes}
use Rattle.usb_line.proofs.unlinked.marked_at.Goals as goal
use Rattle.usb_line.proofs.unlinked.marked_at.Goals.{in-Some+else-was_unlinked, in_default}

pub loop-place-init : goal.loop-place-init
loop-place-init c = λ s h stands k v l is. absurd (omega arith)

pub loop-place-preserved : goal.loop-place-preserved
loop-place-preserved c = λ s h stands.
    let read = c.pending.ensures (machine_of s) h stands in
    none_more (λ u. is_unlinked (state_of h u).mark) (pending_of (machine_of s) h c.args.ep) c.loop-place.place (c.loop-place.invariant s h stands)
    (elim c.match-pending.branch [
      | in-Some+else-was_unlinked w ↦
          (λ v is. let here : Some w.in-Some.urb ≡ Some v = sym w.in-Some.is ∙ (read ∙ is) in let same : w.in-Some.urb ≡ v = cc in
          ap (λ u. is_unlinked (state_of h u).mark) (sym same) ∙ (sym (w.was_unlinked.ensures s h stands) ∙ w.if-was_unlinked.false))
      | in_default w ↦ (λ v is. absurd (w.in_default.not-Some v (read ∙ is)))
    ])

pub was_unlinked-requires : goal.was_unlinked-requires
was_unlinked-requires c = let q = c.requires.stood in
    pending_known c.args.plain.now (machine_of q.scene) q.history c.args.ep c.loop-place.place c.in-Some.urb q.stands
    (sym (c.pending.ensures (machine_of q.scene) q.history q.stands) ∙ c.in-Some.is)

pub returns-then-was_unlinked : goal.returns-then-was_unlinked
returns-then-was_unlinked c = λ s h stands.
    sym (first_passes (λ u. is_unlinked (state_of h u).mark) (pending_of (machine_of s) h c.args.ep) c.loop-place.place c.in-Some.urb (c.loop-place.invariant s h stands)
    (sym (c.pending.ensures (machine_of s) h stands) ∙ c.in-Some.is) (sym (c.was_unlinked.ensures s h stands) ∙ c.if-was_unlinked.true))

pub returns : goal.returns
returns c = λ s h stands.
    let count = c.pending_len-place-end.ensures (machine_of s) h stands in
    let all : c.loop-place.place ≡ length (pending_of (machine_of s) h c.args.ep) = omega arith in
    ap (λ us. slice_get us 0) (sym (none_passes (λ u. is_unlinked (state_of h u).mark) (pending_of (machine_of s) h c.args.ep)
    (subst (NoneBefore (λ u. is_unlinked (state_of h u).mark) (pending_of (machine_of s) h c.args.ep)) all (c.loop-place.invariant s h stands))))
