use Rattle.std.proofs.Common.{ℕ, ◌≡◌, sym, ap, ◌∙◌, arith, Option, Some, None, add-one}
use Rattle.usb_line.specs.Line.{marked_below}
use Rattle.usb_line.proofs.Scanning.{first_below, none_below}
use Rattle.usb_line.proofs.unlinked.first_marked.Goals as goal

none_of : (o : Option ℕ) → ((d : ℕ) → o ≡ Some d → ⊥) → o ≡ None
none_of None off = cc
none_of (Some d) off = absurd (off d cc)

pub returns-in-Some : goal.returns-in-Some
returns-in-Some c = λ s h stands.
    sym (first_below s h c.loop-ep.ep c.args.ends c.in-Some.urb (c.loop-ep.invariant s h stands) (sym (c.marked_at.ensures s h stands) ∙ c.in-Some.is) (omega arith))

pub loop-ep-preserved : goal.loop-ep-preserved
loop-ep-preserved c = λ s h stands.
    ap (marked_below s h) (add-one c.loop-ep.ep)
    ∙ none_below s h c.loop-ep.ep (c.loop-ep.invariant s h stands) (sym (c.marked_at.ensures s h stands) ∙ none_of c.marked_at.result c.in_default.not-Some)
