use Rattle.std.proofs.Common.{◌<◌, Bool, sym, ap, ◌∙◌, subst, arith, add-one}
use Rattle.usb_prepare.specs.Ends.{ends_of}
use Rattle.usb_line.specs.Line.{marked_of, Passes, none}
use Rattle.usb_line.specs.Turned.{EndServed, TurnsFall}
use Rattle.usb_line.proofs.Turns.{passed}
use Rattle.usb_line.proofs.run.LineRun.serve_ends.Goals as goal

pub loop-ep-init : goal.loop-ep-init
loop-ep-init c = record { keeps = omega arith; so_far = λ s f good shows unmarked. (f, none, shows) }

pub serve_end-requires-clause-unmarked : goal.serve_end-requires-clause-unmarked
serve_end-requires-clause-unmarked c = let q = c.requires in let at = c.loop-ep.invariant.so_far q.scene q.far q.good q.shows q.none in
    record { scene = q.scene; good = q.good; far = at.0; shows = at.2; none = ap (marked_of q.scene) (passed q.scene q.far at.0 c.loop-ep.ep at.1).history ∙ q.none }

pub returns-then-branch-clause-served : goal.returns-then-branch-clause-served
returns-then-branch-clause-served c = λ s f good shows unmarked.
    let at = c.loop-ep.invariant.so_far s f good shows unmarked in
    let all = shows.all_ends in let count = c.len-ep-end.ensures in let more = c.loop-ep-test.true in
    let near : c.loop-ep.ep < ends_of s = omega arith in (
      c.loop-ep.ep,
      at.0,
      near,
      at.1,
      subst (λ (b : Bool). EndServed s at.0 c.loop-ep.ep b c.serve_end.new.self) c.if-branch.true
          (c.in_ok-serve_end.ensures.served s at.0 good at.2 (ap (marked_of s) (passed s f at.0 c.loop-ep.ep at.1).history ∙ unmarked)),
    )

pub loop-ep-preserved : goal.loop-ep-preserved
loop-ep-preserved c = record {
  keeps = let keeps = subst (λ (b : Bool). TurnsFall b c.loop-ep.self c.serve_end.new.self) c.if-branch.false c.in_ok-serve_end.ensures.falls in let before = c.loop-ep.invariant.keeps in omega arith;
  so_far = λ s f good shows unmarked.
      let at = c.loop-ep.invariant.so_far s f good shows unmarked in
      let by = subst (λ (b : Bool). EndServed s at.0 c.loop-ep.ep b c.serve_end.new.self) c.if-branch.false
      (c.in_ok-serve_end.ensures.served s at.0 good at.2 (ap (marked_of s) (passed s f at.0 c.loop-ep.ep at.1).history ∙ unmarked)) in
      (by.far, subst (λ n. Passes s f n by.far) (sym (add-one c.loop-ep.ep)) (by.passes f at.1), by.shows);
}
