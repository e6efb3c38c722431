use Rattle.std.proofs.Common.{◌≡◌, true, sym, ◌∙◌, arith, length}
use Rattle.usb_line.specs.Line.{with_takes}
use Rattle.usb_line.proofs.Lookups.{none_of}
use Rattle.usb_line.proofs.WholeTurn.{taken_shown, is_first_marked, none_marked, turned_unlinked, turned_ends, still_shown}
use Rattle.usb_line.proofs.run.LineRun.turn.Goals as goal

pub give_unlinked-requires : goal.give_unlinked-requires
give_unlinked-requires c = let q = c.requires in let run = c.args.self.now in let is = c.len-ends.ensures in let count : c.len-ends.result ≡ length run.ends.items = omega arith in record {
  scene = q.scene;
  good = q.good;
  far = with_takes q.scene q.far;
  shows = taken_shown q.scene q.far run q.shows c.take_all.new.plain c.len-ends.result count c.take_all.ensures.taken;
  first = sym (is_first_marked q.scene q.far run q.shows c.take_all.new.plain c.len-ends.result count c.take_all.ensures.taken c.first_marked.result c.first_marked.ensures) ∙ c.in-Some.is;
}

pub returns-in-Some-clause-turned : goal.returns-in-Some-clause-turned
returns-in-Some-clause-turned c = λ s f good shows. let run = c.args.self.now in let is = c.len-ends.ensures in let count : c.len-ends.result ≡ length run.ends.items = omega arith in
    turned_unlinked s f c.give_unlinked.new.self (c.in_ok-give_unlinked.ensures.given s (with_takes s f) good
    (taken_shown s f run shows c.take_all.new.plain c.len-ends.result count c.take_all.ensures.taken)
    (sym (is_first_marked s f run shows c.take_all.new.plain c.len-ends.result count c.take_all.ensures.taken c.first_marked.result c.first_marked.ensures) ∙ c.in-Some.is))

pub returns-in-Some-clause-shown : goal.returns-in-Some-clause-shown
returns-in-Some-clause-shown c = let q = c.requires in let run = c.args.self.now in let is = c.len-ends.ensures in let count : c.len-ends.result ≡ length run.ends.items = omega arith in
    still_shown q.scene q.far true c.give_unlinked.new.self q.good
    (turned_unlinked q.scene q.far c.give_unlinked.new.self (c.in_ok-give_unlinked.ensures.given q.scene (with_takes q.scene q.far) q.good
    (taken_shown q.scene q.far run q.shows c.take_all.new.plain c.len-ends.result count c.take_all.ensures.taken)
    (sym (is_first_marked q.scene q.far run q.shows c.take_all.new.plain c.len-ends.result count c.take_all.ensures.taken c.first_marked.result c.first_marked.ensures) ∙ c.in-Some.is)))

pub serve_ends-requires : goal.serve_ends-requires
serve_ends-requires c = let q = c.requires in let run = c.args.self.now in let is = c.len-ends.ensures in let count : c.len-ends.result ≡ length run.ends.items = omega arith in record {
  scene = q.scene;
  good = q.good;
  far = with_takes q.scene q.far;
  shows = taken_shown q.scene q.far run q.shows c.take_all.new.plain c.len-ends.result count c.take_all.ensures.taken;
  none = none_marked q.scene q.far run q.shows c.take_all.new.plain c.len-ends.result count c.take_all.ensures.taken c.first_marked.result c.first_marked.ensures
      (none_of c.first_marked.result c.in_default.not-Some);
}

pub returns-clause-turned : goal.returns-clause-turned
returns-clause-turned c = λ s f good shows. let run = c.args.self.now in let is = c.len-ends.ensures in let count : c.len-ends.result ≡ length run.ends.items = omega arith in
    let none = none_marked s f run shows c.take_all.new.plain c.len-ends.result count c.take_all.ensures.taken c.first_marked.result c.first_marked.ensures
    (none_of c.first_marked.result c.in_default.not-Some) in
    turned_ends s f c.in_ok-back.back c.serve_ends.new.self none (c.in_ok-back.ensures.served s (with_takes s f) good
    (taken_shown s f run shows c.take_all.new.plain c.len-ends.result count c.take_all.ensures.taken) none)

pub returns-clause-shown : goal.returns-clause-shown
returns-clause-shown c = let q = c.requires in let run = c.args.self.now in let is = c.len-ends.ensures in let count : c.len-ends.result ≡ length run.ends.items = omega arith in
    let none = none_marked q.scene q.far run q.shows c.take_all.new.plain c.len-ends.result count c.take_all.ensures.taken c.first_marked.result c.first_marked.ensures
    (none_of c.first_marked.result c.in_default.not-Some) in
    still_shown q.scene q.far c.in_ok-back.back c.serve_ends.new.self q.good
    (turned_ends q.scene q.far c.in_ok-back.back c.serve_ends.new.self none (c.in_ok-back.ensures.served q.scene (with_takes q.scene q.far) q.good
    (taken_shown q.scene q.far run q.shows c.take_all.new.plain c.len-ends.result count c.take_all.ensures.taken) none))
