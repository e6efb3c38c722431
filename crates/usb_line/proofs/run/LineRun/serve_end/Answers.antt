use Rattle.std.proofs.Common.{Option, sym, subst}
use Rattle.usb_machine.specs.declared.transfer.Transfer.{Transfer}
use Rattle.usb_line.specs.Turned.{TakesOut, FirstAwake}
use Rattle.usb_line.proofs.Lookups.{none_of}
use Rattle.usb_line.proofs.Pendings.{pending_near}
use Rattle.usb_line.proofs.Moving.{passes_over}
use Rattle.usb_line.proofs.Turning.{not_missing, has_window, has_size, has_device, moved_can_bring, by_waiting, keeps_waiting, by_ending, falls_ending}
use Rattle.usb_line.proofs.run.LineRun.serve_end.Goals as goal

pub returns-in_default-clause-served : goal.returns-in_default-clause-served
returns-in_default-clause-served c = λ s f good shows none.
    passes_over s f c.args.ep c.args.self.now shows (subst (FirstAwake s f c.args.ep) (none_of c.first_awake.result c.in_default.not-Some) (c.first_awake.ensures s f shows))

pub take_out-requires : goal.take_out-requires
take_out-requires c = let q = c.requires.unmarked in
    pending_near q.scene q.far c.args.self.now q.shows c.args.ep 0 c.in-Some.urb (subst (FirstAwake q.scene q.far c.args.ep) c.in-Some.is (c.first_awake.ensures q.scene q.far q.shows)).1

pub returns-in_default-take_out-clause-falls : goal.returns-in_default-take_out-clause-falls
returns-in_default-take_out-clause-falls c = let q = c.requires.unmarked in let run = c.args.self.now in
    absurd (not_missing q.scene q.good q.far run c.take_out.new.self q.shows c.args.ep c.in-Some.urb (subst (FirstAwake q.scene q.far c.args.ep) c.in-Some.is (c.first_awake.ensures q.scene q.far q.shows))
    (subst (λ (o : Option Transfer). TakesOut run c.take_out.new.self c.in-Some.urb o) (none_of c.take_out.result c.in_default-take_out.not-Some) c.take_out.ensures))

pub returns-in_default-take_out-clause-served : goal.returns-in_default-take_out-clause-served
returns-in_default-take_out-clause-served c = λ s f good shows none. let run = c.args.self.now in
    absurd (not_missing s good f run c.take_out.new.self shows c.args.ep c.in-Some.urb (subst (FirstAwake s f c.args.ep) c.in-Some.is (c.first_awake.ensures s f shows))
    (subst (λ (o : Option Transfer). TakesOut run c.take_out.new.self c.in-Some.urb o) (none_of c.take_out.result c.in_default-take_out.not-Some) c.take_out.ensures))

pub move_on-requires-clause-window : goal.move_on-requires-clause-window
move_on-requires-clause-window c = let q = c.requires.unmarked in let run = c.args.self.now in
    has_window q.scene q.good q.far run c.take_out.new.self q.shows c.args.ep c.in-Some.urb (subst (FirstAwake q.scene q.far c.args.ep) c.in-Some.is (c.first_awake.ensures q.scene q.far q.shows))
    c.in-Some-take_out.t (subst (λ (o : Option Transfer). TakesOut run c.take_out.new.self c.in-Some.urb o) c.in-Some-take_out.is c.take_out.ensures)

pub move_on-requires-clause-size : goal.move_on-requires-clause-size
move_on-requires-clause-size c = let q = c.requires.unmarked in let run = c.args.self.now in
    has_size q.scene q.good q.far run c.take_out.new.self q.shows c.args.ep c.in-Some.urb (subst (FirstAwake q.scene q.far c.args.ep) c.in-Some.is (c.first_awake.ensures q.scene q.far q.shows))
    c.in-Some-take_out.t (subst (λ (o : Option Transfer). TakesOut run c.take_out.new.self c.in-Some.urb o) c.in-Some-take_out.is c.take_out.ensures)

pub move_on-requires-clause-device : goal.move_on-requires-clause-device
move_on-requires-clause-device c = let q = c.requires.unmarked in let run = c.args.self.now in
    has_device q.scene q.good q.far run c.take_out.new.self q.shows c.args.ep c.in-Some.urb (subst (FirstAwake q.scene q.far c.args.ep) c.in-Some.is (c.first_awake.ensures q.scene q.far q.shows))
    c.in-Some-take_out.t (subst (λ (o : Option Transfer). TakesOut run c.take_out.new.self c.in-Some.urb o) c.in-Some-take_out.is c.take_out.ensures)

pub fall_asleep-requires-clause-known : goal.fall_asleep-requires-clause-known
fall_asleep-requires-clause-known c = let q = c.requires.unmarked in let run = c.args.self.now in
    (moved_can_bring q.scene q.good q.far run c.take_out.new.self q.shows c.args.ep c.in-Some.urb (subst (FirstAwake q.scene q.far c.args.ep) c.in-Some.is (c.first_awake.ensures q.scene q.far q.shows))
    c.in-Some-take_out.t (subst (λ (o : Option Transfer). TakesOut run c.take_out.new.self c.in-Some.urb o) c.in-Some-take_out.is c.take_out.ensures)
    c.move_on.new.self c.move_on.new.t c.move_on.result c.move_on.ensures).there

pub returns-in_default-move_on-clause-falls : goal.returns-in_default-move_on-clause-falls
returns-in_default-move_on-clause-falls c = let q = c.requires.unmarked in let run = c.args.self.now in
    keeps_waiting q.scene q.good q.far run c.take_out.new.self q.shows c.args.ep c.in-Some.urb (subst (FirstAwake q.scene q.far c.args.ep) c.in-Some.is (c.first_awake.ensures q.scene q.far q.shows))
    c.in-Some-take_out.t (subst (λ (o : Option Transfer). TakesOut run c.take_out.new.self c.in-Some.urb o) c.in-Some-take_out.is c.take_out.ensures)
    c.move_on.new.self c.move_on.new.t c.move_on.result c.move_on.ensures (sym (none_of c.move_on.result c.in_default-move_on.not-Some)) c.fall_asleep.new.self c.fall_asleep.ensures

pub returns-in_default-move_on-clause-served : goal.returns-in_default-move_on-clause-served
returns-in_default-move_on-clause-served c = λ s f good shows none. let run = c.args.self.now in
    by_waiting s good f run c.take_out.new.self shows c.args.ep c.in-Some.urb (subst (FirstAwake s f c.args.ep) c.in-Some.is (c.first_awake.ensures s f shows))
    c.in-Some-take_out.t (subst (λ (o : Option Transfer). TakesOut run c.take_out.new.self c.in-Some.urb o) c.in-Some-take_out.is c.take_out.ensures)
    c.move_on.new.self c.move_on.new.t c.move_on.result c.move_on.ensures (sym (none_of c.move_on.result c.in_default-move_on.not-Some)) c.fall_asleep.new.self c.fall_asleep.ensures

pub give_back-requires-clause-can : goal.give_back-requires-clause-can
give_back-requires-clause-can c = let q = c.requires.unmarked in let run = c.args.self.now in
    moved_can_bring q.scene q.good q.far run c.take_out.new.self q.shows c.args.ep c.in-Some.urb (subst (FirstAwake q.scene q.far c.args.ep) c.in-Some.is (c.first_awake.ensures q.scene q.far q.shows))
    c.in-Some-take_out.t (subst (λ (o : Option Transfer). TakesOut run c.take_out.new.self c.in-Some.urb o) c.in-Some-take_out.is c.take_out.ensures)
    c.move_on.new.self c.move_on.new.t c.move_on.result c.move_on.ensures

pub returns-clause-falls : goal.returns-clause-falls
returns-clause-falls c = let q = c.requires.unmarked in let run = c.args.self.now in
    falls_ending q.scene q.good q.far run c.take_out.new.self q.shows c.args.ep c.in-Some.urb (subst (FirstAwake q.scene q.far c.args.ep) c.in-Some.is (c.first_awake.ensures q.scene q.far q.shows))
    c.in-Some-take_out.t (subst (λ (o : Option Transfer). TakesOut run c.take_out.new.self c.in-Some.urb o) c.in-Some-take_out.is c.take_out.ensures)
    c.move_on.new.self c.move_on.new.t c.move_on.result c.move_on.ensures c.in-Some-move_on.code c.in-Some-move_on.is c.give_back.new.self c.in_ok-give_back.ensures.back q.none

pub returns-clause-served : goal.returns-clause-served
returns-clause-served c = λ s f good shows none. let run = c.args.self.now in
    by_ending s good f run c.take_out.new.self shows c.args.ep c.in-Some.urb (subst (FirstAwake s f c.args.ep) c.in-Some.is (c.first_awake.ensures s f shows))
    c.in-Some-take_out.t (subst (λ (o : Option Transfer). TakesOut run c.take_out.new.self c.in-Some.urb o) c.in-Some-take_out.is c.take_out.ensures)
    c.move_on.new.self c.move_on.new.t c.move_on.result c.move_on.ensures c.in-Some-move_on.code c.in-Some-move_on.is c.give_back.new.self c.in_ok-give_back.ensures.back none
