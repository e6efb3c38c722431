use Rattle.std.proofs.Common.{Option, length, sym, ◌∙◌, subst}
use Rattle.usb_machine.specs.declared.transfer.Transfer.{Transfer}
use Rattle.usb_line.specs.Turned.{TakesOut}
use Rattle.usb_line.proofs.Lookups.{none_of}
use Rattle.usb_line.proofs.Pendings.{held_transfer, queued_holds, can_bring}
use Rattle.usb_line.proofs.Unlinking.{unlinked_near, gave_unlinked, unlinked_falls}
use Rattle.usb_line.proofs.run.LineRun.give_unlinked.Goals as goal

pub take_out-requires : goal.take_out-requires
take_out-requires c = let q = c.requires in (unlinked_near q.scene q.far c.args.self.now q.shows c.args.urb q.first).0

pub returns-in_default-clause-falls : goal.returns-in_default-clause-falls
returns-in_default-clause-falls c = let q = c.requires in let out = c.take_out.ensures in
    absurd (queued_holds q.scene q.far c.args.self.now q.shows c.args.urb out.row out.at (unlinked_near q.scene q.far c.args.self.now q.shows c.args.urb q.first).1
    (sym out.is ∙ none_of c.take_out.result c.in_default.not-Some))

pub returns-in_default-clause-given : goal.returns-in_default-clause-given
returns-in_default-clause-given c = λ s f good shows first. let out = c.take_out.ensures in
    absurd (queued_holds s f c.args.self.now shows c.args.urb out.row out.at (unlinked_near s f c.args.self.now shows c.args.urb first).1
    (sym out.is ∙ none_of c.take_out.result c.in_default.not-Some))

pub give_back-requires-clause-can : goal.give_back-requires-clause-can
give_back-requires-clause-can c = let q = c.requires in let out = c.take_out.ensures in
    can_bring q.scene q.far c.args.self.now c.take_out.new.self q.shows q.good c.args.urb out.row out.at out.rows (λ i. length (out.same_ends i).items) out.same.plain out.same.cores

pub give_back-requires-clause-window : goal.give_back-requires-clause-window
give_back-requires-clause-window c = let q = c.requires in let out = c.take_out.ensures in
    (held_transfer q.scene q.far c.args.self.now q.shows c.args.urb out.row c.in-Some.t out.at (sym c.in-Some.is ∙ out.is)).window

pub returns-clause-falls : goal.returns-clause-falls
returns-clause-falls c = let q = c.requires in
    unlinked_falls q.scene q.good q.far c.args.self.now c.take_out.new.self c.give_back.new.self q.shows c.args.urb c.in-Some.t
    (subst (λ (o : Option Transfer). TakesOut c.args.self.now c.take_out.new.self c.args.urb o) c.in-Some.is c.take_out.ensures) c.in_ok-give_back.ensures.back q.first

pub returns-clause-given : goal.returns-clause-given
returns-clause-given c = λ s f good shows first.
    gave_unlinked s good f c.args.self.now c.take_out.new.self c.give_back.new.self shows c.args.urb c.in-Some.t
    (subst (λ (o : Option Transfer). TakesOut c.args.self.now c.take_out.new.self c.args.urb o) c.in-Some.is c.take_out.ensures) c.in_ok-give_back.ensures.back first
