use Rattle.std.proofs.Common.{◌≡◌, [], ◌∷◌, ◌++◌, ◌+◌, ◌%◌, ◌^◌, Some, None, subst, sym, ap, ◌∙◌}
use Rattle.std.specs.Vec.{with_item}
use Rattle.std.proofs.lemmas.Option.{get_or_from_slice_get}
use Rattle.usb_machine.specs.declared.event.Event.TheVariants.{Claim}
use Rattle.usb_machine.specs.declared.event.Answer.TheVariants.{Number}
use Rattle.usb_machine.specs.Plain.{Stands}
use Rattle.usb_machine.specs.Calls.{entry}
use Rattle.usb_machine.specs.HostCalls.{rested_of, number_of}
use Rattle.usb_turn_host.specs.Stock.{IsStock, machine_of}
use Rattle.usb_turn_host.proofs.Resting.{claimed, rests_number}
use Rattle.usb_turn_host.proofs.stock.Stock.claim.Goals as goal

pub returns-clause-stands : goal.returns-clause-stands
returns-clause-stands c h stock next =
    let old = c.args.self.now in
    let u = c.args.urb.0 in
    let plain = c.step.new.self in
    let machine = machine_of old.setup in
    let made = Some record { event = Claim c.args.urb; answer = Number c.match-rested.number; carried = None } in
    let rested : c.take-rested.result ≡ rested_of h u = c.take-rested.ensures.value ∙ (c.index_mut.ensures.value ∙ get_or_from_slice_get old.resting.items u (rested_of h u) c.index_mut.result.now (stock.rests u c.requires.urb.0)) in
    let answer = c.step.ensures.answer machine h stock.plain ∙ ap Number (rests_number machine u h stock.plain.legal) in
    let stands = subst (λ a. Stands plain machine (h ++ entry c.args.pass (Claim c.args.urb) a None ∷ [])) answer (c.step.ensures.stands machine h None stock.plain next) in
    let base = claimed old h c.args.pass u plain made stock c.requires.urb.0 c.step.ensures.counts.0 stands in
    let emptied = subst (λ t. IsStock (record { plain = plain; flight = old.flight; resting = with_item old.resting u t; rows = (old.rows + 1) % 2 ^ 64; setup = old.setup; made = made }) (h ++ entry c.args.pass (Claim c.args.urb) (Number (number_of (rested_of h u))) None ∷ [])) (sym c.take-rested.ensures.after) base in
    subst (λ t. IsStock (record { plain = plain; flight = old.flight; resting = with_item old.resting u c.take-rested.new.self; rows = (old.rows + 1) % 2 ^ 64; setup = old.setup; made = made }) (h ++ entry c.args.pass (Claim c.args.urb) (Number (number_of t)) None ∷ [])) (sym rested) emptied
