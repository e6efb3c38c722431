use Rattle.std.proofs.Common.{rules, ◌≡◌, [], false, All, ap, ◌∙◌, subst}
use Rattle.usb_turn.proofs.Gathering.{gathers_first, gathers_next, gathered_all, gathered_numbers, all_front, Gathering}
use Rattle.usb_turn.proofs.turns.Turns.gather.Goals as goal
use Rattle.usb_turn.proofs.turns.Turns.gather.Goals.{In-Some-pop}

pub loop-pass-init : goal.loop-pass-init
loop-pass-init g c =
    let shared = c.args.self.now.table.shared in
    gathers_first g.V.Kept.stands g.V.Kept.by shared.table_id shared.key.passes c.first.inside.rows c.args.passes.items c.pop.new.self.items c.in-Some.first c.first.inside.seat.table_id c.first.inside.seat.me
    c.requires c.in-Some.ensures.items c.first.view_is c.first.invariant.0

pub hear-requires-clause-here : goal.hear-requires-clause-here
hear-requires-clause-here g c =
    let t = c.args.self.now.table.shared.table_id in
    let h = all_front (λ p. (p.table ≡ t) × (p.has ≡ false)) c.pop-in-loop-pass.new.self.items c.in-Some-pop.pass (subst (λ l. All (λ p. (p.table ≡ t) × (p.has ≡ false)) l) c.in-Some-pop.ensures.items c.loop-pass.invariant.each) in
    (c.loop-pass.invariant.here, ap (λ p. p.table) c.pass.view_is ∙ h.1.0)

pub hear-requires-clause-idle : goal.hear-requires-clause-idle
hear-requires-clause-idle g c =
    let t = c.args.self.now.table.shared.table_id in
    let h = all_front (λ p. (p.table ≡ t) × (p.has ≡ false)) c.pop-in-loop-pass.new.self.items c.in-Some-pop.pass (subst (λ l. All (λ p. (p.table ≡ t) × (p.has ≡ false)) l) c.in-Some-pop.ensures.items c.loop-pass.invariant.each) in
    let idle : c.pass.inside.seat.me.0.has ≡ false = ap (λ p. p.has) c.pass.view_is ∙ h.1.1 in
    (c.pass.invariant.0.idle idle, idle, c.loop-pass.invariant.idle)

pub loop-pass-preserved : goal.loop-pass-preserved
loop-pass-preserved g c =
    let shared = c.args.self.now.table.shared in
    gathers_next g.V.Kept.stands g.V.Kept.by shared.table_id shared.key.passes c.pass.inside.rows c.args.passes.items c.loop-pass.passes.items c.pop-in-loop-pass.new.self.items c.in-Some-pop.pass c.loop-pass.all.table_id c.pass.inside.seat.table_id c.hear.new.seat.table_id
    c.loop-pass.all.me.0 c.hear.new.seat.me.0 c.pass.inside.seat.me
    c.hear.ensures.same.0 c.loop-pass.invariant c.in-Some-pop.ensures.items c.pass.view_is c.pass.invariant.0 c.hear.ensures.compared (ap (λ m. m.0) c.hear.ensures.heard)

pub returns-clause-all : goal.returns-clause-all
returns-clause-all g c =
    let shared = c.args.self.now.table.shared in
    let none : c.loop-pass.passes.items ≡ [] = search rules in
    gathered_numbers shared.table_id shared.key.passes c.args.passes.items c.loop-pass.all.me.0 c.requires (gathered_all shared.table_id shared.key.passes c.args.passes.items c.loop-pass.all.table_id c.loop-pass.all.me.0 (subst (λ l. Gathering shared.table_id c.args.passes.items l c.loop-pass.all.table_id c.loop-pass.all.me.0) none c.loop-pass.invariant))
