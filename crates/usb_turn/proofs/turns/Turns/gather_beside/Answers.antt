use Rattle.std.proofs.Common.{rules, ◌≡◌, ◌++◌, ◌∷◌, [], false, All, ap, ◌∙◌, subst, refl}
use Rattle.usb_turn.specs.Rows.{number_of, mine_of}
use Rattle.usb_turn.proofs.Sitting.{has_number}
use Rattle.usb_turn.proofs.Gathering.{gathers_first, gathers_next, gathered_all, gathered_numbers, all_front, Gathering}
use Rattle.usb_turn.proofs.turns.Turns.gather_beside.Goals as goal

pub hear-requires-clause-pass : goal.hear-requires-clause-pass
hear-requires-clause-pass g c =
    let m = c.a.inside.seat.me in
    (number_of m.0.parts, mine_of m.0.parts, has_number g.V.Kept.stands g.V.Kept.by c.a.inside.rows m c.a.invariant.0)

pub loop-pass-init : goal.loop-pass-init
loop-pass-init g c =
    let shared = c.args.self.now.table.shared in
    let whole = (c.args.passes.items ++ c.args.b ∷ []) ++ c.args.a ∷ [] in
    let rest = c.args.passes.items ++ c.args.b ∷ [] in
    let one = gathers_first g.V.Kept.stands g.V.Kept.by shared.table_id shared.key.passes c.a.inside.rows whole rest c.args.a c.a.inside.seat.table_id c.a.inside.seat.me c.requires refl c.a.view_is c.a.invariant.0 in
    gathers_next g.V.Kept.stands g.V.Kept.by shared.table_id shared.key.passes c.b.inside.rows whole rest c.args.passes.items c.args.b c.a.inside.seat.table_id c.b.inside.seat.table_id c.hear.new.seat.table_id
    c.a.inside.seat.me.0 c.hear.new.seat.me.0 c.b.inside.seat.me
    c.hear.ensures.same.0 one refl c.b.view_is c.b.invariant.0 c.hear.ensures.compared (ap (λ m. m.0) c.hear.ensures.heard)

pub hear-requires-in-Some-clause-here : goal.hear-requires-in-Some-clause-here
hear-requires-in-Some-clause-here g c =
    let t = c.args.self.now.table.shared.table_id in
    let h = all_front (λ p. (p.table ≡ t) × (p.has ≡ false)) c.pop.new.self.items c.in-Some.pass (subst (λ l. All (λ p. (p.table ≡ t) × (p.has ≡ false)) l) c.in-Some.ensures.items c.loop-pass.invariant.each) in
    (c.loop-pass.invariant.here, ap (λ p. p.table) c.pass.view_is ∙ h.1.0)

pub hear-requires-in-Some-clause-idle : goal.hear-requires-in-Some-clause-idle
hear-requires-in-Some-clause-idle g c =
    let t = c.args.self.now.table.shared.table_id in
    let h = all_front (λ p. (p.table ≡ t) × (p.has ≡ false)) c.pop.new.self.items c.in-Some.pass (subst (λ l. All (λ p. (p.table ≡ t) × (p.has ≡ false)) l) c.in-Some.ensures.items c.loop-pass.invariant.each) in
    let idle : c.pass.inside.seat.me.0.has ≡ false = ap (λ p. p.has) c.pass.view_is ∙ h.1.1 in
    (c.pass.invariant.0.idle idle, idle, c.loop-pass.invariant.idle)

pub loop-pass-preserved : goal.loop-pass-preserved
loop-pass-preserved g c =
    let shared = c.args.self.now.table.shared in
    let whole = (c.args.passes.items ++ c.args.b ∷ []) ++ c.args.a ∷ [] in
    gathers_next g.V.Kept.stands g.V.Kept.by shared.table_id shared.key.passes c.pass.inside.rows whole c.loop-pass.passes.items c.pop.new.self.items c.in-Some.pass c.loop-pass.all.table_id c.pass.inside.seat.table_id c.hear-in-Some.new.seat.table_id
    c.loop-pass.all.me.0 c.hear-in-Some.new.seat.me.0 c.pass.inside.seat.me
    c.hear-in-Some.ensures.same.0 c.loop-pass.invariant c.in-Some.ensures.items c.pass.view_is c.pass.invariant.0 c.hear-in-Some.ensures.compared (ap (λ m. m.0) c.hear-in-Some.ensures.heard)

pub returns-clause-all : goal.returns-clause-all
returns-clause-all g c =
    let shared = c.args.self.now.table.shared in
    let whole = (c.args.passes.items ++ c.args.b ∷ []) ++ c.args.a ∷ [] in
    let none : c.loop-pass.passes.items ≡ [] = search rules in
    gathered_numbers shared.table_id shared.key.passes whole c.loop-pass.all.me.0 c.requires (gathered_all shared.table_id shared.key.passes whole c.loop-pass.all.table_id c.loop-pass.all.me.0 (subst (λ l. Gathering shared.table_id whole l c.loop-pass.all.table_id c.loop-pass.all.me.0) none c.loop-pass.invariant))
