-- Under a `ghost` clause `c.requires` has no names: after a fact on lifetimes for each type come the clauses, nested in pairs.
use Rattle.std.proofs.Common.{◌≡◌, ap, sym, []}
use Rattle.usb_turn.proofs.Turning.{one_added, none_added, grown_none}
use Rattle.usb_turn.proofs.turns.Turns.count.Goals as goal

pub add-requires-clause-one : goal.add-requires-clause-one
add-requires-clause-one g c =
    let clauses = c.requires.1.1.1.1 in
    one_added g.V.Kept.by _ c.args.before c.args.after c.args.seat.now.me.0.seen g.more clauses.1.0 clauses.1.1.0 clauses.1.1.1 c.if-before-after.true

pub returns-else-before-after-clause-added : goal.returns-else-before-after-clause-added
returns-else-before-after-clause-added g c =
    let clauses = c.requires.1.1.1.1 in
    let v = c.args.seat.now.me.0 in
    let none : g.more ≡ [] = none_added g.V.Kept.by _ c.args.before c.args.after v.seen g.more clauses.1.0 clauses.1.1.0 clauses.1.1.1 c.if-before-after.false in
    rw none (ap (λ w. (w, c.args.seat.now.me.1)) (sym (grown_none v clauses.0.1)))
