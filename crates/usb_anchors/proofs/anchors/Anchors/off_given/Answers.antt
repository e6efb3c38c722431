use Rattle.std.proofs.Common.{◌≡◌, true, ℕ, ◌++◌, ◌∷◌, [], length, Some, None, refl, ap, sym, ◌∙◌, subst}
use Rattle.usb_turn.specs.Pass.{Pass}
use Rattle.usb_anchors.specs.Opened.{key_of}
use Rattle.usb_anchor.specs.declared.log.LogRow.{LogRow}
use Rattle.usb_anchor.specs.declared.log.TheConstants.{OFF}
use Rattle.usb_anchor.specs.Log.{Size, row}
use Rattle.usb_anchors.specs.Rack.{sized}
use Rattle.usb_anchors.specs.declared.rack.Plan.{Plan}
use Rattle.usb_anchors.specs.Told.{Told}
use Rattle.usb_anchors.proofs.Turning.{given_grown, given_newest, given_grown_newest, told_by, at_most_one, legal_by}
use Rattle.usb_anchors.proofs.anchors.Anchors.off_given.Goals as goal

pub leave-requires-clause-stands : goal.leave-requires-clause-stands
leave-requires-clause-stands g c =
    let v = c.enter-rack.result in let q = c.enter-rack.new.pass in let p = c.args.by.now.turn in let e = c.enter-rack.ensures in let plan = key_of c.args.self.now.turns in
    let x = row (length v.core.left) OFF (Some c.in-Some.anchor) (Some c.args.urb) None (length v.core.victims) 0 in
    let log = c.in-Some.ensures.log in
    let server : length v.core.left ≡ length v.plan.calls.value.items = ap (λ (g : Size). g.callers) e.stands.size in
    let number : length v.core.left ≡ p.number = server ∙ (ap (λ (k : Plan _ _). length k.calls.value.items) e.key ∙ sym c.requires.by.number) in
    let own : p.number ≡ q.number = sym (ap (λ (z : Pass LogRow). z.number) e.same) in
    given_grown_newest g.H.Host.machine g.H.Host.is_of g.H.Host.known v (record { core = c.off_given.new.self; pass = v.pass; raised = v.raised; grew = true; plan = v.plan }) q.seen x e.stands log refl refl c.know.ensures server refl refl

pub leave-requires-clause-one : goal.leave-requires-clause-one
leave-requires-clause-one g c =
    let v = c.enter-rack.result in let q = c.enter-rack.new.pass in let p = c.args.by.now.turn in let e = c.enter-rack.ensures in let plan = key_of c.args.self.now.turns in
    let x = row (length v.core.left) OFF (Some c.in-Some.anchor) (Some c.args.urb) None (length v.core.victims) 0 in
    let log = c.in-Some.ensures.log in
    let server : length v.core.left ≡ length v.plan.calls.value.items = ap (λ (g : Size). g.callers) e.stands.size in
    let number : length v.core.left ≡ p.number = server ∙ (ap (λ (k : Plan _ _). length k.calls.value.items) e.key ∙ sym c.requires.by.number) in
    let own : p.number ≡ q.number = sym (ap (λ (z : Pass LogRow). z.number) e.same) in
    at_most_one q.number _ x (given_newest g.H.Host.machine g.H.Host.is_of g.H.Host.known v (record { core = c.off_given.new.self; pass = v.pass; raised = v.raised; grew = true; plan = v.plan }) q.seen x e.stands log refl refl c.know.ensures server refl refl) (number ∙ own)

pub returns-in-Some-clause-gives : goal.returns-in-Some-clause-gives
returns-in-Some-clause-gives g c =
    let v = c.enter-rack.result in let q = c.enter-rack.new.pass in let p = c.args.by.now.turn in let e = c.enter-rack.ensures in let plan = key_of c.args.self.now.turns in
    let x = row (length v.core.left) OFF (Some c.in-Some.anchor) (Some c.args.urb) None (length v.core.victims) 0 in
    let log = c.in-Some.ensures.log in
    let server : length v.core.left ≡ length v.plan.calls.value.items = ap (λ (g : Size). g.callers) e.stands.size in
    let number : length v.core.left ≡ p.number = server ∙ (ap (λ (k : Plan _ _). length k.calls.value.items) e.key ∙ sym c.requires.by.number) in
    let own : p.number ≡ q.number = sym (ap (λ (z : Pass LogRow). z.number) e.same) in
    let legal = legal_by g.H.Host.machine g.H.Host.is_of g.H.Host.known (record { core = c.off_given.new.self; pass = v.pass; raised = v.raised; grew = true; plan = v.plan }) plan (q.seen ++ x ∷ []) (given_grown g.H.Host.machine g.H.Host.is_of g.H.Host.known v (record { core = c.off_given.new.self; pass = v.pass; raised = v.raised; grew = true; plan = v.plan }) q.seen x e.stands log refl refl c.know.ensures server refl refl) e.key in
    let told = told_by (sized plan) p q c.leave.new.pass x _ c.off_given.new.self.victims e.same e.begins c.leave.ensures.same (given_newest g.H.Host.machine g.H.Host.is_of g.H.Host.known v (record { core = c.off_given.new.self; pass = v.pass; raised = v.raised; grew = true; plan = v.plan }) q.seen x e.stands log refl refl c.know.ensures server refl refl) legal in
    (length v.core.victims, subst (λ (k : ℕ). Told (sized plan) p c.leave.new.pass (row k OFF (Some c.in-Some.anchor) (Some c.args.urb) None (length v.core.victims) 0)) number told)
