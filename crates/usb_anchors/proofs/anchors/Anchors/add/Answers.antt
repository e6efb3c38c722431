use Rattle.std.proofs.Common.{◌≡◌, true, not, ◌&&◌, ℕ, ◌++◌, ◌∷◌, [], cond, length, Some, refl, ap, sym, ◌∙◌, subst}
use Rattle.usb_turn.specs.Pass.{Pass}
use Rattle.usb_turn.specs.Shown.{id_of}
use Rattle.usb_anchors.specs.Opened.{key_of}
use Rattle.usb_anchor.specs.declared.log.LogRow.{LogRow}
use Rattle.usb_anchor.specs.declared.log.TheConstants.{ADD}
use Rattle.usb_anchor.specs.Log.{row}
use Rattle.usb_anchor.specs.Core.{Core, CanCall, busy_of}
use Rattle.usb_anchor.specs.Anchor.{Anchor, has}
use Rattle.usb_anchor.specs.Log.{anchor_of}
use Rattle.usb_anchor.proofs.Replaying.{changes}
use Rattle.usb_anchors.specs.Host.{Sees, rejects_by}
use Rattle.usb_anchors.specs.Rack.{sized}
use Rattle.usb_anchors.specs.declared.rack.Plan.{Plan}
use Rattle.usb_anchors.proofs.Turning.{grown, newest_is, grown_newest, told_by, at_most_one, may_call, legal_by, numbered, acts_of, sees, add_acts}
use Rattle.usb_machine.proofs.Growing.{begins_trans}
use Rattle.std.proofs.Common.{false, append-nil, ◌<◌}
use Rattle.usb_machine.specs.declared.event.Event.TheVariants.{Reject}
use Rattle.usb_machine.specs.Calls.{plain_entry}
use Rattle.usb_anchors.proofs.Counted.{may_raise, both, negated}
use Rattle.usb_anchors.proofs.anchors.Anchors.add.Goals as goal

pub leave-requires-clause-stands : goal.leave-requires-clause-stands
leave-requires-clause-stands g c =
    let v = c.enter-rack.result in let q = c.enter-rack.new.pass in let p = c.args.by.now.turn in let e = c.enter-rack.ensures in let plan = key_of c.args.self.now.turns in
    let x = row c.number.result ADD (Some c.args.anchor) (Some c.args.urb) (busy_of c.add-answer.result) (length v.core.victims) 0 in
    let can : CanCall v.core.left c.number.result = may_call g.H.Host.machine g.H.Host.is_of g.H.Host.known (id_of c.args.self.now.turns) plan p q c.args.by.now.left c.number.result v c.requires.by c.requires.left e.same e.own e.stands e.key c.number.ensures in
    let host = subst (λ (k : Plan _ _). g.H.Host.is_of k.host.value c.meet-2.new.other) (sym e.key) (subst (λ h. g.H.Host.is_of h c.meet-2.new.other) (sym c.requires.host.1) c.meet-2.ensures.here.1) in
    let known = g.H.Host.known in let n = (known v.plan.first.value).number in
    let middle = c.meet.ensures.pass.grown.number ∙ e.stands.number in
    let rows : v.core.rows ≡ q.seen = e.stands.rows_are in
    let wrote : c.add-answer.new.self.rows ≡ q.seen ++ x ∷ [] = ap (λ (k : Core). k.rows) c.add-answer.ensures.log ∙ ap (λ rs. rs ++ x ∷ []) rows in
    let was : c.holds-was.result ≡ has (anchor_of q.seen c.args.anchor).held c.args.urb.0 = c.holds-was.ensures ∙ ap (λ rs. has (anchor_of rs c.args.anchor).held c.args.urb.0) rows in
    let is = c.holds-is.ensures ∙ ap (λ (t : Anchor). has t.held c.args.urb.0) (changes q.seen c.add-answer.new.self.rows x c.args.anchor wrote refl).there in
    let raises = ap (λ m. cond (not c.holds-was.result && c.holds-is.result) (plain_entry m (Reject c.args.urb) ∷ []) []) middle
    ∙ add_acts n v.plan.urbs c.number.result c.args.anchor (length v.core.victims) c.args.urb (busy_of c.add-answer.result) q.seen c.holds-was.result c.holds-is.result was is in
    let acts = acts_of n (known v.pass) (known c.meet.new.pass) (known c.raise_if.new.pass) (known c.meet-2.new.other) _ v.plan.urbs x q.seen c.meet.ensures.pass.grown c.raise_if.ensures.grown c.meet-2.ensures.other.grown raises in
    grown_newest g.H.Host.machine g.H.Host.is_of known v (record { core = c.add-answer.new.self; pass = c.meet-2.new.other; raised = v.raised; grew = true; plan = v.plan }) q.seen x ([]) e.stands c.add-answer.ensures.log refl host c.know.ensures can acts refl

pub leave-requires-clause-one : goal.leave-requires-clause-one
leave-requires-clause-one g c =
    let v = c.enter-rack.result in let q = c.enter-rack.new.pass in let p = c.args.by.now.turn in let e = c.enter-rack.ensures in let plan = key_of c.args.self.now.turns in
    let x = row c.number.result ADD (Some c.args.anchor) (Some c.args.urb) (busy_of c.add-answer.result) (length v.core.victims) 0 in
    let can : CanCall v.core.left c.number.result = may_call g.H.Host.machine g.H.Host.is_of g.H.Host.known (id_of c.args.self.now.turns) plan p q c.args.by.now.left c.number.result v c.requires.by c.requires.left e.same e.own e.stands e.key c.number.ensures in
    let host = subst (λ (k : Plan _ _). g.H.Host.is_of k.host.value c.meet-2.new.other) (sym e.key) (subst (λ h. g.H.Host.is_of h c.meet-2.new.other) (sym c.requires.host.1) c.meet-2.ensures.here.1) in
    let known = g.H.Host.known in let n = (known v.plan.first.value).number in
    let middle = c.meet.ensures.pass.grown.number ∙ e.stands.number in
    let rows : v.core.rows ≡ q.seen = e.stands.rows_are in
    let wrote : c.add-answer.new.self.rows ≡ q.seen ++ x ∷ [] = ap (λ (k : Core). k.rows) c.add-answer.ensures.log ∙ ap (λ rs. rs ++ x ∷ []) rows in
    let was : c.holds-was.result ≡ has (anchor_of q.seen c.args.anchor).held c.args.urb.0 = c.holds-was.ensures ∙ ap (λ rs. has (anchor_of rs c.args.anchor).held c.args.urb.0) rows in
    let is = c.holds-is.ensures ∙ ap (λ (t : Anchor). has t.held c.args.urb.0) (changes q.seen c.add-answer.new.self.rows x c.args.anchor wrote refl).there in
    let raises = ap (λ m. cond (not c.holds-was.result && c.holds-is.result) (plain_entry m (Reject c.args.urb) ∷ []) []) middle
    ∙ add_acts n v.plan.urbs c.number.result c.args.anchor (length v.core.victims) c.args.urb (busy_of c.add-answer.result) q.seen c.holds-was.result c.holds-is.result was is in
    let acts = acts_of n (known v.pass) (known c.meet.new.pass) (known c.raise_if.new.pass) (known c.meet-2.new.other) _ v.plan.urbs x q.seen c.meet.ensures.pass.grown c.raise_if.ensures.grown c.meet-2.ensures.other.grown raises in
    at_most_one q.number _ x (newest_is g.H.Host.machine g.H.Host.is_of known v (record { core = c.add-answer.new.self; pass = c.meet-2.new.other; raised = v.raised; grew = true; plan = v.plan }) q.seen x ([]) e.stands c.add-answer.ensures.log refl host c.know.ensures can acts refl) c.number.ensures

pub returns-clause-told : goal.returns-clause-told
returns-clause-told g c =
    let v = c.enter-rack.result in let q = c.enter-rack.new.pass in let p = c.args.by.now.turn in let e = c.enter-rack.ensures in let plan = key_of c.args.self.now.turns in
    let x = row c.number.result ADD (Some c.args.anchor) (Some c.args.urb) (busy_of c.add-answer.result) (length v.core.victims) 0 in
    let can : CanCall v.core.left c.number.result = may_call g.H.Host.machine g.H.Host.is_of g.H.Host.known (id_of c.args.self.now.turns) plan p q c.args.by.now.left c.number.result v c.requires.by c.requires.left e.same e.own e.stands e.key c.number.ensures in
    let host = subst (λ (k : Plan _ _). g.H.Host.is_of k.host.value c.meet-2.new.other) (sym e.key) (subst (λ h. g.H.Host.is_of h c.meet-2.new.other) (sym c.requires.host.1) c.meet-2.ensures.here.1) in
    let known = g.H.Host.known in let n = (known v.plan.first.value).number in
    let middle = c.meet.ensures.pass.grown.number ∙ e.stands.number in
    let rows : v.core.rows ≡ q.seen = e.stands.rows_are in
    let wrote : c.add-answer.new.self.rows ≡ q.seen ++ x ∷ [] = ap (λ (k : Core). k.rows) c.add-answer.ensures.log ∙ ap (λ rs. rs ++ x ∷ []) rows in
    let was : c.holds-was.result ≡ has (anchor_of q.seen c.args.anchor).held c.args.urb.0 = c.holds-was.ensures ∙ ap (λ rs. has (anchor_of rs c.args.anchor).held c.args.urb.0) rows in
    let is = c.holds-is.ensures ∙ ap (λ (t : Anchor). has t.held c.args.urb.0) (changes q.seen c.add-answer.new.self.rows x c.args.anchor wrote refl).there in
    let raises = ap (λ m. cond (not c.holds-was.result && c.holds-is.result) (plain_entry m (Reject c.args.urb) ∷ []) []) middle
    ∙ add_acts n v.plan.urbs c.number.result c.args.anchor (length v.core.victims) c.args.urb (busy_of c.add-answer.result) q.seen c.holds-was.result c.holds-is.result was is in
    let acts = acts_of n (known v.pass) (known c.meet.new.pass) (known c.raise_if.new.pass) (known c.meet-2.new.other) _ v.plan.urbs x q.seen c.meet.ensures.pass.grown c.raise_if.ensures.grown c.meet-2.ensures.other.grown raises in
    let more = newest_is g.H.Host.machine g.H.Host.is_of known v (record { core = c.add-answer.new.self; pass = c.meet-2.new.other; raised = v.raised; grew = true; plan = v.plan }) q.seen x ([]) e.stands c.add-answer.ensures.log refl host c.know.ensures can acts refl in let new = grown g.H.Host.machine g.H.Host.is_of known v (record { core = c.add-answer.new.self; pass = c.meet-2.new.other; raised = v.raised; grew = true; plan = v.plan }) q.seen x ([]) e.stands c.add-answer.ensures.log refl host c.know.ensures can acts refl in
    let legal = legal_by g.H.Host.machine g.H.Host.is_of known (record { core = c.add-answer.new.self; pass = c.meet-2.new.other; raised = v.raised; grew = true; plan = v.plan }) plan (q.seen ++ x ∷ []) new e.key in
    let told = told_by (sized plan) p q c.leave.new.pass x _ c.add-answer.new.self.victims e.same e.begins c.leave.ensures.same more legal in
    (length v.core.victims, numbered (sized plan) p c.leave.new.pass (λ (k : ℕ). row k ADD (Some c.args.anchor) (Some c.args.urb) (busy_of c.add-answer.result) (length v.core.victims) 0) c.number.result q.number c.number.ensures (ap (λ (z : Pass LogRow). z.number) e.same) told)

pub returns-clause-sees : goal.returns-clause-sees
returns-clause-sees g c =
    let v = c.enter-rack.result in let q = c.enter-rack.new.pass in let p = c.args.by.now.turn in let e = c.enter-rack.ensures in let plan = key_of c.args.self.now.turns in
    let x = row c.number.result ADD (Some c.args.anchor) (Some c.args.urb) (busy_of c.add-answer.result) (length v.core.victims) 0 in
    let can : CanCall v.core.left c.number.result = may_call g.H.Host.machine g.H.Host.is_of g.H.Host.known (id_of c.args.self.now.turns) plan p q c.args.by.now.left c.number.result v c.requires.by c.requires.left e.same e.own e.stands e.key c.number.ensures in
    let host = subst (λ (k : Plan _ _). g.H.Host.is_of k.host.value c.meet-2.new.other) (sym e.key) (subst (λ h. g.H.Host.is_of h c.meet-2.new.other) (sym c.requires.host.1) c.meet-2.ensures.here.1) in
    let known = g.H.Host.known in let n = (known v.plan.first.value).number in
    let middle = c.meet.ensures.pass.grown.number ∙ e.stands.number in
    let rows : v.core.rows ≡ q.seen = e.stands.rows_are in
    let wrote : c.add-answer.new.self.rows ≡ q.seen ++ x ∷ [] = ap (λ (k : Core). k.rows) c.add-answer.ensures.log ∙ ap (λ rs. rs ++ x ∷ []) rows in
    let was : c.holds-was.result ≡ has (anchor_of q.seen c.args.anchor).held c.args.urb.0 = c.holds-was.ensures ∙ ap (λ rs. has (anchor_of rs c.args.anchor).held c.args.urb.0) rows in
    let is = c.holds-is.ensures ∙ ap (λ (t : Anchor). has t.held c.args.urb.0) (changes q.seen c.add-answer.new.self.rows x c.args.anchor wrote refl).there in
    let raises = ap (λ m. cond (not c.holds-was.result && c.holds-is.result) (plain_entry m (Reject c.args.urb) ∷ []) []) middle
    ∙ add_acts n v.plan.urbs c.number.result c.args.anchor (length v.core.victims) c.args.urb (busy_of c.add-answer.result) q.seen c.holds-was.result c.holds-is.result was is in
    let acts = acts_of n (known v.pass) (known c.meet.new.pass) (known c.raise_if.new.pass) (known c.meet-2.new.other) _ v.plan.urbs x q.seen c.meet.ensures.pass.grown c.raise_if.ensures.grown c.meet-2.ensures.other.grown raises in
    let more = newest_is g.H.Host.machine g.H.Host.is_of known v (record { core = c.add-answer.new.self; pass = c.meet-2.new.other; raised = v.raised; grew = true; plan = v.plan }) q.seen x ([]) e.stands c.add-answer.ensures.log refl host c.know.ensures can acts refl in let new = grown g.H.Host.machine g.H.Host.is_of known v (record { core = c.add-answer.new.self; pass = c.meet-2.new.other; raised = v.raised; grew = true; plan = v.plan }) q.seen x ([]) e.stands c.add-answer.ensures.log refl host c.know.ensures can acts refl in
    let seen : c.leave.new.pass.seen ≡ q.seen ++ x ∷ [] = ap (λ (z : Pass LogRow). z.seen) c.leave.ensures.same ∙ ap (λ ys. q.seen ++ ys) more in
    let k2 = known c.raise_if.new.pass in let made = c.raise_if.ensures.grown in
    let all = sees (g.H.Host.machine c.args.host.now) n v.plan.urbs (known c.args.pass.now) (known c.meet.new.other) k2 (known c.meet-2.new.pass) (known c.meet-2.new.other) (q.seen ++ x ∷ []) (g.met.H.Host.sound c.args.host.now c.args.pass.now c.requires.host.0) c.meet-2.ensures.pass.sound (g.met.H.Host.sound c.args.host.now c.raise_if.new.pass c.raise_if.ensures.here) c.meet.ensures.other.grown c.meet-2.ensures.pass.grown
    (begins_trans k2.seen (known c.meet.new.pass).seen (known c.args.pass.now).seen made.begins c.meet.ensures.met) c.meet-2.ensures.met (made.number ∙ middle) c.meet-2.ensures.other.grown new.rejects in
    subst (λ (k : Plan _ _). Sees (known k.first.value).number (known c.args.pass.now) (known c.meet-2.new.pass) (rejects_by (known k.first.value).number k.urbs c.leave.new.pass.seen)) e.key
    (subst (λ rs. Sees n (known c.args.pass.now) (known c.meet-2.new.pass) (rejects_by n v.plan.urbs rs)) (sym seen) all)

pub raise_if-requires-clause-room : goal.raise_if-requires-clause-room
raise_if-requires-clause-room g c κs within =
    let v = c.enter-rack.result in let q = c.enter-rack.new.pass in let e = c.enter-rack.ensures in let known = g.H.Host.known in let n = (known v.plan.first.value).number in let a = c.args.anchor in
    let rows : v.core.rows ≡ q.seen = e.stands.rows_are in
    let low : a < v.plan.anchors = subst (λ (k : Plan _ _). a < k.anchors) (sym e.key) c.requires.anchor in
    let mine : (known c.meet.new.pass).mine ≡ rejects_by n v.plan.urbs q.seen = c.meet.ensures.pass.grown.mine ∙ (append-nil (known v.pass).mine ∙ e.stands.rejects) in
    let sound = c.meet.ensures.pass.sound in
    λ grows.
    let was : has (anchor_of q.seen a).held c.args.urb.0 ≡ false = sym (c.holds-was.ensures ∙ ap (λ rs. has (anchor_of rs a).held c.args.urb.0) rows) ∙ negated c.holds-was.result (both (not c.holds-was.result) c.holds-is.result grows).0 in
    may_raise (g.H.Host.machine c.args.host.now) (sized v.plan) (known c.meet.new.pass) n q.seen v.core.victims e.stands.legal sound mine a c.args.urb.0 low e.stands.fits.few was
