use Rattle.std.proofs.Common.{◌≡◌, true, ℕ, ◌++◌, ◌∷◌, [], length, map, Some, None, refl, ap, sym, ◌∙◌, subst}
use Rattle.std.proofs.lemmas.List.{length-map}
use Rattle.usb_turn.specs.Pass.{Pass}
use Rattle.usb_turn.specs.Shown.{id_of}
use Rattle.usb_anchors.specs.Opened.{key_of}
use Rattle.usb_anchor.specs.declared.log.LogRow.{LogRow}
use Rattle.usb_anchor.specs.declared.log.TheConstants.{UNLINK_ALL}
use Rattle.usb_anchor.specs.Log.{row, list_of, named}
use Rattle.usb_anchor.specs.Core.{CanCall}
use Rattle.usb_anchor.specs.Laws.{same}
use Rattle.usb_anchor.specs.Told.{Told as VictimsTold}
use Rattle.usb_anchors.specs.Host.{Sees, rejects_by}
use Rattle.usb_anchors.specs.Rack.{sized}
use Rattle.usb_anchors.specs.declared.rack.Plan.{Plan}
use Rattle.usb_anchors.specs.Told.{Takes}
use Rattle.usb_anchors.proofs.Turning.{grown, newest_is, grown_newest, told_by, at_most_one, may_call, legal_by, acts_of, sees}
use Rattle.usb_machine.proofs.Growing.{grown_none, begins_trans}
use Rattle.usb_anchor.proofs.ByRows.{all_below}
use Rattle.usb_anchors.proofs.Counted.{list_urbs}
use Rattle.std.proofs.Common.{◌≤◌}
use Rattle.usb_anchors.proofs.anchors.Anchors.take_to_unlink.Goals as goal

pub leave-requires-clause-stands : goal.leave-requires-clause-stands
leave-requires-clause-stands g c =
    let v = c.enter-rack.result in let q = c.enter-rack.new.pass in let p = c.args.by.now.turn in let e = c.enter-rack.ensures in let plan = key_of c.args.self.now.turns in
    let x = row c.number.result UNLINK_ALL (Some c.args.anchor) None None (length v.core.victims) (length (list_of v.core.rows c.args.anchor)) in
    let can : CanCall v.core.left c.number.result = may_call g.H.Host.machine g.H.Host.is_of g.H.Host.known (id_of c.args.self.now.turns) plan p q c.args.by.now.left c.number.result v c.requires.by c.requires.left e.same e.own e.stands e.key c.number.ensures in
    let host = subst (λ (k : Plan _ _). g.H.Host.is_of k.host.value c.meet-2.new.other) (sym e.key) (subst (λ h. g.H.Host.is_of h c.meet-2.new.other) (sym c.requires.host.1) c.meet-2.ensures.here.1) in
    let known = g.H.Host.known in let n = (known v.plan.first.value).number in
    let middle = c.meet.ensures.pass.grown.number ∙ e.stands.number in
    let acts = acts_of n (known v.pass) (known c.meet.new.pass) (known c.meet.new.pass) (known c.meet-2.new.other) _ v.plan.urbs x q.seen c.meet.ensures.pass.grown (grown_none (known c.meet.new.pass)) c.meet-2.ensures.other.grown refl in
    grown_newest g.H.Host.machine g.H.Host.is_of known v (record { core = c.unlink_all.new.self; pass = c.meet-2.new.other; raised = v.raised; grew = true; plan = v.plan }) q.seen x ((list_of v.core.rows c.args.anchor)) e.stands c.unlink_all.ensures.log refl host c.know.ensures can acts refl

pub leave-requires-clause-one : goal.leave-requires-clause-one
leave-requires-clause-one g c =
    let v = c.enter-rack.result in let q = c.enter-rack.new.pass in let p = c.args.by.now.turn in let e = c.enter-rack.ensures in let plan = key_of c.args.self.now.turns in
    let x = row c.number.result UNLINK_ALL (Some c.args.anchor) None None (length v.core.victims) (length (list_of v.core.rows c.args.anchor)) in
    let can : CanCall v.core.left c.number.result = may_call g.H.Host.machine g.H.Host.is_of g.H.Host.known (id_of c.args.self.now.turns) plan p q c.args.by.now.left c.number.result v c.requires.by c.requires.left e.same e.own e.stands e.key c.number.ensures in
    let host = subst (λ (k : Plan _ _). g.H.Host.is_of k.host.value c.meet-2.new.other) (sym e.key) (subst (λ h. g.H.Host.is_of h c.meet-2.new.other) (sym c.requires.host.1) c.meet-2.ensures.here.1) in
    let known = g.H.Host.known in let n = (known v.plan.first.value).number in
    let middle = c.meet.ensures.pass.grown.number ∙ e.stands.number in
    let acts = acts_of n (known v.pass) (known c.meet.new.pass) (known c.meet.new.pass) (known c.meet-2.new.other) _ v.plan.urbs x q.seen c.meet.ensures.pass.grown (grown_none (known c.meet.new.pass)) c.meet-2.ensures.other.grown refl in
    at_most_one q.number _ x (newest_is g.H.Host.machine g.H.Host.is_of known v (record { core = c.unlink_all.new.self; pass = c.meet-2.new.other; raised = v.raised; grew = true; plan = v.plan }) q.seen x ((list_of v.core.rows c.args.anchor)) e.stands c.unlink_all.ensures.log refl host c.know.ensures can acts refl) c.number.ensures

pub returns-clause-told : goal.returns-clause-told
returns-clause-told g c =
    let v = c.enter-rack.result in let q = c.enter-rack.new.pass in let p = c.args.by.now.turn in let e = c.enter-rack.ensures in let plan = key_of c.args.self.now.turns in
    let x = row c.number.result UNLINK_ALL (Some c.args.anchor) None None (length v.core.victims) (length (list_of v.core.rows c.args.anchor)) in
    let can : CanCall v.core.left c.number.result = may_call g.H.Host.machine g.H.Host.is_of g.H.Host.known (id_of c.args.self.now.turns) plan p q c.args.by.now.left c.number.result v c.requires.by c.requires.left e.same e.own e.stands e.key c.number.ensures in
    let host = subst (λ (k : Plan _ _). g.H.Host.is_of k.host.value c.meet-2.new.other) (sym e.key) (subst (λ h. g.H.Host.is_of h c.meet-2.new.other) (sym c.requires.host.1) c.meet-2.ensures.here.1) in
    let known = g.H.Host.known in let n = (known v.plan.first.value).number in
    let middle = c.meet.ensures.pass.grown.number ∙ e.stands.number in
    let acts = acts_of n (known v.pass) (known c.meet.new.pass) (known c.meet.new.pass) (known c.meet-2.new.other) _ v.plan.urbs x q.seen c.meet.ensures.pass.grown (grown_none (known c.meet.new.pass)) c.meet-2.ensures.other.grown refl in
    let more = newest_is g.H.Host.machine g.H.Host.is_of known v (record { core = c.unlink_all.new.self; pass = c.meet-2.new.other; raised = v.raised; grew = true; plan = v.plan }) q.seen x ((list_of v.core.rows c.args.anchor)) e.stands c.unlink_all.ensures.log refl host c.know.ensures can acts refl in let new = grown g.H.Host.machine g.H.Host.is_of known v (record { core = c.unlink_all.new.self; pass = c.meet-2.new.other; raised = v.raised; grew = true; plan = v.plan }) q.seen x ((list_of v.core.rows c.args.anchor)) e.stands c.unlink_all.ensures.log refl host c.know.ensures can acts refl in
    let legal = legal_by g.H.Host.machine g.H.Host.is_of known (record { core = c.unlink_all.new.self; pass = c.meet-2.new.other; raised = v.raised; grew = true; plan = v.plan }) plan (q.seen ++ x ∷ []) new e.key in
    let told = told_by (sized plan) p q c.leave.new.pass x _ c.unlink_all.new.self.victims e.same e.begins c.leave.ensures.same more legal in
    let list = c.unlink_all.new.list.urbs in
    let whole : list ≡ map named (same (list_of q.seen c.args.anchor)) = ap (λ (t : VictimsTold). t.urbs) c.unlink_all.ensures.list ∙ ap (λ rs. map named (same (list_of rs c.args.anchor))) e.stands.rows_are in
    let many : length (list_of v.core.rows c.args.anchor) ≡ length list = ap (λ rs. length (list_of rs c.args.anchor)) e.stands.rows_are ∙ sym (ap length whole ∙ (length-map (same (list_of q.seen c.args.anchor)) named ∙ refl)) in
    let number : c.number.result ≡ p.number = c.number.ensures ∙ ap (λ (z : Pass LogRow). z.number) e.same in (
      length v.core.victims,
      subst (λ (k : ℕ). Takes (sized plan) p c.leave.new.pass (row k UNLINK_ALL (Some c.args.anchor) None None (length v.core.victims) (length list)) c.args.anchor same list) number
          (subst (λ (m : ℕ). Takes (sized plan) p c.leave.new.pass (row c.number.result UNLINK_ALL (Some c.args.anchor) None None (length v.core.victims) m) c.args.anchor same list) many
          (record { told = told; whole = whole })),
    )

pub returns-clause-sees : goal.returns-clause-sees
returns-clause-sees g c =
    let v = c.enter-rack.result in let q = c.enter-rack.new.pass in let p = c.args.by.now.turn in let e = c.enter-rack.ensures in let plan = key_of c.args.self.now.turns in
    let x = row c.number.result UNLINK_ALL (Some c.args.anchor) None None (length v.core.victims) (length (list_of v.core.rows c.args.anchor)) in
    let can : CanCall v.core.left c.number.result = may_call g.H.Host.machine g.H.Host.is_of g.H.Host.known (id_of c.args.self.now.turns) plan p q c.args.by.now.left c.number.result v c.requires.by c.requires.left e.same e.own e.stands e.key c.number.ensures in
    let host = subst (λ (k : Plan _ _). g.H.Host.is_of k.host.value c.meet-2.new.other) (sym e.key) (subst (λ h. g.H.Host.is_of h c.meet-2.new.other) (sym c.requires.host.1) c.meet-2.ensures.here.1) in
    let known = g.H.Host.known in let n = (known v.plan.first.value).number in
    let middle = c.meet.ensures.pass.grown.number ∙ e.stands.number in
    let acts = acts_of n (known v.pass) (known c.meet.new.pass) (known c.meet.new.pass) (known c.meet-2.new.other) _ v.plan.urbs x q.seen c.meet.ensures.pass.grown (grown_none (known c.meet.new.pass)) c.meet-2.ensures.other.grown refl in
    let more = newest_is g.H.Host.machine g.H.Host.is_of known v (record { core = c.unlink_all.new.self; pass = c.meet-2.new.other; raised = v.raised; grew = true; plan = v.plan }) q.seen x ((list_of v.core.rows c.args.anchor)) e.stands c.unlink_all.ensures.log refl host c.know.ensures can acts refl in let new = grown g.H.Host.machine g.H.Host.is_of known v (record { core = c.unlink_all.new.self; pass = c.meet-2.new.other; raised = v.raised; grew = true; plan = v.plan }) q.seen x ((list_of v.core.rows c.args.anchor)) e.stands c.unlink_all.ensures.log refl host c.know.ensures can acts refl in
    let seen : c.leave.new.pass.seen ≡ q.seen ++ x ∷ [] = ap (λ (z : Pass LogRow). z.seen) c.leave.ensures.same ∙ ap (λ ys. q.seen ++ ys) more in
    let k2 = known c.meet.new.pass in let made = (grown_none (known c.meet.new.pass)) in
    let all = sees (g.H.Host.machine c.args.host.now) n v.plan.urbs (known c.args.pass.now) (known c.meet.new.other) k2 (known c.meet-2.new.pass) (known c.meet-2.new.other) (q.seen ++ x ∷ []) (g.met.H.Host.sound c.args.host.now c.args.pass.now c.requires.host.0) c.meet-2.ensures.pass.sound c.meet.ensures.pass.sound c.meet.ensures.other.grown c.meet-2.ensures.pass.grown
    (begins_trans k2.seen (known c.meet.new.pass).seen (known c.args.pass.now).seen made.begins c.meet.ensures.met) c.meet-2.ensures.met (made.number ∙ middle) c.meet-2.ensures.other.grown new.rejects in
    subst (λ (k : Plan _ _). Sees (known k.first.value).number (known c.args.pass.now) (known c.meet-2.new.pass) (rejects_by (known k.first.value).number k.urbs c.leave.new.pass.seen)) e.key
    (subst (λ rs. Sees n (known c.args.pass.now) (known c.meet-2.new.pass) (rejects_by n v.plan.urbs rs)) (sym seen) all)

pub returns-clause-inside : goal.returns-clause-inside
returns-clause-inside g c =
    let v = c.enter-rack.result in let q = c.enter-rack.new.pass in let e = c.enter-rack.ensures in
    let homes = subst (λ h. v.plan.urbs ≤ length (g.H.Host.machine h).layout.homes) (ap (λ (k : Plan _ _). k.host.value) e.key ∙ c.requires.host.1) e.stands.fits.inside in
    let whole : c.unlink_all.new.list.urbs ≡ map named (list_of q.seen c.args.anchor) = ap (λ (t : VictimsTold). t.urbs) c.unlink_all.ensures.list ∙ ap (λ rs. map named (list_of rs c.args.anchor)) e.stands.rows_are in
    list_urbs c.unlink_all.new.list.urbs (list_of q.seen c.args.anchor) v.plan.urbs _ whole homes
    (λ u h. (all_below (sized v.plan) q.seen v.core.victims e.stands.legal c.args.anchor).listed u (h))
