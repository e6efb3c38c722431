use Rattle.std.proofs.Common.{◌≡◌, true, ℕ, ◌++◌, ◌∷◌, [], filter, length, map, Some, None, refl, ap, sym, ◌∙◌, subst}
use Rattle.usb_turn.specs.Pass.{Pass}
use Rattle.usb_turn.specs.Shown.{id_of}
use Rattle.usb_anchors.specs.Opened.{key_of}
use Rattle.usb_anchor.specs.declared.log.LogRow.{LogRow}
use Rattle.usb_anchor.specs.declared.log.TheConstants.{UNPOISON_ALL}
use Rattle.usb_anchor.specs.Log.{Size, row, named}
use Rattle.usb_anchor.specs.Core.{CanCall}
use Rattle.usb_anchor.specs.Told.{Told as VictimsTold}
use Rattle.usb_anchor.specs.Anchor.{has}
use Rattle.usb_anchor.specs.Log.{anchor_of}
use Rattle.usb_anchor.specs.Rejects.{numbers_below}
use Rattle.usb_anchors.specs.Host.{Sees, rejects_by}
use Rattle.usb_anchors.specs.Rack.{sized}
use Rattle.usb_anchors.specs.declared.rack.Plan.{Plan}
use Rattle.usb_anchors.proofs.Turning.{grown, newest_is, grown_newest, told_by, at_most_one, may_call, legal_by, numbered, acts_of, sees, list_withdraws}
use Rattle.usb_machine.proofs.Growing.{begins_trans}
use Rattle.std.proofs.Common.{append-nil, ◌<◌, ◌≤◌}
use Rattle.usb_cancel.specs.Flushing.{ids}
use Rattle.usb_cancel.specs.Reopening.{withdraws_of as all_withdraws}
use Rattle.usb_anchors.proofs.Counted.{ids_named, withdraw_urbs, withdraw_apart, withdraw_some}
use Rattle.usb_anchors.proofs.anchors.Anchors.unpoison_all.Goals as goal

pub leave-requires-clause-stands : goal.leave-requires-clause-stands
leave-requires-clause-stands g c =
    let v = c.enter-rack.result in let q = c.enter-rack.new.pass in let p = c.args.by.now.turn in let e = c.enter-rack.ensures in let plan = key_of c.args.self.now.turns in
    let x = row c.number.result UNPOISON_ALL (Some c.args.anchor) None None (length v.core.victims) 0 in
    let can : CanCall v.core.left c.number.result = may_call g.H.Host.machine g.H.Host.is_of g.H.Host.known (id_of c.args.self.now.turns) plan p q c.args.by.now.left c.number.result v c.requires.by c.requires.left e.same e.own e.stands e.key c.number.ensures in
    let host = subst (λ (k : Plan _ _). g.H.Host.is_of k.host.value c.meet-2.new.other) (sym e.key) (subst (λ h. g.H.Host.is_of h c.meet-2.new.other) (sym c.requires.host.1) c.meet-2.ensures.here.1) in
    let known = g.H.Host.known in let n = (known v.plan.first.value).number in
    let middle = c.meet.ensures.pass.grown.number ∙ e.stands.number in
    let rows : v.core.rows ≡ q.seen = e.stands.rows_are in
    let urbs : v.core.urbs ≡ v.plan.urbs = ap (λ (g : Size). g.urbs) e.stands.size in
    let told : c.unpoison_all_telling.new.withdrawn.urbs ≡ map named (filter (has (anchor_of q.seen c.args.anchor).held) (numbers_below v.plan.urbs))
    = ap (λ (t : VictimsTold). t.urbs) c.unpoison_all_telling.ensures.withdrawn ∙ (ap (λ rs. map named (filter (has (anchor_of rs c.args.anchor).held) (numbers_below v.core.urbs))) rows
    ∙ ap (λ m. map named (filter (has (anchor_of q.seen c.args.anchor).held) (numbers_below m))) urbs) in
    let withdraws = ap (λ m. all_withdraws m (ids c.list.result.now)) middle
    ∙ (ap (λ l. all_withdraws n (ids l)) (c.list.ensures ∙ told) ∙ (ap (all_withdraws n) (ids_named (filter (has (anchor_of q.seen c.args.anchor).held) (numbers_below v.plan.urbs))) ∙ list_withdraws n c.args.anchor (filter (has (anchor_of q.seen c.args.anchor).held) (numbers_below v.plan.urbs)))) in
    let acts = acts_of n (known v.pass) (known c.meet.new.pass) (known c.withdraw_all.new.pass) (known c.meet-2.new.other) _ v.plan.urbs x q.seen c.meet.ensures.pass.grown c.withdraw_all.ensures.grown c.meet-2.ensures.other.grown withdraws in
    grown_newest g.H.Host.machine g.H.Host.is_of known v (record { core = c.unpoison_all_telling.new.self; pass = c.meet-2.new.other; raised = c.unpoison_all_telling.new.withdrawn; grew = true; plan = v.plan }) q.seen x ([]) e.stands c.unpoison_all_telling.ensures.log refl host c.know.ensures can acts (ap (λ (t : VictimsTold). t.room) c.unpoison_all_telling.ensures.withdrawn)

pub leave-requires-clause-one : goal.leave-requires-clause-one
leave-requires-clause-one g c =
    let v = c.enter-rack.result in let q = c.enter-rack.new.pass in let p = c.args.by.now.turn in let e = c.enter-rack.ensures in let plan = key_of c.args.self.now.turns in
    let x = row c.number.result UNPOISON_ALL (Some c.args.anchor) None None (length v.core.victims) 0 in
    let can : CanCall v.core.left c.number.result = may_call g.H.Host.machine g.H.Host.is_of g.H.Host.known (id_of c.args.self.now.turns) plan p q c.args.by.now.left c.number.result v c.requires.by c.requires.left e.same e.own e.stands e.key c.number.ensures in
    let host = subst (λ (k : Plan _ _). g.H.Host.is_of k.host.value c.meet-2.new.other) (sym e.key) (subst (λ h. g.H.Host.is_of h c.meet-2.new.other) (sym c.requires.host.1) c.meet-2.ensures.here.1) in
    let known = g.H.Host.known in let n = (known v.plan.first.value).number in
    let middle = c.meet.ensures.pass.grown.number ∙ e.stands.number in
    let rows : v.core.rows ≡ q.seen = e.stands.rows_are in
    let urbs : v.core.urbs ≡ v.plan.urbs = ap (λ (g : Size). g.urbs) e.stands.size in
    let told : c.unpoison_all_telling.new.withdrawn.urbs ≡ map named (filter (has (anchor_of q.seen c.args.anchor).held) (numbers_below v.plan.urbs))
    = ap (λ (t : VictimsTold). t.urbs) c.unpoison_all_telling.ensures.withdrawn ∙ (ap (λ rs. map named (filter (has (anchor_of rs c.args.anchor).held) (numbers_below v.core.urbs))) rows
    ∙ ap (λ m. map named (filter (has (anchor_of q.seen c.args.anchor).held) (numbers_below m))) urbs) in
    let withdraws = ap (λ m. all_withdraws m (ids c.list.result.now)) middle
    ∙ (ap (λ l. all_withdraws n (ids l)) (c.list.ensures ∙ told) ∙ (ap (all_withdraws n) (ids_named (filter (has (anchor_of q.seen c.args.anchor).held) (numbers_below v.plan.urbs))) ∙ list_withdraws n c.args.anchor (filter (has (anchor_of q.seen c.args.anchor).held) (numbers_below v.plan.urbs)))) in
    let acts = acts_of n (known v.pass) (known c.meet.new.pass) (known c.withdraw_all.new.pass) (known c.meet-2.new.other) _ v.plan.urbs x q.seen c.meet.ensures.pass.grown c.withdraw_all.ensures.grown c.meet-2.ensures.other.grown withdraws in
    at_most_one q.number _ x (newest_is g.H.Host.machine g.H.Host.is_of known v (record { core = c.unpoison_all_telling.new.self; pass = c.meet-2.new.other; raised = c.unpoison_all_telling.new.withdrawn; grew = true; plan = v.plan }) q.seen x ([]) e.stands c.unpoison_all_telling.ensures.log refl host c.know.ensures can acts (ap (λ (t : VictimsTold). t.room) c.unpoison_all_telling.ensures.withdrawn)) c.number.ensures

pub returns-clause-told : goal.returns-clause-told
returns-clause-told g c =
    let v = c.enter-rack.result in let q = c.enter-rack.new.pass in let p = c.args.by.now.turn in let e = c.enter-rack.ensures in let plan = key_of c.args.self.now.turns in
    let x = row c.number.result UNPOISON_ALL (Some c.args.anchor) None None (length v.core.victims) 0 in
    let can : CanCall v.core.left c.number.result = may_call g.H.Host.machine g.H.Host.is_of g.H.Host.known (id_of c.args.self.now.turns) plan p q c.args.by.now.left c.number.result v c.requires.by c.requires.left e.same e.own e.stands e.key c.number.ensures in
    let host = subst (λ (k : Plan _ _). g.H.Host.is_of k.host.value c.meet-2.new.other) (sym e.key) (subst (λ h. g.H.Host.is_of h c.meet-2.new.other) (sym c.requires.host.1) c.meet-2.ensures.here.1) in
    let known = g.H.Host.known in let n = (known v.plan.first.value).number in
    let middle = c.meet.ensures.pass.grown.number ∙ e.stands.number in
    let rows : v.core.rows ≡ q.seen = e.stands.rows_are in
    let urbs : v.core.urbs ≡ v.plan.urbs = ap (λ (g : Size). g.urbs) e.stands.size in
    let told : c.unpoison_all_telling.new.withdrawn.urbs ≡ map named (filter (has (anchor_of q.seen c.args.anchor).held) (numbers_below v.plan.urbs))
    = ap (λ (t : VictimsTold). t.urbs) c.unpoison_all_telling.ensures.withdrawn ∙ (ap (λ rs. map named (filter (has (anchor_of rs c.args.anchor).held) (numbers_below v.core.urbs))) rows
    ∙ ap (λ m. map named (filter (has (anchor_of q.seen c.args.anchor).held) (numbers_below m))) urbs) in
    let withdraws = ap (λ m. all_withdraws m (ids c.list.result.now)) middle
    ∙ (ap (λ l. all_withdraws n (ids l)) (c.list.ensures ∙ told) ∙ (ap (all_withdraws n) (ids_named (filter (has (anchor_of q.seen c.args.anchor).held) (numbers_below v.plan.urbs))) ∙ list_withdraws n c.args.anchor (filter (has (anchor_of q.seen c.args.anchor).held) (numbers_below v.plan.urbs)))) in
    let acts = acts_of n (known v.pass) (known c.meet.new.pass) (known c.withdraw_all.new.pass) (known c.meet-2.new.other) _ v.plan.urbs x q.seen c.meet.ensures.pass.grown c.withdraw_all.ensures.grown c.meet-2.ensures.other.grown withdraws in
    let more = newest_is g.H.Host.machine g.H.Host.is_of known v (record { core = c.unpoison_all_telling.new.self; pass = c.meet-2.new.other; raised = c.unpoison_all_telling.new.withdrawn; grew = true; plan = v.plan }) q.seen x ([]) e.stands c.unpoison_all_telling.ensures.log refl host c.know.ensures can acts (ap (λ (t : VictimsTold). t.room) c.unpoison_all_telling.ensures.withdrawn) in let new = grown g.H.Host.machine g.H.Host.is_of known v (record { core = c.unpoison_all_telling.new.self; pass = c.meet-2.new.other; raised = c.unpoison_all_telling.new.withdrawn; grew = true; plan = v.plan }) q.seen x ([]) e.stands c.unpoison_all_telling.ensures.log refl host c.know.ensures can acts (ap (λ (t : VictimsTold). t.room) c.unpoison_all_telling.ensures.withdrawn) in
    let legal = legal_by g.H.Host.machine g.H.Host.is_of known (record { core = c.unpoison_all_telling.new.self; pass = c.meet-2.new.other; raised = c.unpoison_all_telling.new.withdrawn; grew = true; plan = v.plan }) plan (q.seen ++ x ∷ []) new e.key in
    let told = told_by (sized plan) p q c.leave.new.pass x _ c.unpoison_all_telling.new.self.victims e.same e.begins c.leave.ensures.same more legal in
    (length v.core.victims, numbered (sized plan) p c.leave.new.pass (λ (k : ℕ). row k UNPOISON_ALL (Some c.args.anchor) None None (length v.core.victims) 0) c.number.result q.number c.number.ensures (ap (λ (z : Pass LogRow). z.number) e.same) told)

pub returns-clause-sees : goal.returns-clause-sees
returns-clause-sees g c =
    let v = c.enter-rack.result in let q = c.enter-rack.new.pass in let p = c.args.by.now.turn in let e = c.enter-rack.ensures in let plan = key_of c.args.self.now.turns in
    let x = row c.number.result UNPOISON_ALL (Some c.args.anchor) None None (length v.core.victims) 0 in
    let can : CanCall v.core.left c.number.result = may_call g.H.Host.machine g.H.Host.is_of g.H.Host.known (id_of c.args.self.now.turns) plan p q c.args.by.now.left c.number.result v c.requires.by c.requires.left e.same e.own e.stands e.key c.number.ensures in
    let host = subst (λ (k : Plan _ _). g.H.Host.is_of k.host.value c.meet-2.new.other) (sym e.key) (subst (λ h. g.H.Host.is_of h c.meet-2.new.other) (sym c.requires.host.1) c.meet-2.ensures.here.1) in
    let known = g.H.Host.known in let n = (known v.plan.first.value).number in
    let middle = c.meet.ensures.pass.grown.number ∙ e.stands.number in
    let rows : v.core.rows ≡ q.seen = e.stands.rows_are in
    let urbs : v.core.urbs ≡ v.plan.urbs = ap (λ (g : Size). g.urbs) e.stands.size in
    let told : c.unpoison_all_telling.new.withdrawn.urbs ≡ map named (filter (has (anchor_of q.seen c.args.anchor).held) (numbers_below v.plan.urbs))
    = ap (λ (t : VictimsTold). t.urbs) c.unpoison_all_telling.ensures.withdrawn ∙ (ap (λ rs. map named (filter (has (anchor_of rs c.args.anchor).held) (numbers_below v.core.urbs))) rows
    ∙ ap (λ m. map named (filter (has (anchor_of q.seen c.args.anchor).held) (numbers_below m))) urbs) in
    let withdraws = ap (λ m. all_withdraws m (ids c.list.result.now)) middle
    ∙ (ap (λ l. all_withdraws n (ids l)) (c.list.ensures ∙ told) ∙ (ap (all_withdraws n) (ids_named (filter (has (anchor_of q.seen c.args.anchor).held) (numbers_below v.plan.urbs))) ∙ list_withdraws n c.args.anchor (filter (has (anchor_of q.seen c.args.anchor).held) (numbers_below v.plan.urbs)))) in
    let acts = acts_of n (known v.pass) (known c.meet.new.pass) (known c.withdraw_all.new.pass) (known c.meet-2.new.other) _ v.plan.urbs x q.seen c.meet.ensures.pass.grown c.withdraw_all.ensures.grown c.meet-2.ensures.other.grown withdraws in
    let more = newest_is g.H.Host.machine g.H.Host.is_of known v (record { core = c.unpoison_all_telling.new.self; pass = c.meet-2.new.other; raised = c.unpoison_all_telling.new.withdrawn; grew = true; plan = v.plan }) q.seen x ([]) e.stands c.unpoison_all_telling.ensures.log refl host c.know.ensures can acts (ap (λ (t : VictimsTold). t.room) c.unpoison_all_telling.ensures.withdrawn) in let new = grown g.H.Host.machine g.H.Host.is_of known v (record { core = c.unpoison_all_telling.new.self; pass = c.meet-2.new.other; raised = c.unpoison_all_telling.new.withdrawn; grew = true; plan = v.plan }) q.seen x ([]) e.stands c.unpoison_all_telling.ensures.log refl host c.know.ensures can acts (ap (λ (t : VictimsTold). t.room) c.unpoison_all_telling.ensures.withdrawn) in
    let seen : c.leave.new.pass.seen ≡ q.seen ++ x ∷ [] = ap (λ (z : Pass LogRow). z.seen) c.leave.ensures.same ∙ ap (λ ys. q.seen ++ ys) more in
    let k2 = known c.withdraw_all.new.pass in let made = c.withdraw_all.ensures.grown in
    let all = sees (g.H.Host.machine c.args.host.now) n v.plan.urbs (known c.args.pass.now) (known c.meet.new.other) k2 (known c.meet-2.new.pass) (known c.meet-2.new.other) (q.seen ++ x ∷ []) (g.met.H.Host.sound c.args.host.now c.args.pass.now c.requires.host.0) c.meet-2.ensures.pass.sound (g.met.H.Host.sound c.args.host.now c.withdraw_all.new.pass c.withdraw_all.ensures.here) c.meet.ensures.other.grown c.meet-2.ensures.pass.grown
    (begins_trans k2.seen (known c.meet.new.pass).seen (known c.args.pass.now).seen made.begins c.meet.ensures.met) c.meet-2.ensures.met (made.number ∙ middle) c.meet-2.ensures.other.grown new.rejects in
    subst (λ (k : Plan _ _). Sees (known k.first.value).number (known c.args.pass.now) (known c.meet-2.new.pass) (rejects_by (known k.first.value).number k.urbs c.leave.new.pass.seen)) e.key
    (subst (λ rs. Sees n (known c.args.pass.now) (known c.meet-2.new.pass) (rejects_by n v.plan.urbs rs)) (sym seen) all)

pub withdraw_all-requires-clause-urbs : goal.withdraw_all-requires-clause-urbs
withdraw_all-requires-clause-urbs g c κs within =
    let v = c.enter-rack.result in let q = c.enter-rack.new.pass in let e = c.enter-rack.ensures in let known = g.H.Host.known in let n = (known v.plan.first.value).number in let a = c.args.anchor in
    let rows : v.core.rows ≡ q.seen = e.stands.rows_are in
    let low : a < v.plan.anchors = subst (λ (k : Plan _ _). a < k.anchors) (sym e.key) c.requires.anchor in
    let mine : (known c.meet.new.pass).mine ≡ rejects_by n v.plan.urbs q.seen = c.meet.ensures.pass.grown.mine ∙ (append-nil (known v.pass).mine ∙ e.stands.rejects) in
    let sound = c.meet.ensures.pass.sound in
    let urbs : v.core.urbs ≡ v.plan.urbs = ap (λ (g : Size). g.urbs) e.stands.size in
    let told : c.list.result.now ≡ map named (filter (has (anchor_of q.seen a).held) (numbers_below v.plan.urbs))
    = c.list.ensures ∙ (ap (λ (t : VictimsTold). t.urbs) c.unpoison_all_telling.ensures.withdrawn ∙ (ap (λ rs. map named (filter (has (anchor_of rs a).held) (numbers_below v.core.urbs))) rows
    ∙ ap (λ m. map named (filter (has (anchor_of q.seen a).held) (numbers_below m))) urbs)) in
    let homes = subst (λ h. v.plan.urbs ≤ length (g.H.Host.machine h).layout.homes) (ap (λ (k : Plan _ _). k.host.value) e.key ∙ c.requires.host.1) e.stands.fits.inside in
    withdraw_urbs (sized v.plan) q.seen a c.list.result.now told _ homes

pub withdraw_all-requires-clause-apart : goal.withdraw_all-requires-clause-apart
withdraw_all-requires-clause-apart g c κs within =
    let v = c.enter-rack.result in let q = c.enter-rack.new.pass in let e = c.enter-rack.ensures in let known = g.H.Host.known in let n = (known v.plan.first.value).number in let a = c.args.anchor in
    let rows : v.core.rows ≡ q.seen = e.stands.rows_are in
    let low : a < v.plan.anchors = subst (λ (k : Plan _ _). a < k.anchors) (sym e.key) c.requires.anchor in
    let mine : (known c.meet.new.pass).mine ≡ rejects_by n v.plan.urbs q.seen = c.meet.ensures.pass.grown.mine ∙ (append-nil (known v.pass).mine ∙ e.stands.rejects) in
    let sound = c.meet.ensures.pass.sound in
    let urbs : v.core.urbs ≡ v.plan.urbs = ap (λ (g : Size). g.urbs) e.stands.size in
    let told : c.list.result.now ≡ map named (filter (has (anchor_of q.seen a).held) (numbers_below v.plan.urbs))
    = c.list.ensures ∙ (ap (λ (t : VictimsTold). t.urbs) c.unpoison_all_telling.ensures.withdrawn ∙ (ap (λ rs. map named (filter (has (anchor_of rs a).held) (numbers_below v.core.urbs))) rows
    ∙ ap (λ m. map named (filter (has (anchor_of q.seen a).held) (numbers_below m))) urbs)) in
    withdraw_apart (sized v.plan) q.seen a c.list.result.now told

pub withdraw_all-requires-clause-rejected : goal.withdraw_all-requires-clause-rejected
withdraw_all-requires-clause-rejected g c κs within =
    let v = c.enter-rack.result in let q = c.enter-rack.new.pass in let e = c.enter-rack.ensures in let known = g.H.Host.known in let n = (known v.plan.first.value).number in let a = c.args.anchor in
    let rows : v.core.rows ≡ q.seen = e.stands.rows_are in
    let low : a < v.plan.anchors = subst (λ (k : Plan _ _). a < k.anchors) (sym e.key) c.requires.anchor in
    let mine : (known c.meet.new.pass).mine ≡ rejects_by n v.plan.urbs q.seen = c.meet.ensures.pass.grown.mine ∙ (append-nil (known v.pass).mine ∙ e.stands.rejects) in
    let sound = c.meet.ensures.pass.sound in
    let urbs : v.core.urbs ≡ v.plan.urbs = ap (λ (g : Size). g.urbs) e.stands.size in
    let told : c.list.result.now ≡ map named (filter (has (anchor_of q.seen a).held) (numbers_below v.plan.urbs))
    = c.list.ensures ∙ (ap (λ (t : VictimsTold). t.urbs) c.unpoison_all_telling.ensures.withdrawn ∙ (ap (λ rs. map named (filter (has (anchor_of rs a).held) (numbers_below v.core.urbs))) rows
    ∙ ap (λ m. map named (filter (has (anchor_of q.seen a).held) (numbers_below m))) urbs)) in
    withdraw_some (g.H.Host.machine c.args.host.now) (sized v.plan) (known c.meet.new.pass) n q.seen v.core.victims e.stands.legal sound mine a low c.list.result.now told
