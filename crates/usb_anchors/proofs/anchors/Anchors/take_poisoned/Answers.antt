use Rattle.std.proofs.Common.{◌≡◌, true, ℕ, ◌++◌, ◌∷◌, [], length, map, reverse, Some, None, refl, ap, sym, ◌∙◌, subst}
use Rattle.std.proofs.lemmas.List.{length-map, length-reverse}
use Rattle.usb_turn.specs.Pass.{Pass}
use Rattle.usb_turn.specs.Shown.{id_of}
use Rattle.usb_anchors.specs.Opened.{key_of}
use Rattle.usb_anchor.specs.declared.log.LogRow.{LogRow}
use Rattle.usb_anchor.specs.declared.log.TheConstants.{POISON_ALL}
use Rattle.usb_anchor.specs.Log.{row, list_of, named}
use Rattle.usb_anchor.specs.Core.{CanCall}
use Rattle.usb_anchor.specs.Told.{Told as VictimsTold}
use Rattle.usb_anchor.specs.Log.{anchor_of}
use Rattle.usb_anchor.specs.Rejects.{unheld}
use Rattle.usb_anchors.specs.Host.{Sees, rejects_by}
use Rattle.usb_anchors.specs.Rack.{sized}
use Rattle.usb_anchors.specs.declared.rack.Plan.{Plan}
use Rattle.usb_anchors.specs.Told.{Takes}
use Rattle.usb_anchors.proofs.Turning.{grown, newest_is, grown_newest, told_by, at_most_one, may_call, legal_by, acts_of, sees, list_raises}
use Rattle.usb_machine.proofs.Growing.{begins_trans}
use Rattle.std.proofs.Common.{append-nil, ◌<◌, ◌≤◌, true}
use Rattle.usb_cancel.specs.Flushing.{ids}
use Rattle.usb_cancel.specs.Reopening.{rejects_of as all_rejects}
use Rattle.usb_anchors.proofs.Counted.{ids_named, raise_urbs, raise_apart, raise_room}
use Rattle.usb_anchor.proofs.ByRows.{all_below}
use Rattle.usb_anchors.proofs.Counted.{list_urbs}
use Rattle.usb_anchor.proofs.Members.{has_reverse}
use Rattle.usb_anchors.proofs.anchors.Anchors.take_poisoned.Goals as goal

pub leave-requires-clause-stands : goal.leave-requires-clause-stands
leave-requires-clause-stands g c =
    let v = c.enter-rack.result in let q = c.enter-rack.new.pass in let p = c.args.by.now.turn in let e = c.enter-rack.ensures in let plan = key_of c.args.self.now.turns in
    let x = row c.number.result POISON_ALL (Some c.args.anchor) None None (length v.core.victims) (length (list_of v.core.rows c.args.anchor)) in
    let can : CanCall v.core.left c.number.result = may_call g.H.Host.machine g.H.Host.is_of g.H.Host.known (id_of c.args.self.now.turns) plan p q c.args.by.now.left c.number.result v c.requires.by c.requires.left e.same e.own e.stands e.key c.number.ensures in
    let host = subst (λ (k : Plan _ _). g.H.Host.is_of k.host.value c.meet-2.new.other) (sym e.key) (subst (λ h. g.H.Host.is_of h c.meet-2.new.other) (sym c.requires.host.1) c.meet-2.ensures.here.1) in
    let known = g.H.Host.known in let n = (known v.plan.first.value).number in
    let middle = c.meet.ensures.pass.grown.number ∙ e.stands.number in
    let rows : v.core.rows ≡ q.seen = e.stands.rows_are in
    let told : c.poison_all_telling.new.raised.urbs ≡ map named (unheld (anchor_of q.seen c.args.anchor) (reverse (list_of q.seen c.args.anchor)))
    = ap (λ (t : VictimsTold). t.urbs) c.poison_all_telling.ensures.raised ∙ ap (λ rs. map named (unheld (anchor_of rs c.args.anchor) (reverse (list_of rs c.args.anchor)))) rows in
    let raises = ap (λ m. all_rejects m (ids c.list.result.now)) middle
    ∙ (ap (λ l. all_rejects n (ids l)) (c.list.ensures ∙ told) ∙ (ap (all_rejects n) (ids_named (unheld (anchor_of q.seen c.args.anchor) (reverse (list_of q.seen c.args.anchor)))) ∙ list_raises n c.args.anchor (unheld (anchor_of q.seen c.args.anchor) (reverse (list_of q.seen c.args.anchor))))) in
    let acts = acts_of n (known v.pass) (known c.meet.new.pass) (known c.reject_all.new.pass) (known c.meet-2.new.other) _ v.plan.urbs x q.seen c.meet.ensures.pass.grown c.reject_all.ensures.grown c.meet-2.ensures.other.grown raises in
    grown_newest g.H.Host.machine g.H.Host.is_of known v (record { core = c.poison_all_telling.new.self; pass = c.meet-2.new.other; raised = c.poison_all_telling.new.raised; grew = true; plan = v.plan }) q.seen x (reverse (list_of v.core.rows c.args.anchor)) e.stands c.poison_all_telling.ensures.log refl host c.know.ensures can acts (ap (λ (t : VictimsTold). t.room) c.poison_all_telling.ensures.raised)

pub leave-requires-clause-one : goal.leave-requires-clause-one
leave-requires-clause-one g c =
    let v = c.enter-rack.result in let q = c.enter-rack.new.pass in let p = c.args.by.now.turn in let e = c.enter-rack.ensures in let plan = key_of c.args.self.now.turns in
    let x = row c.number.result POISON_ALL (Some c.args.anchor) None None (length v.core.victims) (length (list_of v.core.rows c.args.anchor)) in
    let can : CanCall v.core.left c.number.result = may_call g.H.Host.machine g.H.Host.is_of g.H.Host.known (id_of c.args.self.now.turns) plan p q c.args.by.now.left c.number.result v c.requires.by c.requires.left e.same e.own e.stands e.key c.number.ensures in
    let host = subst (λ (k : Plan _ _). g.H.Host.is_of k.host.value c.meet-2.new.other) (sym e.key) (subst (λ h. g.H.Host.is_of h c.meet-2.new.other) (sym c.requires.host.1) c.meet-2.ensures.here.1) in
    let known = g.H.Host.known in let n = (known v.plan.first.value).number in
    let middle = c.meet.ensures.pass.grown.number ∙ e.stands.number in
    let rows : v.core.rows ≡ q.seen = e.stands.rows_are in
    let told : c.poison_all_telling.new.raised.urbs ≡ map named (unheld (anchor_of q.seen c.args.anchor) (reverse (list_of q.seen c.args.anchor)))
    = ap (λ (t : VictimsTold). t.urbs) c.poison_all_telling.ensures.raised ∙ ap (λ rs. map named (unheld (anchor_of rs c.args.anchor) (reverse (list_of rs c.args.anchor)))) rows in
    let raises = ap (λ m. all_rejects m (ids c.list.result.now)) middle
    ∙ (ap (λ l. all_rejects n (ids l)) (c.list.ensures ∙ told) ∙ (ap (all_rejects n) (ids_named (unheld (anchor_of q.seen c.args.anchor) (reverse (list_of q.seen c.args.anchor)))) ∙ list_raises n c.args.anchor (unheld (anchor_of q.seen c.args.anchor) (reverse (list_of q.seen c.args.anchor))))) in
    let acts = acts_of n (known v.pass) (known c.meet.new.pass) (known c.reject_all.new.pass) (known c.meet-2.new.other) _ v.plan.urbs x q.seen c.meet.ensures.pass.grown c.reject_all.ensures.grown c.meet-2.ensures.other.grown raises in
    at_most_one q.number _ x (newest_is g.H.Host.machine g.H.Host.is_of known v (record { core = c.poison_all_telling.new.self; pass = c.meet-2.new.other; raised = c.poison_all_telling.new.raised; grew = true; plan = v.plan }) q.seen x (reverse (list_of v.core.rows c.args.anchor)) e.stands c.poison_all_telling.ensures.log refl host c.know.ensures can acts (ap (λ (t : VictimsTold). t.room) c.poison_all_telling.ensures.raised)) c.number.ensures

pub returns-clause-told : goal.returns-clause-told
returns-clause-told g c =
    let v = c.enter-rack.result in let q = c.enter-rack.new.pass in let p = c.args.by.now.turn in let e = c.enter-rack.ensures in let plan = key_of c.args.self.now.turns in
    let x = row c.number.result POISON_ALL (Some c.args.anchor) None None (length v.core.victims) (length (list_of v.core.rows c.args.anchor)) in
    let can : CanCall v.core.left c.number.result = may_call g.H.Host.machine g.H.Host.is_of g.H.Host.known (id_of c.args.self.now.turns) plan p q c.args.by.now.left c.number.result v c.requires.by c.requires.left e.same e.own e.stands e.key c.number.ensures in
    let host = subst (λ (k : Plan _ _). g.H.Host.is_of k.host.value c.meet-2.new.other) (sym e.key) (subst (λ h. g.H.Host.is_of h c.meet-2.new.other) (sym c.requires.host.1) c.meet-2.ensures.here.1) in
    let known = g.H.Host.known in let n = (known v.plan.first.value).number in
    let middle = c.meet.ensures.pass.grown.number ∙ e.stands.number in
    let rows : v.core.rows ≡ q.seen = e.stands.rows_are in
    let told : c.poison_all_telling.new.raised.urbs ≡ map named (unheld (anchor_of q.seen c.args.anchor) (reverse (list_of q.seen c.args.anchor)))
    = ap (λ (t : VictimsTold). t.urbs) c.poison_all_telling.ensures.raised ∙ ap (λ rs. map named (unheld (anchor_of rs c.args.anchor) (reverse (list_of rs c.args.anchor)))) rows in
    let raises = ap (λ m. all_rejects m (ids c.list.result.now)) middle
    ∙ (ap (λ l. all_rejects n (ids l)) (c.list.ensures ∙ told) ∙ (ap (all_rejects n) (ids_named (unheld (anchor_of q.seen c.args.anchor) (reverse (list_of q.seen c.args.anchor)))) ∙ list_raises n c.args.anchor (unheld (anchor_of q.seen c.args.anchor) (reverse (list_of q.seen c.args.anchor))))) in
    let acts = acts_of n (known v.pass) (known c.meet.new.pass) (known c.reject_all.new.pass) (known c.meet-2.new.other) _ v.plan.urbs x q.seen c.meet.ensures.pass.grown c.reject_all.ensures.grown c.meet-2.ensures.other.grown raises in
    let more = newest_is g.H.Host.machine g.H.Host.is_of known v (record { core = c.poison_all_telling.new.self; pass = c.meet-2.new.other; raised = c.poison_all_telling.new.raised; grew = true; plan = v.plan }) q.seen x (reverse (list_of v.core.rows c.args.anchor)) e.stands c.poison_all_telling.ensures.log refl host c.know.ensures can acts (ap (λ (t : VictimsTold). t.room) c.poison_all_telling.ensures.raised) in let new = grown g.H.Host.machine g.H.Host.is_of known v (record { core = c.poison_all_telling.new.self; pass = c.meet-2.new.other; raised = c.poison_all_telling.new.raised; grew = true; plan = v.plan }) q.seen x (reverse (list_of v.core.rows c.args.anchor)) e.stands c.poison_all_telling.ensures.log refl host c.know.ensures can acts (ap (λ (t : VictimsTold). t.room) c.poison_all_telling.ensures.raised) in
    let legal = legal_by g.H.Host.machine g.H.Host.is_of known (record { core = c.poison_all_telling.new.self; pass = c.meet-2.new.other; raised = c.poison_all_telling.new.raised; grew = true; plan = v.plan }) plan (q.seen ++ x ∷ []) new e.key in
    let told = told_by (sized plan) p q c.leave.new.pass x _ c.poison_all_telling.new.self.victims e.same e.begins c.leave.ensures.same more legal in
    let list = c.poison_all_telling.new.list.urbs in
    let whole : list ≡ map named (reverse (list_of q.seen c.args.anchor)) = ap (λ (t : VictimsTold). t.urbs) c.poison_all_telling.ensures.list ∙ ap (λ rs. map named (reverse (list_of rs c.args.anchor))) e.stands.rows_are in
    let many : length (list_of v.core.rows c.args.anchor) ≡ length list = ap (λ rs. length (list_of rs c.args.anchor)) e.stands.rows_are ∙ sym (ap length whole ∙ (length-map (reverse (list_of q.seen c.args.anchor)) named ∙ length-reverse (list_of q.seen c.args.anchor))) in
    let number : c.number.result ≡ p.number = c.number.ensures ∙ ap (λ (z : Pass LogRow). z.number) e.same in (
      length v.core.victims,
      subst (λ (k : ℕ). Takes (sized plan) p c.leave.new.pass (row k POISON_ALL (Some c.args.anchor) None None (length v.core.victims) (length list)) c.args.anchor reverse list) number
          (subst (λ (m : ℕ). Takes (sized plan) p c.leave.new.pass (row c.number.result POISON_ALL (Some c.args.anchor) None None (length v.core.victims) m) c.args.anchor reverse list) many
          (record { told = told; whole = whole })),
    )

pub returns-clause-sees : goal.returns-clause-sees
returns-clause-sees g c =
    let v = c.enter-rack.result in let q = c.enter-rack.new.pass in let p = c.args.by.now.turn in let e = c.enter-rack.ensures in let plan = key_of c.args.self.now.turns in
    let x = row c.number.result POISON_ALL (Some c.args.anchor) None None (length v.core.victims) (length (list_of v.core.rows c.args.anchor)) in
    let can : CanCall v.core.left c.number.result = may_call g.H.Host.machine g.H.Host.is_of g.H.Host.known (id_of c.args.self.now.turns) plan p q c.args.by.now.left c.number.result v c.requires.by c.requires.left e.same e.own e.stands e.key c.number.ensures in
    let host = subst (λ (k : Plan _ _). g.H.Host.is_of k.host.value c.meet-2.new.other) (sym e.key) (subst (λ h. g.H.Host.is_of h c.meet-2.new.other) (sym c.requires.host.1) c.meet-2.ensures.here.1) in
    let known = g.H.Host.known in let n = (known v.plan.first.value).number in
    let middle = c.meet.ensures.pass.grown.number ∙ e.stands.number in
    let rows : v.core.rows ≡ q.seen = e.stands.rows_are in
    let told : c.poison_all_telling.new.raised.urbs ≡ map named (unheld (anchor_of q.seen c.args.anchor) (reverse (list_of q.seen c.args.anchor)))
    = ap (λ (t : VictimsTold). t.urbs) c.poison_all_telling.ensures.raised ∙ ap (λ rs. map named (unheld (anchor_of rs c.args.anchor) (reverse (list_of rs c.args.anchor)))) rows in
    let raises = ap (λ m. all_rejects m (ids c.list.result.now)) middle
    ∙ (ap (λ l. all_rejects n (ids l)) (c.list.ensures ∙ told) ∙ (ap (all_rejects n) (ids_named (unheld (anchor_of q.seen c.args.anchor) (reverse (list_of q.seen c.args.anchor)))) ∙ list_raises n c.args.anchor (unheld (anchor_of q.seen c.args.anchor) (reverse (list_of q.seen c.args.anchor))))) in
    let acts = acts_of n (known v.pass) (known c.meet.new.pass) (known c.reject_all.new.pass) (known c.meet-2.new.other) _ v.plan.urbs x q.seen c.meet.ensures.pass.grown c.reject_all.ensures.grown c.meet-2.ensures.other.grown raises in
    let more = newest_is g.H.Host.machine g.H.Host.is_of known v (record { core = c.poison_all_telling.new.self; pass = c.meet-2.new.other; raised = c.poison_all_telling.new.raised; grew = true; plan = v.plan }) q.seen x (reverse (list_of v.core.rows c.args.anchor)) e.stands c.poison_all_telling.ensures.log refl host c.know.ensures can acts (ap (λ (t : VictimsTold). t.room) c.poison_all_telling.ensures.raised) in let new = grown g.H.Host.machine g.H.Host.is_of known v (record { core = c.poison_all_telling.new.self; pass = c.meet-2.new.other; raised = c.poison_all_telling.new.raised; grew = true; plan = v.plan }) q.seen x (reverse (list_of v.core.rows c.args.anchor)) e.stands c.poison_all_telling.ensures.log refl host c.know.ensures can acts (ap (λ (t : VictimsTold). t.room) c.poison_all_telling.ensures.raised) in
    let seen : c.leave.new.pass.seen ≡ q.seen ++ x ∷ [] = ap (λ (z : Pass LogRow). z.seen) c.leave.ensures.same ∙ ap (λ ys. q.seen ++ ys) more in
    let k2 = known c.reject_all.new.pass in let made = c.reject_all.ensures.grown in
    let all = sees (g.H.Host.machine c.args.host.now) n v.plan.urbs (known c.args.pass.now) (known c.meet.new.other) k2 (known c.meet-2.new.pass) (known c.meet-2.new.other) (q.seen ++ x ∷ []) (g.met.H.Host.sound c.args.host.now c.args.pass.now c.requires.host.0) c.meet-2.ensures.pass.sound (g.met.H.Host.sound c.args.host.now c.reject_all.new.pass c.reject_all.ensures.here) c.meet.ensures.other.grown c.meet-2.ensures.pass.grown
    (begins_trans k2.seen (known c.meet.new.pass).seen (known c.args.pass.now).seen made.begins c.meet.ensures.met) c.meet-2.ensures.met (made.number ∙ middle) c.meet-2.ensures.other.grown new.rejects in
    subst (λ (k : Plan _ _). Sees (known k.first.value).number (known c.args.pass.now) (known c.meet-2.new.pass) (rejects_by (known k.first.value).number k.urbs c.leave.new.pass.seen)) e.key
    (subst (λ rs. Sees n (known c.args.pass.now) (known c.meet-2.new.pass) (rejects_by n v.plan.urbs rs)) (sym seen) all)

pub reject_all-requires-clause-urbs : goal.reject_all-requires-clause-urbs
reject_all-requires-clause-urbs g c κs within =
    let v = c.enter-rack.result in let q = c.enter-rack.new.pass in let e = c.enter-rack.ensures in let known = g.H.Host.known in let n = (known v.plan.first.value).number in let a = c.args.anchor in
    let rows : v.core.rows ≡ q.seen = e.stands.rows_are in
    let low : a < v.plan.anchors = subst (λ (k : Plan _ _). a < k.anchors) (sym e.key) c.requires.anchor in
    let mine : (known c.meet.new.pass).mine ≡ rejects_by n v.plan.urbs q.seen = c.meet.ensures.pass.grown.mine ∙ (append-nil (known v.pass).mine ∙ e.stands.rejects) in
    let sound = c.meet.ensures.pass.sound in
    let told : c.list.result.now ≡ map named (unheld (anchor_of q.seen a) (reverse (list_of q.seen a)))
    = c.list.ensures ∙ (ap (λ (t : VictimsTold). t.urbs) c.poison_all_telling.ensures.raised ∙ ap (λ rs. map named (unheld (anchor_of rs a) (reverse (list_of rs a)))) rows) in
    let homes = subst (λ h. v.plan.urbs ≤ length (g.H.Host.machine h).layout.homes) (ap (λ (k : Plan _ _). k.host.value) e.key ∙ c.requires.host.1) e.stands.fits.inside in
    raise_urbs (sized v.plan) q.seen v.core.victims e.stands.legal a c.list.result.now told _ homes

pub reject_all-requires-clause-apart : goal.reject_all-requires-clause-apart
reject_all-requires-clause-apart g c κs within =
    let v = c.enter-rack.result in let q = c.enter-rack.new.pass in let e = c.enter-rack.ensures in let known = g.H.Host.known in let n = (known v.plan.first.value).number in let a = c.args.anchor in
    let rows : v.core.rows ≡ q.seen = e.stands.rows_are in
    let low : a < v.plan.anchors = subst (λ (k : Plan _ _). a < k.anchors) (sym e.key) c.requires.anchor in
    let mine : (known c.meet.new.pass).mine ≡ rejects_by n v.plan.urbs q.seen = c.meet.ensures.pass.grown.mine ∙ (append-nil (known v.pass).mine ∙ e.stands.rejects) in
    let sound = c.meet.ensures.pass.sound in
    let told : c.list.result.now ≡ map named (unheld (anchor_of q.seen a) (reverse (list_of q.seen a)))
    = c.list.ensures ∙ (ap (λ (t : VictimsTold). t.urbs) c.poison_all_telling.ensures.raised ∙ ap (λ rs. map named (unheld (anchor_of rs a) (reverse (list_of rs a)))) rows) in
    raise_apart (sized v.plan) q.seen v.core.victims e.stands.legal a c.list.result.now told

pub reject_all-requires-clause-room : goal.reject_all-requires-clause-room
reject_all-requires-clause-room g c κs within =
    let v = c.enter-rack.result in let q = c.enter-rack.new.pass in let e = c.enter-rack.ensures in let known = g.H.Host.known in let n = (known v.plan.first.value).number in let a = c.args.anchor in
    let rows : v.core.rows ≡ q.seen = e.stands.rows_are in
    let low : a < v.plan.anchors = subst (λ (k : Plan _ _). a < k.anchors) (sym e.key) c.requires.anchor in
    let mine : (known c.meet.new.pass).mine ≡ rejects_by n v.plan.urbs q.seen = c.meet.ensures.pass.grown.mine ∙ (append-nil (known v.pass).mine ∙ e.stands.rejects) in
    let sound = c.meet.ensures.pass.sound in
    let told : c.list.result.now ≡ map named (unheld (anchor_of q.seen a) (reverse (list_of q.seen a)))
    = c.list.ensures ∙ (ap (λ (t : VictimsTold). t.urbs) c.poison_all_telling.ensures.raised ∙ ap (λ rs. map named (unheld (anchor_of rs a) (reverse (list_of rs a)))) rows) in
    raise_room (g.H.Host.machine c.args.host.now) (sized v.plan) (known c.meet.new.pass) n q.seen v.core.victims e.stands.legal sound mine a low e.stands.fits.few c.list.result.now told

pub returns-clause-inside : goal.returns-clause-inside
returns-clause-inside g c =
    let v = c.enter-rack.result in let q = c.enter-rack.new.pass in let e = c.enter-rack.ensures in
    let homes = subst (λ h. v.plan.urbs ≤ length (g.H.Host.machine h).layout.homes) (ap (λ (k : Plan _ _). k.host.value) e.key ∙ c.requires.host.1) e.stands.fits.inside in
    let whole : c.poison_all_telling.new.list.urbs ≡ map named (reverse (list_of q.seen c.args.anchor)) = ap (λ (t : VictimsTold). t.urbs) c.poison_all_telling.ensures.list ∙ ap (λ rs. map named (reverse (list_of rs c.args.anchor))) e.stands.rows_are in
    list_urbs c.poison_all_telling.new.list.urbs (reverse (list_of q.seen c.args.anchor)) v.plan.urbs _ whole homes
    (λ u h. (all_below (sized v.plan) q.seen v.core.victims e.stands.legal c.args.anchor).listed u (has_reverse (list_of q.seen c.args.anchor) u h))
