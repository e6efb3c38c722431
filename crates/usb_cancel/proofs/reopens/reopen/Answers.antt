use Rattle.std.proofs.Common.{◌<◌, inl, inr, ⊎_elim, sym, subst, ap, ◌∙◌}
use Rattle.std.proofs.lemmas.List.{length-map}
use Rattle.usb_types.specs.declared.urb.UrbId.{UrbId}
use Rattle.usb_types.specs.declared.urb.Why.TheVariants.{Kill}
use Rattle.usb_machine.specs.Calls.{marks_of, claims_of}
use Rattle.usb_machine.specs.Parts.{held_of, holds_any}
use Rattle.usb_machine.specs.Fresh.{Grown}
use Rattle.usb_cancel.specs.Flushing.{ids, numbers_of}
use Rattle.usb_cancel.specs.Reopening.{rejects_of, withdraws_of}
use Rattle.usb_cancel.proofs.Stopping.{claimed_later}
use Rattle.usb_cancel.proofs.Reopened.{rejected_held, rejects_claims, reopened, reopened_fresh}
use Rattle.usb_cancel.proofs.reopens.reopen.Goals as goal

pub settle_all-requires-clause-held : goal.settle_all-requires-clause-held
settle_all-requires-clause-held g c κs within v h =
    ap holds_any (c.mark_all.ensures.held v) ∙ rejected_held (g.H.Host.known (g.H.Hub.Token.own c.reject_all.new.hub)).mine (ids c.args.urbs.now) c.reject_all.ensures.rejected v h

pub withdraw_all-requires-clause-rejected : goal.withdraw_all-requires-clause-rejected
withdraw_all-requires-clause-rejected g c κs within v h =
    let known = g.H.Host.known in
    let own = g.H.Hub.Token.own in
    let r = known (own c.mark_all.new.hub) in
    let s = known (own c.settle_all.new.hub) in
    let same = ap (λ m. (held_of m v).rejects) c.settle_all.ensures.grown.mine ∙ (rejects_claims r.number v r.mine (ids c.args.urbs.now) (numbers_of c.settle_all.new.rests) ∙ ap (λ d. d.rejects) (c.mark_all.ensures.held v)) in
    subst (λ n. 0 < n) (sym same) (c.reject_all.ensures.rejected v h)

pub returns-clause-entries : goal.returns-clause-entries
returns-clause-entries g c =
    let known = g.H.Host.known in
    let own = g.H.Hub.Token.own in
    let us = c.args.urbs.now in
    let p = known (own c.args.hub.now) in
    let q = known (own c.reject_all.new.hub) in
    let r = known (own c.mark_all.new.hub) in
    let s = known (own c.settle_all.new.hub) in
    let t = known (own c.withdraw_all.new.hub) in
    let m = c.mark_all.ensures.marked in
    let rests = numbers_of c.settle_all.new.rests in
    let marks = subst (λ n. Grown q r (marks_of n Kill (ids us) m.answers)) c.reject_all.ensures.grown.number m.grown in (
      m.answers,
      m.each ∙ length-map us (λ (u : UrbId). u.0),
      reopened (g.H.Host.machine c.args.host.now) p q r s t (rejects_of p.number (ids us)) (marks_of p.number Kill (ids us) m.answers) (λ n. claims_of n (ids us) rests) (λ n. withdraws_of n (ids us))
          c.reject_all.ensures.grown marks c.settle_all.ensures.grown c.withdraw_all.ensures.grown,
    )

pub returns-clause-fresh : goal.returns-clause-fresh
returns-clause-fresh g c =
    let known = g.H.Host.known in
    let own = g.H.Hub.Token.own in
    let us = c.args.urbs.now in
    let p = known (own c.args.hub.now) in
    let q = known (own c.reject_all.new.hub) in
    let r = known (own c.mark_all.new.hub) in
    let s = known (own c.settle_all.new.hub) in
    let t = known (own c.withdraw_all.new.hub) in
    let m = c.mark_all.ensures.marked in
    let rests = numbers_of c.settle_all.new.rests in
    let marks = subst (λ n. Grown q r (marks_of n Kill (ids us) m.answers)) c.reject_all.ensures.grown.number m.grown in
    ⊎_elim (λ none. inl none)
    (λ last. inr (
      m.answers,
      m.each ∙ length-map us (λ (u : UrbId). u.0),
      reopened_fresh (g.H.Host.machine c.args.host.now) p q r s t (rejects_of p.number (ids us)) (marks_of p.number Kill (ids us) m.answers) (λ n. claims_of n (ids us) rests) (λ n. withdraws_of n (ids us))
          c.reject_all.ensures.grown marks c.settle_all.ensures.grown c.withdraw_all.ensures.grown last.0 last.1,
    ))
    c.withdraw_all.ensures.last

pub returns-clause-claimed : goal.returns-clause-claimed
returns-clause-claimed g c i lt =
    let known = g.H.Host.known in
    let own = g.H.Hub.Token.own in
    claimed_later (known (own c.settle_all.new.hub)) (known (own c.withdraw_all.new.hub)) _ _ _ c.withdraw_all.ensures.grown (c.settle_all.ensures.since i lt).claimed
