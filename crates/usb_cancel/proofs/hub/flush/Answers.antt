use Rattle.std.proofs.Common.{inl, inr, ⊎_elim, subst, ◌∙◌}
use Rattle.std.proofs.lemmas.List.{length-map}
use Rattle.usb_types.specs.declared.urb.UrbId.{UrbId}
use Rattle.usb_types.specs.declared.urb.Why.TheVariants.{Shutdown}
use Rattle.usb_machine.specs.Calls.{marks_of, claims_of}
use Rattle.usb_machine.specs.Fresh.{Grown}
use Rattle.usb_cancel.specs.Flushing.{ids, flags_of, numbers_of}
use Rattle.usb_machine.proofs.Growing.{grown_more}
use Rattle.usb_cancel.proofs.Stopping.{since_longer}
use Rattle.usb_cancel.proofs.Flushes.{flushed}
use Rattle.usb_cancel.proofs.hub.flush.Goals as goal

pub returns-clause-fresh : goal.returns-clause-fresh
returns-clause-fresh g c =
    let known = g.H.Host.known in
    let own = g.H.Hub.Token.own in
    let us = c.args.urbs.now in
    let p = known (own c.args.hub.now) in
    let q = known (own c.flag_all.new.hub) in
    let r = known (own c.mark_all.new.hub) in
    let t = known (own c.settle_all.new.hub) in
    let m = c.mark_all.ensures.marked in
    let rests = numbers_of c.settle_all.new.rests in
    let marks = subst (λ n. Grown q r (marks_of n Shutdown (ids us) m.answers)) c.flag_all.ensures.grown.number m.grown in
    ⊎_elim (λ none. inl none)
    (λ last. inr (
      m.answers,
      m.each ∙ length-map us (λ (u : UrbId). u.0),
      flushed (g.H.Host.machine c.args.host.now) p q r t (flags_of p.number c.args.flag (ids us)) (marks_of p.number Shutdown (ids us) m.answers) (λ n. claims_of n (ids us) rests)
          c.flag_all.ensures.grown marks c.settle_all.ensures.grown last.0 last.1,
    ))
    c.settle_all.ensures.last

pub returns-clause-claimed : goal.returns-clause-claimed
returns-clause-claimed g c i lt = (c.settle_all.ensures.since i lt).claimed

pub returns-clause-since : goal.returns-clause-since
returns-clause-since g c i lt =
    let begins = (grown_more _ _ _ _ _ c.flag_all.ensures.grown c.mark_all.ensures.marked.grown).begins in
    since_longer _ _ _ _ _ _ begins (c.settle_all.ensures.since i lt)
