use Rattle.std.proofs.Common.{◌++◌, ◌∙◌, List, sym, subst, refl, append_assoc, ap}
use Rattle.std.proofs.lemmas.List.{length-map}
use Rattle.usb_types.specs.declared.urb.UrbId.{UrbId}
use Rattle.usb_types.specs.declared.urb.Why.TheVariants.{Shutdown}
use Rattle.usb_machine.specs.declared.entry.TheConstants.{HUB}
use Rattle.usb_machine.specs.declared.entry.Entry.{Entry}
use Rattle.usb_machine.specs.Calls.{marks_of}
use Rattle.usb_serve.specs.Solo.{IsSoloAt}
use Rattle.usb_serve.specs.Flushing.{ids, flags_of, SettlesBy}
use Rattle.usb_serve.proofs.Flushes.{flagged_held, own_flushed}
use Rattle.usb_serve.proofs.solo.Solo.flush.Goals as goal

pub settle_all-requires-clause-can : goal.settle_all-requires-clause-can
settle_all-requires-clause-can g c =
    let can = c.requires.can in let m = can.0 in let h = can.1 in let may = can.3 in
    let us = ids c.args.urbs.now in
    let a = c.flag_all.ensures.flagged m h can.2 may in
    let b = c.mark_all.ensures.marked m (h ++ flags_of c.args.flag us) a may.hub in
    (m, (h ++ flags_of c.args.flag us) ++ marks_of HUB Shutdown us b.0, b.2, record { hub = may.hub; flagged = λ v has. flagged_held c.args.flag us b.0 h v has })

pub returns-clause-flushed : goal.returns-clause-flushed
returns-clause-flushed g c = λ m h solo may.
    let us = ids c.args.urbs.now in let f = c.args.flag in
    let a = c.flag_all.ensures.flagged m h solo may in
    let b = c.mark_all.ensures.marked m (h ++ flags_of f us) a may.hub in
    let marks : List Entry = marks_of HUB Shutdown us b.0 in
    let d = c.settle_all.ensures.settled m ((h ++ flags_of f us) ++ marks) b.2 record { hub = may.hub; flagged = λ v has. flagged_held f us b.0 h v has } in
    let all = append_assoc h (flags_of f us) marks in (
      (flags_of f us ++ marks) ++ d.0,
      record {
        answers = b.0;
        long = b.1 ∙ sym (length-map c.args.urbs.now (λ (u : UrbId). u.0));
        settled = d.0;
        adds = subst (λ k. SettlesBy m k us c.settle_all.result c.settle_all.new.rests d.0) all d.1;
        is = refl;
        own = λ is. own_flushed m ((h ++ flags_of f us) ++ marks) f us b.0 c.settle_all.result c.settle_all.new.rests d.0 d.1 is;
      },
      subst (IsSoloAt g.H.Handler.asks_with c.settle_all.new.self m) (ap (λ k. k ++ d.0) all ∙ append_assoc h (flags_of f us ++ marks) d.0) d.2,
    )
