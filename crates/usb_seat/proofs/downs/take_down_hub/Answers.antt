use Rattle.std.proofs.Common.{◌≡◌, ◌<◌, List, None, ◌∙◌, length, get_or, sym, ap, subst, zero-add}
use Rattle.std.proofs.lemmas.List.FromFn.{get_or-range_with_len}
use Rattle.usb_types.specs.declared.urb.Flag.TheVariants as flag
use Rattle.usb_machine.specs.Calls.{flush_entries}
use Rattle.std.specs.List.{range_with_len}
use Rattle.usb_machine.specs.Fresh.{Grown}
use Rattle.usb_cancel.specs.Flushing.{ids, Has, AreApart, numbers_of}
use Rattle.usb_cancel.specs.Stops.{ClaimedSince}
use Rattle.usb_seat.proofs.Flagging.{has_below, has_at, apart_below, long_below}
use Rattle.usb_seat.proofs.downs.take_down_hub.Goals as goal

pub flush-requires-clause-urbs : goal.flush-requires-clause-urbs
flush-requires-clause-urbs g c κs within k d near =
    let is : ids c.deref.result.now ≡ range_with_len 0 c.args.urbs = ap ids c.deref.ensures.value ∙ c.in_ok-below.ensures in
    c.requires.urbs (get_or c.deref.result.now k d).0 (has_below c.args.urbs (get_or c.deref.result.now k d).0 (subst (λ us. Has us (get_or c.deref.result.now k d).0) is (has_at c.deref.result.now k d near)))

pub flush-requires-clause-apart : goal.flush-requires-clause-apart
flush-requires-clause-apart g c κs within =
    let is : ids c.deref.result.now ≡ range_with_len 0 c.args.urbs = ap ids c.deref.ensures.value ∙ c.in_ok-below.ensures in
    subst AreApart (sym is) (apart_below c.args.urbs)

pub flush-requires-clause-unset : goal.flush-requires-clause-unset
flush-requires-clause-unset g c κs within v h =
    let is : ids c.deref.result.now ≡ range_with_len 0 c.args.urbs = ap ids c.deref.ensures.value ∙ c.in_ok-below.ensures in
    c.requires.up v (has_below c.args.urbs v (subst (λ us. Has us v) is h))

pub flush-requires-clause-room : goal.flush-requires-clause-room
flush-requires-clause-room g c κs within =
    let is : ids c.deref.result.now ≡ range_with_len 0 c.args.urbs = ap ids c.deref.ensures.value ∙ c.in_ok-below.ensures in
    ap (λ (l : List _). length l) c.deref_mut.ensures.value ∙ (c.in_ok-rests.ensures ∙ sym (long_below c.deref.result.now c.args.urbs is))

pub returns-clause-down : goal.returns-clause-down
returns-clause-down g c =
    let p = g.H.Host.known (g.H.Hub.Token.own c.args.hub.now) in let q = g.H.Host.known (g.H.Hub.Token.own c.flush.new.hub) in
    let us = c.deref.result.now in
    let is : ids us ≡ range_with_len 0 c.args.urbs = ap ids c.deref.ensures.value ∙ c.in_ok-below.ensures in
    let e = c.flush.ensures.entries in
    let long : length us ≡ c.args.urbs = long_below us c.args.urbs is in
    let rests = c.flush.new.rests in record {
      marks = e.0;
      rests = rests;
      each = (e.1 ∙ long, c.flush.auto.rests ∙ (ap (λ (l : List _). length l) c.deref_mut.ensures.value ∙ c.in_ok-rests.ensures));
      grown = subst (λ us. Grown p q (flush_entries p.number flag.Down us e.0 (numbers_of rests))) is e.2;
      claims = λ u near.
          let at : get_or (ids us) u 0 ≡ u = ap (λ l. get_or l u 0) is ∙ (get_or-range_with_len 0 c.args.urbs u 0 near ∙ zero-add u) in
          subst (λ v. ClaimedSince p.seen q.seen q.number v (get_or rests u None)) at (c.flush.ensures.since u (subst (λ n. u < n) (sym long) near));
    }
