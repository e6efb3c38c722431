use Rattle.std.proofs.Common.{ℕ, ◌≡◌, ◌<◌, ◌≤◌, ◌++◌, ◌∷◌, [], ◌∙◌, ◌+◌, take, get_or, set, List, Option, length, refl, sym, subst, arith, append-nil, append_assoc}
use Rattle.std.proofs.lemmas.List.{take_more_set, take_all}
use Rattle.usb_types.specs.declared.urb.UrbId.{UrbId}
use Rattle.usb_machine.specs.declared.entry.TheConstants.{HUB}
use Rattle.usb_machine.specs.Calls.{claim_entries}
use Rattle.usb_serve.specs.declared.solo.Waited.TheVariants.{Quiet, Idle, Busy}
use Rattle.usb_serve.specs.Solo.{IsSoloAt}
use Rattle.usb_serve.specs.Flushing.{ids, Settles, none, one}
use Rattle.usb_serve.proofs.Stopping.{waited_as}
use Rattle.usb_serve.proofs.Flushes.{has_at, ids_more, ids_all, ids_take, ids_at, hub_rounds, settled_holds}
use Rattle.usb_serve.proofs.solo.Solo.settle_all.Goals as goal

pub loop-i-init : goal.loop-i-init
loop-i-init g c = record {
  settled = λ m h solo may. ([], none, subst (IsSoloAt g.H.Handler.asks_with c.args.self.now m) (sym (append-nil h)) solo);
  counts = refl;
}

pub wait_for-requires-clause-whole : goal.wait_for-requires-clause-whole
wait_for-requires-clause-whole g c = let can = c.requires.can in let p = c.loop-i.invariant.settled can.0 can.1 can.2 can.3 in (can.0, can.1 ++ p.0, p.2)

pub wait_for-requires-clause-urb : goal.wait_for-requires-clause-urb
wait_for-requires-clause-urb g c = let l = c.requires.urbs c.loop-i.i record { 0 = 0 } c.loop-i-test.true in let n = c.loop-i.invariant.counts in omega arith

pub claim-requires : goal.claim-requires
claim-requires g c = let l = c.requires.urbs c.loop-i.i record { 0 = 0 } c.loop-i-test.true in let n = c.loop-i.invariant.counts in let w = c.in-Ok-Quiet.ensures.counts in omega arith

pub loop-i-preserved : goal.loop-i-preserved
loop-i-preserved g c = record {
  settled = λ m h solo may. (
      let us : List UrbId = c.args.urbs.now in let i : ℕ = c.loop-i.i in let rests : List (Option ℕ) = c.loop-i.rests in
      let u : UrbId = get_or us i record { 0 = 0 } in
      let was = c.loop-i.invariant.settled m h solo may in
      let k = h ++ was.0 in
      let w = waited_as m k u.0 c.in-Ok-Quiet.field-0 Quiet c.in-Ok-Quiet.field-0-is (c.in-Ok-Quiet.ensures.waited m k was.2) in
      let d = c.claim.ensures.claims m (k ++ w.0) w.2 may.hub w.1.1 (settled_holds m h (ids (take i us)) (take i rests) was.0 w.0 u.0 was.1 (may.flagged u.0 (has_at us i record { 0 = 0 } c.loop-i-test.true)) (hub_rounds m k w.0 u.0 w.1.0)) in
      let lt : i < length rests = subst (λ n. i < n) (sym (c.loop-i.auto.rests ∙ c.requires.room)) c.loop-i-test.true in
      let es = was.0 ++ (w.0 ++ claim_entries HUB u.0 c.claim.result) in (
        es,
        subst (λ vs. Settles m h vs (take (i + 1) (set rests i c.claim.result)) es) (sym (ids_more us i record { 0 = 0 } c.loop-i-test.true))
            (subst (λ rs. Settles m h (ids (take i us) ++ u.0 ∷ []) rs es) (sym (take_more_set rests i c.claim.result lt)) (one (ids (take i us)) (take i rests) was.0 w.0 u.0 c.claim.result was.1 w.1.0 w.1.1 d.0)),
        subst (IsSoloAt g.H.Handler.asks_with c.claim.new.self m) (append_assoc k w.0 (claim_entries HUB u.0 c.claim.result) ∙ append_assoc h was.0 (w.0 ++ claim_entries HUB u.0 c.claim.result)) d.1,
      ));
  counts = c.claim.ensures.counts ∙ (c.in-Ok-Quiet.ensures.counts ∙ c.loop-i.invariant.counts);
}

pub returns-clause-settled : goal.returns-clause-settled
returns-clause-settled g c = λ m h solo may.
    let us : List UrbId = c.args.urbs.now in let i : ℕ = c.loop-i.i in let rests : List (Option ℕ) = c.loop-i.rests in
    let was = c.loop-i.invariant.settled m h solo may in
    let le : length rests ≤ i = subst (λ n. n ≤ i) (sym (c.loop-i.auto.rests ∙ c.requires.room)) c.loop-i-test.false in
    (was.0, subst (λ vs. Settles m h vs rests was.0) (ids_all us i c.loop-i-test.false) (subst (λ rs. Settles m h (ids (take i us)) rs was.0) (take_all i rests le) was.1), was.2)

pub returns-in-Ok-Idle-clause-settled : goal.returns-in-Ok-Idle-clause-settled
returns-in-Ok-Idle-clause-settled g c = λ m h solo may.
    let us : List UrbId = c.args.urbs.now in let i : ℕ = c.loop-i.i in let rests : List (Option ℕ) = c.loop-i.rests in
    let u : UrbId = get_or us i record { 0 = 0 } in
    let was = c.loop-i.invariant.settled m h solo may in
    let k = h ++ was.0 in
    let w = waited_as m k u.0 c.in-Ok-Idle.field-0 Idle c.in-Ok-Idle.field-0-is (c.in-Ok-Idle.ensures.waited m k was.2) in (
      was.0 ++ w.0,
      record { place = i; urb = u.0; at = ids_at us i record { 0 = 0 } c.loop-i-test.true; done = was.0; settled = subst (λ vs. Settles m h vs (take i rests) was.0) (ids_take us i) was.1; waited = w.0; adds = w.1; is = refl },
      subst (IsSoloAt g.H.Handler.asks_with c.wait_for.new.self m) (append_assoc h was.0 w.0) w.2,
    )

pub returns-in-Ok-Busy-clause-settled : goal.returns-in-Ok-Busy-clause-settled
returns-in-Ok-Busy-clause-settled g c = λ m h solo may.
    let us : List UrbId = c.args.urbs.now in let i : ℕ = c.loop-i.i in let rests : List (Option ℕ) = c.loop-i.rests in
    let u : UrbId = get_or us i record { 0 = 0 } in
    let was = c.loop-i.invariant.settled m h solo may in
    let k = h ++ was.0 in
    let w = waited_as m k u.0 c.in-Ok-Busy.field-0 Busy c.in-Ok-Busy.field-0-is (c.in-Ok-Busy.ensures.waited m k was.2) in (
      was.0 ++ w.0,
      record { place = i; urb = u.0; at = ids_at us i record { 0 = 0 } c.loop-i-test.true; done = was.0; settled = subst (λ vs. Settles m h vs (take i rests) was.0) (ids_take us i) was.1; waited = w.0; adds = w.1; is = refl },
      subst (IsSoloAt g.H.Handler.asks_with c.wait_for.new.self m) (append_assoc h was.0 w.0) w.2,
    )

pub returns-in-Err-clause-settled : goal.returns-in-Err-clause-settled
returns-in-Err-clause-settled g c = λ m h solo may.
    let us : List UrbId = c.args.urbs.now in let i : ℕ = c.loop-i.i in let rests : List (Option ℕ) = c.loop-i.rests in
    let u : UrbId = get_or us i record { 0 = 0 } in
    let was = c.loop-i.invariant.settled m h solo may in
    let k = h ++ was.0 in
    let w = c.in-Err.ensures.waited m k was.2 in (
      was.0 ++ w.0,
      record { place = i; urb = u.0; at = ids_at us i record { 0 = 0 } c.loop-i-test.true; done = was.0; settled = subst (λ vs. Settles m h vs (take i rests) was.0) (ids_take us i) was.1; waited = w.0; adds = w.1; is = refl },
      subst (IsSoloAt g.H.Handler.asks_with c.wait_for.new.self m) (append_assoc h was.0 w.0) w.2,
    )
