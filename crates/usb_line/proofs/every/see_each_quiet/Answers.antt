use Rattle.std.proofs.Common.{◌<◌, ◌≤◌, ◌++◌, List, [], ◌∷◌, refl, sym, ap, ◌∙◌, subst, arith}
use Rattle.std.specs.List.{flat_map}
use Rattle.usb_machine.specs.declared.event.Event.TheVariants.{Reject}
use Rattle.usb_machine.specs.declared.entry.Entry.{Entry}
use Rattle.usb_machine.specs.declared.state.UrbState.{UrbState}
use Rattle.usb_machine.specs.Calls.{plain_entry}
use Rattle.usb_trace.specs.Plan.{machine_of}
use Rattle.usb_prepare.specs.Below.{below}
use Rattle.usb_trace.specs.Run.{seen_quiet}
use Rattle.usb_trace.proofs.Entries.{own_state}
use Rattle.usb_line.proofs.InTurn.{as_many, seen_above, held_above, seen_longer}
use Rattle.usb_line.proofs.every.see_each_quiet.Goals as goal

pub loop-u-preserved : goal.loop-u-preserved
loop-u-preserved c =
    let n = c.loop-u.u in let p = c.args.pass in
    let same : n ≤ n = omega arith in
    record {
      counts = as_many c.args.plain.now c.loop-u.plain c.see_quiet.new.plain c.loop-u.invariant.counts (as_many c.loop-u.plain c.reject.new.plain c.see_quiet.new.plain c.reject.ensures.counts c.see_quiet.ensures.counts);
      so_far = λ s h stands there quiet.
          (let at : List Entry = h ++ flat_map (seen_quiet p) (below n) in
          let here = quiet n c.loop-u-test.true in
          let state = seen_above p h n n same in
          let room = subst (λ k. k < 255) (sym (held_above p h n n same)) here.2 in
          let rejected = c.reject.ensures.raised s at (c.loop-u.invariant.so_far s h stands there quiet) there room in
          let after = own_state n at (plain_entry p (Reject record { 0 = n }) ∷ []) (tt, refl, tt) in
          seen_longer p h c.see_quiet.new.plain (machine_of s) n
          (c.see_quiet.ensures.seen s (at ++ plain_entry p (Reject record { 0 = n }) ∷ []) rejected there
          (ap (λ (t : UrbState). t.queued) after ∙ (ap (λ (t : UrbState). t.queued) state ∙ here.0))
          (ap (λ (t : UrbState). t.handlers) after ∙ (ap (λ (t : UrbState). t.handlers) state ∙ here.1))));
    }
