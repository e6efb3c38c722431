use Rattle.std.proofs.Common.{ℕ, ◌+◌, ◌<◌, ◌≤◌, [], ◌∷◌, ◌++◌, length, map, refl, ap, ◌∙◌, subst, arith}
use Rattle.usb_types.specs.declared.errno.Code.{Code}
use Rattle.usb_types.specs.declared.urb.Why.TheVariants.{Shutdown}
use Rattle.usb_machine.specs.declared.entry.TheConstants.{HUB}
use Rattle.usb_machine.specs.declared.entry.Entry.{Entry}
use Rattle.usb_machine.specs.State.{unlinking}
use Rattle.usb_machine.specs.History.{state_of}
use Rattle.usb_machine.specs.Plain.{Stands}
use Rattle.usb_machine.specs.Calls.{mark_entry}
use Rattle.usb_trace.specs.Plan.{machine_of}
use Rattle.usb_prepare.specs.Below.{below}
use Rattle.usb_line.proofs.Each.{each_above}
use Rattle.usb_line.proofs.InTurn.{as_many, each_longer}
use Rattle.usb_line.proofs.every.mark_each.Goals as goal

pub loop-u-preserved : goal.loop-u-preserved
loop-u-preserved c =
    let n = c.loop-u.u in
    let same : n ≤ n = omega arith in
    record {
      counts = as_many c.args.plain.now c.loop-u.plain c.mark.new.plain c.loop-u.invariant.counts c.mark.ensures.counts;
      so_far = λ s h stands.
          (let x : ℕ → Entry = λ u. mark_entry HUB Shutdown u (unlinking (state_of h u)) in
          let there : HUB < 2 + (length s.threads + 3) = omega arith in
          let done = c.mark.ensures.marked s (h ++ map x (below n)) (c.loop-u.invariant.so_far s h stands) there in
          each_longer x (λ u. (tt, refl)) c.mark.new.plain (machine_of s) h n
          (subst (λ (a : Code). Stands c.mark.new.plain (machine_of s) ((h ++ map x (below n)) ++ mark_entry HUB Shutdown n a ∷ [])) (done.0 ∙ ap unlinking (each_above x (λ u. (tt, refl)) h n n same)) done.1));
    }
