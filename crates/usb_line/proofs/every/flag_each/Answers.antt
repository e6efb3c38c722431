use Rattle.std.proofs.Common.{ℕ, ◌≤◌, refl, ap, ◌∙◌, arith}
use Rattle.usb_types.specs.declared.urb.Flag.TheVariants.{Down}
use Rattle.usb_machine.specs.declared.entry.TheConstants.{HUB}
use Rattle.usb_machine.specs.declared.event.Event.TheVariants.{Flag}
use Rattle.usb_machine.specs.declared.entry.Entry.{Entry}
use Rattle.usb_machine.specs.declared.state.UrbState.{UrbState}
use Rattle.usb_machine.specs.Calls.{plain_entry}
use Rattle.usb_trace.specs.Plan.{machine_of}
use Rattle.usb_line.proofs.Each.{each_above}
use Rattle.usb_line.proofs.InTurn.{as_many, each_longer}
use Rattle.usb_line.proofs.every.flag_each.Goals as goal

pub loop-u-preserved : goal.loop-u-preserved
loop-u-preserved c =
    let n = c.loop-u.u in
    let x : ℕ → Entry = λ u. plain_entry HUB (Flag record { 0 = u } Down) in
    let same : n ≤ n = omega arith in
    record {
      counts = as_many c.args.plain.now c.loop-u.plain c.flag_down.new.plain c.loop-u.invariant.counts c.flag_down.ensures.counts;
      so_far = λ s h stands flags. each_longer x (λ u. (tt, refl)) c.flag_down.new.plain (machine_of s) h n
          (c.flag_down.ensures.flagged s _ (c.loop-u.invariant.so_far s h stands flags) (ap (λ (t : UrbState). t.flags.down) (each_above x (λ u. (tt, refl)) h n n same) ∙ flags n c.loop-u-test.true));
    }
