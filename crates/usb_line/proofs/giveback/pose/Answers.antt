use Rattle.std.proofs.Common.{◌≡◌, ◌++◌, Option, Some, None, sym, ap, ◌∙◌, subst, append-nil, arith}
use Rattle.usb_types.specs.declared.errno.Errno.{Errno}
use Rattle.usb_types.specs.declared.errno.Code.TheVariants.{Fault}
use Rattle.usb_machine.specs.declared.entry.TheConstants.{SERVER}
use Rattle.usb_machine.specs.State.{refusal}
use Rattle.usb_machine.specs.Shapes.{Accepts, shape_fault}
use Rattle.usb_machine.specs.History.{HasHome, state_of}
use Rattle.usb_machine.specs.Calls.{submit_entries}
use Rattle.std.specs.Prelude.{slice_get}
use Rattle.usb_machine.specs.Plain.{Stands}
use Rattle.usb_prepare.specs.Ends.{shape_at}
use Rattle.usb_prepare.specs.Layout.{home}
use Rattle.usb_trace.specs.Plan.{machine_of}
use Rattle.usb_trace.specs.Run.{submit_of}
use Rattle.usb_line.specs.Line.{submit_answer}
use Rattle.usb_line.proofs.Lookups.{none_of}
use Rattle.usb_line.proofs.giveback.pose.Goals as goal

pub returns-in-Some-clause-asked : goal.returns-in-Some-clause-asked
returns-in-Some-clause-asked c = λ s h u a stands pose is.
    let fault : Some c.in-Some.errno ≡ shape_fault (shape_at s (home s a.urb)) a.transfer = sym c.in-Some.is ∙ is.fault in
    let code = Fault c.in-Some.errno in (
      ap (λ o. submit_answer o (refusal (state_of h a.urb))) fault,
      subst (λ (o : Option Errno). Stands c.args.plain.now (machine_of s) (h ++ submit_of o SERVER a.urb a.transfer code)) fault
          (subst (Stands c.args.plain.now (machine_of s)) (sym (append-nil h)) stands),
    )

pub submit_and_link-requires : goal.submit_and_link-requires
submit_and_link-requires c = c.requires

pub returns-clause-asked : goal.returns-clause-asked
returns-clause-asked c = λ s h u a stands pose is.
    let fault : None ≡ shape_fault (shape_at s (home s a.urb)) a.transfer = sym (none_of _ c.in_default.not-Some) ∙ is.fault in
    let at = is.urb in
    let number = ap (λ t. t.number) (sym is.transfer) in
    let got = c.submit_and_link.ensures.asked s h a.transfer stands record {
      there = omega arith;
      has = subst (HasHome (machine_of s)) (sym at) pose.has;
      window = pose.window;
      unmoved = pose.unmoved;
      taken = subst (λ u. Accepts (slice_get (machine_of s).layout.shapes (home s u)) a.transfer) (sym at) (subst (λ o. Accepts o a.transfer) (sym pose.home) (sym fault));
    } number in (
      got.0 ∙ (ap (λ u. refusal (state_of h u)) at ∙ ap (λ o. submit_answer o (refusal (state_of h a.urb))) fault),
      subst (λ (o : Option Errno). Stands c.submit_and_link.new.plain (machine_of s) (h ++ submit_of o SERVER a.urb a.transfer c.submit_and_link.result)) fault
          (subst (λ u. Stands c.submit_and_link.new.plain (machine_of s) (h ++ submit_entries SERVER u a.transfer c.submit_and_link.result)) at got.1),
    )
