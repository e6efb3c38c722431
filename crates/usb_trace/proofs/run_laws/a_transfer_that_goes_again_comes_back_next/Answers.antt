use Rattle.std.proofs.Common.{ap, ◌∙◌}
use Rattle.usb_machine.specs.declared.transfer.Transfer.{Transfer}
use Rattle.usb_prepare.specs.Ends.{shape_at}
use Rattle.usb_prepare.specs.Layout.{home}
use Rattle.usb_trace.specs.Plan.{owner_of}
use Rattle.usb_trace.specs.Run.{moved_in}
use Rattle.usb_trace.proofs.Moves.{moved_same}
use Rattle.usb_trace.proofs.Resent.{resent_number}
use Rattle.usb_trace.proofs.Carrying.{sent_on}
use Rattle.usb_trace.proofs.run_laws.a_transfer_that_goes_again_comes_back_next.Goals as goal

pub returns-clause-sent : goal.returns-clause-sent
returns-clause-sent c = sent_on

pub returns-clause-brought : goal.returns-clause-brought
returns-clause-brought c = λ s h call_records rounds run before r middle next after parts did same none.
    let sent = sent_on s h call_records rounds run before r middle next after parts did same none in
    let brings = moved_same (shape_at s (home s next.urb)) next.sent next.replies in
    let was = moved_same (shape_at s (home s r.urb)) r.sent r.replies in (
      brings.number ∙ (ap (λ (t : Transfer). t.number) sent ∙ (resent_number (owner_of s r.urb) r.status (moved_in s r) ∙ was.number)),
      brings.from ∙ ap (λ (t : Transfer). t.from) sent,
      brings.len ∙ ap (λ (t : Transfer). t.len) sent,
    )
