use Rattle.std.proofs.Common.{[], ◌∷◌, ◌++◌}
use Rattle.usb_machine.specs.declared.event.Event.TheVariants.{Reject}
use Rattle.usb_machine.specs.Calls.{plain_entry}
use Rattle.usb_line.proofs.Killing.{shows_killing}
use Rattle.usb_line.proofs.run.LineRun.begin_kill.Goals as goal

pub returns : goal.returns
returns c s f may =
    let p = c.args.pass in let u = c.args.urb.0 in
    let rejected = c.reject.ensures.raised s f.history may.shows.stands may.there may.room in
    let marked = c.mark.ensures.marked s (f.history ++ plain_entry p (Reject record { 0 = u }) ∷ []) rejected may.there in
    shows_killing s f c.args.self.now p u may c.mark.new.plain c.mark.result marked.0 marked.1
