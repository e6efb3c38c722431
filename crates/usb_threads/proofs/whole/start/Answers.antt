use Rattle.std.proofs.Common.{length, sym, subst}
use Rattle.usb_machine.specs.Fresh.{Begins}
use Rattle.usb_threads.proofs.Dealing.{earlier_jobs}
use Rattle.usb_threads.proofs.whole.start.Goals as goal

pub returns-clause-jobs : goal.returns-clause-jobs
returns-clause-jobs g c =
    let h = g.H.SceneHost in let host = c.args.host.now in
    earlier_jobs (h.is_of host) h.known (h.scene host) (h.known c.of-read.result.value) (h.known c.meet_server.new.other) (length c.args.threads.items) c.in_ok-jobs.jobs.items
    (subst (λ seat. Begins (h.known c.meet_server.new.other).seen (h.known seat).seen) (sym c.of-read.ensures) c.meet_server.ensures.other.grown.begins) c.in_ok-jobs.ensures.jobs
