use Rattle.std.proofs.Common.{ℕ, sym, subst, length}
use Rattle.usb_threads.specs.Jobs.{Each, IsWork}
use Rattle.usb_threads.proofs.Calming.{calm_same}
use Rattle.usb_threads.proofs.Dealing.{jobs_ready, results}
use Rattle.usb_threads.proofs.whole.run_main.Goals as goal

pub run_scripts-requires-clause-jobs : goal.run_scripts-requires-clause-jobs
run_scripts-requires-clause-jobs g c κs within =
    let h = g.H.SceneHost in let host = c.args.host.now in
    jobs_ready (h.is_of host) h.known (h.scene host) (h.known c.args.read.now.value) (length c.args.jobs.items) c.args.jobs.items c.requires.jobs

pub collect-requires-clause-works : goal.collect-requires-clause-works
collect-requires-clause-works g c κs within =
    let h = g.H.SceneHost in let host = c.args.host.now in let worked = c.in-Ok.ensures in
    subst (λ (n : ℕ). Each (IsWork (h.is_of host) h.known (h.scene host) (h.known c.args.read.now.value) n) c.in-Ok.works.items) (sym worked.count)
    (results (h.is_of host) h.known (h.scene host) (h.known c.args.read.now.value) (length c.args.jobs.items) c.args.jobs.items c.in-Ok.works.items c.requires.jobs worked)

pub close_down-requires-clause-calm : goal.close_down-requires-clause-calm
close_down-requires-clause-calm g c κs within =
    let h = g.H.SceneHost in calm_same (h.scene c.args.host.now) (h.known c.args.main) (h.known c.collect.new.main) c.requires.sound c.requires.calm c.in_ok-seats.ensures.meets
