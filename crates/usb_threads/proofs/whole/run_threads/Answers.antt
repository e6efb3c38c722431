use Rattle.std.proofs.Common.{ℕ, Result, IfOk, ◌∙◌, sym, subst, length, List}
use Rattle.usb_types.specs.declared.outside.Memory.{Memory}
use Rattle.usb_scene.specs.WellFormed.{IsWellFormed}
use Rattle.usb_prepare.specs.Layout.{urb_count}
use Rattle.usb_trace.specs.declared.rows.GivebackRow.{GivebackRow}
use Rattle.usb_threads.specs.declared.ending.Ended.{Ended}
use Rattle.usb_threads.specs.Controlling.{HasControlled}
use Rattle.usb_threads.specs.Jobs.{Each, IsJob}
use Rattle.usb_threads.specs.Wholes.{HasEnded}
use Rattle.usb_threads.proofs.Calming.{calm_reads, calm_same}
use Rattle.usb_threads.proofs.Finishing.{seat_count, seats_few, seats_for, mains, number_now, idle_from, all_in, if_given}
use Rattle.usb_threads.proofs.whole.run_threads.Goals as goal

pub start-requires-clause-few : goal.start-requires-clause-few
start-requires-clause-few g c κs within = let h = g.H.SceneHost in let host = c.args.host in
    seats_few (h.is_of host) h.known (h.serves host) h.own (h.is_spare host) (h.scene host) c.args.opened c.requires.opened (subst IsWellFormed c.requires.scene c.requires.good)

pub start-requires-clause-threads : goal.start-requires-clause-threads
start-requires-clause-threads g c κs within = let h = g.H.SceneHost in let host = c.args.host in
    seats_for (h.is_of host) h.known (h.serves host) h.own (h.is_spare host) (h.scene host) c.args.opened c.requires.opened

pub run_both-controlled-requires-clause-number : goal.run_both-controlled-requires-clause-number
run_both-controlled-requires-clause-number g c κs within = let h = g.H.SceneHost in let host = c.args.host in let o = c.args.opened in
    number_now (h.scene host) (h.known o.main) (h.known c.in_ok-jobs.read.value) (h.known c.start.new.main) (h.own o.server) (h.own c.start.new.server)
    (mains (h.is_of host) h.known (h.serves host) h.own (h.is_spare host) (h.scene host) o c.requires.opened) c.in_ok-jobs.ensures.started

pub run_both-controlled-requires-clause-calm : goal.run_both-controlled-requires-clause-calm
run_both-controlled-requires-clause-calm g c κs within =
    let h = g.H.SceneHost in let s = h.scene c.args.host in let started = c.in_ok-jobs.ensures.started in
    calm_same s (h.known c.in_ok-jobs.read.value) (h.known c.start.new.main) started.went.sound
    (calm_reads s (h.known c.args.opened.main) (h.known c.in_ok-jobs.read.value) (urb_count s) started.more c.requires.opened.main_new started.went started.reads) started.later

pub run_both-controlled-requires-clause-jobs : goal.run_both-controlled-requires-clause-jobs
run_both-controlled-requires-clause-jobs g c κs within =
    let h = g.H.SceneHost in let host = c.args.host in let started = c.in_ok-jobs.ensures in
    subst (λ (n : ℕ). Each (IsJob (h.is_of host) h.known (h.scene host) (h.known c.in_ok-jobs.read.value) n) c.in_ok-jobs.jobs.items) (sym started.count) started.jobs

pub run_both-controlled-requires-clause-idle : goal.run_both-controlled-requires-clause-idle
run_both-controlled-requires-clause-idle g c κs within =
    let h = g.H.SceneHost in let host = c.args.host in let o = c.args.opened in
    idle_from (h.scene host) (h.known o.main) (h.known c.in_ok-jobs.read.value) (h.known c.start.new.main) (h.own o.server) (h.own c.start.new.server)
    (mains (h.is_of host) h.known (h.serves host) h.own (h.is_spare host) (h.scene host) o c.requires.opened) c.in_ok-jobs.ensures.started c.requires.opened.server_number c.requires.opened.server_new

pub finish-requires-clause-all : goal.finish-requires-clause-all
finish-requires-clause-all g c κs within =
    let h = g.H.SceneHost in let host = c.args.host in let s = h.scene host in let o = c.args.opened in let started = c.in_ok-jobs.ensures in let both = c.run_both-controlled.ensures in
    let n = length c.in_ok-jobs.jobs.items in let server = c.run_both-controlled.result.0.server in
    let opening = mains (h.is_of host) h.known (h.serves host) h.own (h.is_spare host) s o c.requires.opened in
    let ends = subst (λ (r : Result (Ended _) Memory). IfOk r (HasEnded (h.is_of host) h.known s (h.known c.in_ok-jobs.read.value) n)) c.in_ok-ended.was both.ended in
    let idle = idle_from s (h.known o.main) (h.known c.in_ok-jobs.read.value) (h.known c.start.new.main) (h.own o.server) (h.own c.start.new.server) opening started.started c.requires.opened.server_number c.requires.opened.server_new in
    if_given (HasControlled s (h.after host server) (h.own c.start.new.server) (h.own server)) _ c.run_both-controlled.result.0.given both.controlled
    (λ given controlled. all_in s (h.known o.main) (h.known c.in_ok-jobs.read.value) (h.known c.start.new.main) (h.own o.server) (h.own c.start.new.server) opening started.started
    (h.is_of host) h.known (h.after host server) (h.own server) c.in_ok-ended.field-0 given n (started.count ∙ seat_count (h.is_of host) h.known (h.serves host) h.own (h.is_spare host) s o c.requires.opened) idle controlled ends)
