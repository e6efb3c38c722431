use Rattle.std.proofs.Common.{Result, IfOk, subst, List}
use Rattle.usb_types.specs.declared.outside.Memory.{Memory}
use Rattle.usb_trace.specs.declared.rows.GivebackRow.{GivebackRow}
use Rattle.usb_threads.specs.Wholes.{IsAllIn}
use Rattle.usb_threads.proofs.Finishing.{seats_here, seat_numbers, main_keeps, has_run}
use Rattle.usb_threads.proofs.whole.finish.Goals as goal

pub close-requires-clause-threads : goal.close-requires-clause-threads
close-requires-clause-threads g c =
    let h = g.H.SceneHost in let host = c.args.host in let s = h.scene host in let after = h.after host c.args.controlled.server in let server = h.own c.args.controlled.server in
    let all = subst (λ (r : Result (List GivebackRow) Memory). IfOk r (IsAllIn (h.is_of host) h.known s after server c.args.ended)) c.in_ok-given.was c.requires.all in
    seats_here (h.is_of host) h.known s after server c.args.ended c.in_ok-given.given all

pub close-requires-clause-numbers : goal.close-requires-clause-numbers
close-requires-clause-numbers g c =
    let h = g.H.SceneHost in let host = c.args.host in let s = h.scene host in let after = h.after host c.args.controlled.server in let server = h.own c.args.controlled.server in
    let all = subst (λ (r : Result (List GivebackRow) Memory). IfOk r (IsAllIn (h.is_of host) h.known s after server c.args.ended)) c.in_ok-given.was c.requires.all in
    seat_numbers (h.is_of host) h.known s after server c.args.ended c.in_ok-given.given all

pub close-requires-clause-quiet : goal.close-requires-clause-quiet
close-requires-clause-quiet g c =
    let h = g.H.SceneHost in let host = c.args.host in let s = h.scene host in let after = h.after host c.args.controlled.server in let server = h.own c.args.controlled.server in
    let all = subst (λ (r : Result (List GivebackRow) Memory). IfOk r (IsAllIn (h.is_of host) h.known s after server c.args.ended)) c.in_ok-given.was c.requires.all in
    main_keeps (h.is_of host) h.known s after server c.args.ended c.in_ok-given.given all

pub returns : goal.returns
returns g c =
    let h = g.H.SceneHost in let host = c.args.host in let s = h.scene host in let after = h.after host c.args.controlled.server in let server = h.own c.args.controlled.server in
    let all = subst (λ (r : Result (List GivebackRow) Memory). IfOk r (IsAllIn (h.is_of host) h.known s after server c.args.ended)) c.in_ok-given.was c.requires.all in
    has_run (h.is_of host) h.known s after server c.args.ended c.in_ok-given.given all (h.history c.in_ok-closed.closed) (h.spares c.args.spare) (g.met.H.SceneHost.idle host c.args.spare c.requires.spare) c.in_ok-closed.ensures.closed c.requires.good c.in_ok-closed.left c.in_ok-closed.ensures.left
