use Rattle.std.proofs.Common.{true, false, ◌∙◌, sym}
use Rattle.usb_trace.specs.declared.rows.HostCall.TheVariants as host_call
use Rattle.usb_threads.proofs.CallsMade.{submit_called, unlink_called, kill_called, poison_called, unpoison_called, unblock_called, block_called, down_called, up_called, serve_called, absent_called, down_refused, up_refused, is_call, there, few, held_unpoison, held_unblock, hub_down, hub_up, flags}
use Rattle.usb_threads.proofs.worker.make.Goals as goal

pub submit-requires-clause-call : goal.submit-requires-clause-call
submit-requires-clause-call g c =
    let h = g.H.SceneHost in is_call (h.scene c.args.host.now) c.requires.good (h.known c.args.seat.now) c.args.thread c.args.call.now c.args.down c.requires.may

pub submit-requires-clause-does : goal.submit-requires-clause-does
submit-requires-clause-does g c =
    sym c.host_call.ensures ∙ c.in-Submit.is

pub unlink-requires-clause-near : goal.unlink-requires-clause-near
unlink-requires-clause-near g c =
    let h = g.H.SceneHost in there (h.scene c.args.host.now) c.requires.good (h.known c.args.seat.now) c.args.thread c.args.call.now c.args.down c.requires.may (host_call.Unlink c.in-Unlink.urb) (sym c.host_call.ensures ∙ c.in-Unlink.is)

pub kill-requires-clause-near : goal.kill-requires-clause-near
kill-requires-clause-near g c =
    let h = g.H.SceneHost in there (h.scene c.args.host.now) c.requires.good (h.known c.args.seat.now) c.args.thread c.args.call.now c.args.down c.requires.may (host_call.Kill c.in-Kill.urb) (sym c.host_call.ensures ∙ c.in-Kill.is)

pub kill-requires-clause-few : goal.kill-requires-clause-few
kill-requires-clause-few g c =
    let h = g.H.SceneHost in few (h.scene c.args.host.now) c.requires.good (h.known c.args.seat.now) c.args.thread c.args.call.now c.args.down c.requires.may c.in-Kill.urb

pub poison-requires-clause-near : goal.poison-requires-clause-near
poison-requires-clause-near g c =
    let h = g.H.SceneHost in there (h.scene c.args.host.now) c.requires.good (h.known c.args.seat.now) c.args.thread c.args.call.now c.args.down c.requires.may (host_call.Poison c.in-Poison.urb) (sym c.host_call.ensures ∙ c.in-Poison.is)

pub poison-requires-clause-few : goal.poison-requires-clause-few
poison-requires-clause-few g c =
    let h = g.H.SceneHost in few (h.scene c.args.host.now) c.requires.good (h.known c.args.seat.now) c.args.thread c.args.call.now c.args.down c.requires.may c.in-Poison.urb

pub withdraw-requires-clause-near : goal.withdraw-requires-clause-near
withdraw-requires-clause-near g c =
    let h = g.H.SceneHost in there (h.scene c.args.host.now) c.requires.good (h.known c.args.seat.now) c.args.thread c.args.call.now c.args.down c.requires.may (host_call.Unpoison c.in-Unpoison.urb) (sym c.host_call.ensures ∙ c.in-Unpoison.is)

pub withdraw-requires-clause-held : goal.withdraw-requires-clause-held
withdraw-requires-clause-held g c =
    let h = g.H.SceneHost in held_unpoison (h.scene c.args.host.now) c.requires.good (h.known c.args.seat.now) c.args.thread c.args.call.now c.args.down c.requires.may c.in-Unpoison.urb (sym c.host_call.ensures ∙ c.in-Unpoison.is)

pub reject-requires-clause-near : goal.reject-requires-clause-near
reject-requires-clause-near g c =
    let h = g.H.SceneHost in there (h.scene c.args.host.now) c.requires.good (h.known c.args.seat.now) c.args.thread c.args.call.now c.args.down c.requires.may (host_call.Block c.in-Block.urb) (sym c.host_call.ensures ∙ c.in-Block.is)

pub reject-requires-clause-few : goal.reject-requires-clause-few
reject-requires-clause-few g c =
    let h = g.H.SceneHost in few (h.scene c.args.host.now) c.requires.good (h.known c.args.seat.now) c.args.thread c.args.call.now c.args.down c.requires.may c.in-Block.urb

pub withdraw-requires-in-Unblock-clause-near : goal.withdraw-requires-in-Unblock-clause-near
withdraw-requires-in-Unblock-clause-near g c =
    let h = g.H.SceneHost in there (h.scene c.args.host.now) c.requires.good (h.known c.args.seat.now) c.args.thread c.args.call.now c.args.down c.requires.may (host_call.Unblock c.in-Unblock.urb) (sym c.host_call.ensures ∙ c.in-Unblock.is)

pub withdraw-requires-in-Unblock-clause-held : goal.withdraw-requires-in-Unblock-clause-held
withdraw-requires-in-Unblock-clause-held g c =
    let h = g.H.SceneHost in held_unblock (h.scene c.args.host.now) c.requires.good (h.known c.args.seat.now) c.args.thread c.args.call.now c.args.down c.requires.may c.in-Unblock.urb (sym c.host_call.ensures ∙ c.in-Unblock.is)

pub returns-then-down-clause-called : goal.returns-then-down-clause-called
returns-then-down-clause-called g c =
    let h = g.H.SceneHost in down_refused (h.scene c.args.host.now) (h.known c.args.seat.now) c.args.thread c.args.call.now c.args.down c.requires.sound c.requires.may (sym c.host_call.ensures ∙ c.in-Down.is) c.if-down.true

pub take_down-requires-clause-hub : goal.take_down-requires-clause-hub
take_down-requires-clause-hub g c =
    let h = g.H.SceneHost in hub_down (h.scene c.args.host.now) c.requires.good (h.known c.args.seat.now) c.args.thread c.args.call.now c.args.down c.requires.may (sym c.host_call.ensures ∙ c.in-Down.is)

pub take_down-requires-clause-up : goal.take_down-requires-clause-up
take_down-requires-clause-up g c =
    let h = g.H.SceneHost in flags (h.scene c.args.host.now) c.requires.good (h.known c.args.seat.now) c.args.thread c.args.call.now c.args.down c.requires.may (hub_down (h.scene c.args.host.now) c.requires.good (h.known c.args.seat.now) c.args.thread c.args.call.now c.args.down c.requires.may (sym c.host_call.ensures ∙ c.in-Down.is)) false c.if-down.false

pub bring_up-requires-clause-hub : goal.bring_up-requires-clause-hub
bring_up-requires-clause-hub g c =
    let h = g.H.SceneHost in hub_up (h.scene c.args.host.now) c.requires.good (h.known c.args.seat.now) c.args.thread c.args.call.now c.args.down c.requires.may (sym c.host_call.ensures ∙ c.in-Up.is)

pub bring_up-requires-clause-down : goal.bring_up-requires-clause-down
bring_up-requires-clause-down g c =
    let h = g.H.SceneHost in flags (h.scene c.args.host.now) c.requires.good (h.known c.args.seat.now) c.args.thread c.args.call.now c.args.down c.requires.may (hub_up (h.scene c.args.host.now) c.requires.good (h.known c.args.seat.now) c.args.thread c.args.call.now c.args.down c.requires.may (sym c.host_call.ensures ∙ c.in-Up.is)) true c.if-down-2.true

pub returns-then-down-2-clause-called : goal.returns-then-down-2-clause-called
returns-then-down-2-clause-called g c =
    let h = g.H.SceneHost in up_called (h.scene c.args.host.now) (h.known c.args.seat.now) (h.known c.bring_up.new.seat) c.args.thread c.args.call.now c.args.down c.requires.sound c.requires.may (sym c.host_call.ensures ∙ c.in-Up.is) c.if-down-2.true c.bring_up.ensures.up

pub unreachable-requires : goal.unreachable-requires
unreachable-requires g c =
    let h = g.H.SceneHost in there (h.scene c.args.host.now) c.requires.good (h.known c.args.seat.now) c.args.thread c.args.call.now c.args.down c.requires.may host_call.Other (sym c.host_call.ensures ∙ c.in-Other.is)

pub returns-in_ok-code-in-Submit-clause-called : goal.returns-in_ok-code-in-Submit-clause-called
returns-in_ok-code-in-Submit-clause-called g c =
    let h = g.H.SceneHost in submit_called (h.scene c.args.host.now) (h.known c.args.seat.now) (h.known c.submit.new.seat) c.args.thread c.args.call.now c.args.down c.requires.sound c.requires.may c.in-Submit.urb c.in_ok-code-in-Submit.code (sym c.host_call.ensures ∙ c.in-Submit.is) c.in_ok-code-in-Submit.ensures.answer c.in_ok-code-in-Submit.ensures.sent

pub returns-in-Unlink-clause-called : goal.returns-in-Unlink-clause-called
returns-in-Unlink-clause-called g c =
    let h = g.H.SceneHost in unlink_called (h.scene c.args.host.now) (h.known c.args.seat.now) (h.known c.unlink.new.seat) c.args.thread c.args.call.now c.args.down c.requires.sound c.requires.may c.in-Unlink.urb c.unlink.result (sym c.host_call.ensures ∙ c.in-Unlink.is) c.unlink.ensures.marked

pub returns-in-Kill-clause-called : goal.returns-in-Kill-clause-called
returns-in-Kill-clause-called g c =
    let h = g.H.SceneHost in let k = c.kill.ensures.killed in kill_called (h.scene c.args.host.now) (h.known c.args.seat.now) (h.known c.kill.new.seat) c.args.thread c.args.call.now c.args.down c.requires.sound c.requires.may c.in-Kill.urb k.0 k.1 c.kill.result (sym c.host_call.ensures ∙ c.in-Kill.is) k.2 k.3 k.4

pub returns-in-Poison-clause-called : goal.returns-in-Poison-clause-called
returns-in-Poison-clause-called g c =
    let h = g.H.SceneHost in let k = c.poison.ensures.poisoned in poison_called (h.scene c.args.host.now) (h.known c.args.seat.now) (h.known c.poison.new.seat) c.args.thread c.args.call.now c.args.down c.requires.sound c.requires.may c.in-Poison.urb k.0 k.1 c.poison.result (sym c.host_call.ensures ∙ c.in-Poison.is) k.2 k.3 k.4

pub returns-in-Unpoison-clause-called : goal.returns-in-Unpoison-clause-called
returns-in-Unpoison-clause-called g c =
    let h = g.H.SceneHost in unpoison_called (h.scene c.args.host.now) (h.known c.args.seat.now) (h.known c.withdraw.new.seat) c.args.thread c.args.call.now c.args.down c.requires.sound c.requires.may c.in-Unpoison.urb (sym c.host_call.ensures ∙ c.in-Unpoison.is) c.withdraw.ensures.withdrawn

pub returns-in-Block-clause-called : goal.returns-in-Block-clause-called
returns-in-Block-clause-called g c =
    let h = g.H.SceneHost in block_called (h.scene c.args.host.now) (h.known c.args.seat.now) (h.known c.reject.new.seat) c.args.thread c.args.call.now c.args.down c.requires.sound c.requires.may c.in-Block.urb (sym c.host_call.ensures ∙ c.in-Block.is) c.reject.ensures.rejected

pub returns-in-Unblock-clause-called : goal.returns-in-Unblock-clause-called
returns-in-Unblock-clause-called g c =
    let h = g.H.SceneHost in unblock_called (h.scene c.args.host.now) (h.known c.args.seat.now) (h.known c.withdraw-in-Unblock.new.seat) c.args.thread c.args.call.now c.args.down c.requires.sound c.requires.may c.in-Unblock.urb (sym c.host_call.ensures ∙ c.in-Unblock.is) c.withdraw-in-Unblock.ensures.withdrawn

pub returns-in-Serve-clause-called : goal.returns-in-Serve-clause-called
returns-in-Serve-clause-called g c =
    let h = g.H.SceneHost in serve_called (h.scene c.args.host.now) (h.known c.args.seat.now) c.args.thread c.args.call.now c.args.down c.requires.sound c.requires.may (sym c.host_call.ensures ∙ c.in-Serve.is)

pub returns-in_ok-take_down-in-Down-clause-called : goal.returns-in_ok-take_down-in-Down-clause-called
returns-in_ok-take_down-in-Down-clause-called g c =
    let h = g.H.SceneHost in let d = c.in_ok-take_down-in-Down.ensures.down in down_called (h.scene c.args.host.now) (h.known c.args.seat.now) (h.known c.take_down.new.seat) c.args.thread c.args.call.now c.args.down c.requires.sound c.requires.may d.0 d.1 (sym c.host_call.ensures ∙ c.in-Down.is) c.if-down.false d.2 d.3 d.4 d.5

pub returns-else-down-2-clause-called : goal.returns-else-down-2-clause-called
returns-else-down-2-clause-called g c =
    let h = g.H.SceneHost in up_refused (h.scene c.args.host.now) (h.known c.args.seat.now) c.args.thread c.args.call.now c.args.down c.requires.sound c.requires.may (sym c.host_call.ensures ∙ c.in-Up.is) c.if-down-2.false

pub returns-in-Absent-clause-called : goal.returns-in-Absent-clause-called
returns-in-Absent-clause-called g c =
    let h = g.H.SceneHost in absent_called (h.scene c.args.host.now) (h.known c.args.seat.now) c.args.thread c.args.call.now c.args.down c.requires.sound c.requires.may (sym c.host_call.ensures ∙ c.in-Absent.is)
