use Rattle.std.proofs.Common.{◌∙◌}
use Rattle.usb_threads.proofs.Turns.{controlled_none, turned_on}
use Rattle.usb_threads.proofs.controller.control.Goals as goal

pub loop-turn-init : goal.loop-turn-init
loop-turn-init g c =
    let h = g.H.SceneHost in let host = c.args.host.now in
    (tt, tt, c.requires.here, controlled_none (h.scene host) (h.own c.args.server) c.requires.idle (h.after host c.args.server) c.requires.after c.of.result (c.of.ensures ∙ c.new.ensures.items))

pub loop-turn-preserved : goal.loop-turn-preserved
loop-turn-preserved g c =
    let h = g.H.SceneHost in let host = c.args.host.now in (
      tt,
      tt,
      c.turn-one.ensures.serves,
      turned_on (h.scene host) (h.own c.args.server) c.requires.idle (h.after host c.loop-turn.server) (h.after host c.turn-one.new.server) (h.own c.loop-turn.server) (h.own c.turn-one.new.server)
          c.loop-turn.given c.turn-one.result.given c.note-given.result c.loop-turn.invariant.3 c.turn-one.ensures.turned c.note-given.ensures,
    )
