use Rattle.std.proofs.Common.{true, false, sym, ◌∙◌}
use Rattle.usb_xfer.specs.Direction.{In, Out}
use Rattle.usb_xfer.proofs.Ways.{packet_way, packet_at, went}
use Rattle.usb_xfer.proofs.packet.move_packet.Goals as goal

pub returns-then-is_in : goal.returns-then-is_in
returns-then-is_in g c =
    let e = c.move_in.ensures in let shape = c.args.shape.now in let t = c.args.t.now in
    let w = went (g.D.Device.replies c.args.device.now) shape t c.move_in.new.t In shape.address e.0 c.move_in.new.device c.move_in.result
    (packet_way shape t c.requires.kind true (sym c.is_in.ensures ∙ c.if-is_in.true)) (packet_at shape c.requires.kind) e.1 e.2 e.3 in
    (e.0, w.0, w.1)

pub returns-else-is_in : goal.returns-else-is_in
returns-else-is_in g c =
    let e = c.move_out.ensures in let shape = c.args.shape.now in let t = c.args.t.now in
    let w = went (g.D.Device.replies c.args.device.now) shape t c.move_out.new.t Out shape.address e.0 c.move_out.new.device c.move_out.result
    (packet_way shape t c.requires.kind false (sym c.is_in.ensures ∙ c.if-is_in.false)) (packet_at shape c.requires.kind) e.1 e.2 e.3 in
    (e.0, w.0, w.1)
