use Rattle.std.proofs.Common.{true, false, [], sym, ap, ◌∙◌, subst}
use Rattle.usb_ctrl.specs.declared.setup.Setup.{Setup}
use Rattle.usb_xfer.specs.Direction.{ControlIn, ControlOut, goes_in}
use Rattle.usb_xfer.specs.Replies.{Ask}
use Rattle.usb_xfer.specs.Control.{window_of}
use Rattle.usb_xfer.proofs.Ways.{control_way, control_at, went}
use Rattle.usb_xfer.proofs.control.move_control.Goals as goal

pub returns-then-is_in : goal.returns-then-is_in
returns-then-is_in g c =
    let e = c.move_control_in.ensures in let shape = c.args.shape.now in let t = c.args.t.now in let s = c.setup_in-setup.ensures in
    let w = went (g.D.Device.replies c.args.device.now) shape t c.move_control_in.new.t ControlIn 0 e.0 c.move_control_in.new.device c.move_control_in.result
    (control_way shape t c.requires.kind true (ap (λ (x : Setup). goes_in x.kind) (sym s) ∙ (sym c.is_in.ensures ∙ c.if-is_in.true))) (control_at shape c.requires.kind)
    (subst (λ (x : Setup). g.D.Device.replies c.args.device.now 0 (Ask x []) e.0 c.move_control_in.new.device) s e.1) e.2 e.3 in
    (e.0, w.0, w.1)

pub returns-else-is_in : goal.returns-else-is_in
returns-else-is_in g c =
    let e = c.move_control_out.ensures in let shape = c.args.shape.now in let t = c.args.t.now in let s = c.setup_in-setup.ensures in
    let w = went (g.D.Device.replies c.args.device.now) shape t c.move_control_out.new.t ControlOut 0 e.0 c.move_control_out.new.device c.move_control_out.result
    (control_way shape t c.requires.kind false (ap (λ (x : Setup). goes_in x.kind) (sym s) ∙ (sym c.is_in.ensures ∙ c.if-is_in.false))) (control_at shape c.requires.kind)
    (subst (λ (x : Setup). g.D.Device.replies c.args.device.now 0 (Ask x (window_of c.args.t.now)) e.0 c.move_control_out.new.device) s e.1) e.2 e.3 in
    (e.0, w.0, w.1)
