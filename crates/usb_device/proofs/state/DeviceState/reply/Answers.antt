use Rattle.std.proofs.Common.{ℕ, ◌≡◌, Bool, true, false, cond, Option, Some, None, List, length, refl, sym, ap, ◌∙◌, subst}
use Rattle.usb_ctrl.specs.declared.setup.Setup.{Setup}
use Rattle.usb_xfer.specs.Direction.{goes_in}
use Rattle.usb_xfer.specs.Replies.{Reply, HearsControl, control_room, control_heard}
use Rattle.usb_xfer.specs.declared.script.DeviceScript.{DeviceScript}
use Rattle.usb_xfer.specs.declared.script.What.TheVariants.{Ack, Stall}
use Rattle.usb_xfer.specs.declared.device.CtrlReply.{CtrlReply}
use Rattle.usb_xfer.specs.declared.device.CtrlReply.TheVariants as ctrl_reply
use Rattle.usb_device.specs.declared.state.DeviceState.{DeviceState}
use Rattle.usb_device.specs.Rules.{Ruled, gives, given, taken, takes, control_rule}
use Rattle.usb_device.specs.Took.{Took}
use Rattle.usb_device.proofs.state.DeviceState.reply.Goals as goal

-- data that go out leave the room
hears_out : (s : Setup) (out room : List ℕ) (r : Reply) (heard : CtrlReply) → goes_in s.kind ≡ false → heard ≡ control_heard false (length out) r → HearsControl s out r room room heard
hears_out s out room r heard e h = record {
  room = subst (λ (b : Bool). room ≡ control_room b r room) (sym e) refl;
  heard = subst (λ (b : Bool). heard ≡ control_heard b (length out) r) (sym e) h;
}

-- the rule of a transfer whose data go out
goes_out : (script : DeviceScript) (state : DeviceState) (s : Setup) (out : List ℕ) → goes_in s.kind ≡ false → control_rule script state s out ≡ takes state (taken script state s out)
goes_out script state s out e = ap (λ b. cond b (gives state s.length (given script state s)) (takes state (taken script state s out))) e

done : (o : Option DeviceState) (old new : DeviceState) → Took o old new true → takes old o ≡ record { reply = Ack; state = new }
done (Some next) old new t = ap (λ (n : DeviceState). let r : Ruled = record { reply = Ack; state = n } in r) (sym t.1)
done None old new t = cc

refused : (o : Option DeviceState) (old new : DeviceState) → Took o old new false → takes old o ≡ record { reply = Stall; state = new }
refused (Some next) old new t = cc
refused None old new t = ap (λ (n : DeviceState). let r : Ruled = record { reply = Stall; state = n } in r) (sym t.1)

pub returns-then-take-clause-state : goal.returns-then-take-clause-state
returns-then-take-clause-state c =
    let out : goes_in c.args.setup.kind ≡ false = sym c.is_in.ensures ∙ c.if-is_in.false in
    let took = subst (λ (b : Bool). Took (taken c.args.script.now c.args.self.now c.args.setup c.args.out.now) c.args.self.now c.take.new.self b) c.if-take.true c.take.ensures in
    sym (ap (λ (r : Ruled). r.state) (goes_out c.args.script.now c.args.self.now c.args.setup c.args.out.now out ∙ done (taken c.args.script.now c.args.self.now c.args.setup c.args.out.now) c.args.self.now c.take.new.self took))

pub returns-then-take-clause-heard : goal.returns-then-take-clause-heard
returns-then-take-clause-heard c =
    let out : goes_in c.args.setup.kind ≡ false = sym c.is_in.ensures ∙ c.if-is_in.false in
    let took = subst (λ (b : Bool). Took (taken c.args.script.now c.args.self.now c.args.setup c.args.out.now) c.args.self.now c.take.new.self b) c.if-take.true c.take.ensures in
    let is = goes_out c.args.script.now c.args.self.now c.args.setup c.args.out.now out ∙ done (taken c.args.script.now c.args.self.now c.args.setup c.args.out.now) c.args.self.now c.take.new.self took in
    hears_out c.args.setup c.args.out.now c.args.room.now (control_rule c.args.script.now c.args.self.now c.args.setup c.args.out.now).reply (ctrl_reply.Moved (length c.args.out.now)) out
    (ap (λ (r : Ruled). control_heard false (length c.args.out.now) r.reply) (sym is))

pub returns-else-take-clause-state : goal.returns-else-take-clause-state
returns-else-take-clause-state c =
    let out : goes_in c.args.setup.kind ≡ false = sym c.is_in.ensures ∙ c.if-is_in.false in
    let took = subst (λ (b : Bool). Took (taken c.args.script.now c.args.self.now c.args.setup c.args.out.now) c.args.self.now c.take.new.self b) c.if-take.false c.take.ensures in
    sym (ap (λ (r : Ruled). r.state) (goes_out c.args.script.now c.args.self.now c.args.setup c.args.out.now out ∙ refused (taken c.args.script.now c.args.self.now c.args.setup c.args.out.now) c.args.self.now c.take.new.self took))

pub returns-else-take-clause-heard : goal.returns-else-take-clause-heard
returns-else-take-clause-heard c =
    let out : goes_in c.args.setup.kind ≡ false = sym c.is_in.ensures ∙ c.if-is_in.false in
    let took = subst (λ (b : Bool). Took (taken c.args.script.now c.args.self.now c.args.setup c.args.out.now) c.args.self.now c.take.new.self b) c.if-take.false c.take.ensures in
    let is = goes_out c.args.script.now c.args.self.now c.args.setup c.args.out.now out ∙ refused (taken c.args.script.now c.args.self.now c.args.setup c.args.out.now) c.args.self.now c.take.new.self took in
    hears_out c.args.setup c.args.out.now c.args.room.now (control_rule c.args.script.now c.args.self.now c.args.setup c.args.out.now).reply ctrl_reply.Stall out
    (ap (λ (r : Ruled). control_heard false (length c.args.out.now) r.reply) (sym is))
