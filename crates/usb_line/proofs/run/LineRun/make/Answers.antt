use Rattle.std.proofs.Common.{refl}
use Rattle.std.proofs.lemmas.Result.{IfOk-weaker}
use Rattle.usb_trace.specs.declared.rows.HostCall.TheVariants as host_call
use Rattle.usb_line.proofs.Calling.{is_there, may_make, may_hub}
use Rattle.usb_line.proofs.Submitted.{few_bytes}
use Rattle.usb_line.proofs.run.LineRun.make.Goals as goal

pub sent_by_call-requires-clause-bytes : goal.sent_by_call-requires-clause-bytes
sent_by_call-requires-clause-bytes c =
    let s = c.args.scene.now in let u = c.in-Submit.urb in
    few_bytes s c.requires.can.far c.args.thread c.args.call.now c.args.self.now c.pass_of_thread-pass.result u
    (may_make s c.requires.can.far c.args.thread c.args.call.now c.args.self.now c.pass_of_thread-pass.result (host_call.Submit u) c.requires.can.may (c.in-Submit.ensures c.args.scene.now c.requires.bound) c.pass_of_thread-pass.ensures)

pub submit-requires : goal.submit-requires
submit-requires c =
    let s = c.args.scene.now in let u = c.in-Submit.urb in
    let may = may_make s c.requires.can.far c.args.thread c.args.call.now c.args.self.now c.pass_of_thread-pass.result (host_call.Submit u) c.requires.can.may (c.in-Submit.ensures c.args.scene.now c.requires.bound) c.pass_of_thread-pass.ensures in
    record {
      scene = s;
      far = c.requires.can.far;
      thread = c.args.thread;
      call = c.args.call.now;
      may = may;
      is = c.in_ok-t-in-Submit.ensures;
    }

pub take_down-requires : goal.take_down-requires
take_down-requires c = record {
  scene = c.args.scene.now;
  far = c.requires.can.far;
  thread = c.args.thread;
  call = c.args.call.now;
  may = may_hub c.args.scene.now c.requires.can.far c.args.thread c.args.call.now c.args.self.now host_call.Down c.requires.can.may (c.in-Down.ensures c.args.scene.now c.requires.bound) refl;
}

pub bring_up-requires : goal.bring_up-requires
bring_up-requires c = record {
  scene = c.args.scene.now;
  far = c.requires.can.far;
  thread = c.args.thread;
  call = c.args.call.now;
  may = may_hub c.args.scene.now c.requires.can.far c.args.thread c.args.call.now c.args.self.now host_call.Up c.requires.can.may (c.in-Up.ensures c.args.scene.now c.requires.bound) refl;
}

pub returns-in-Serve : goal.returns-in-Serve
returns-in-Serve c = IfOk-weaker c.serve_all.result _ _ (λ told is f may. is c.args.scene.now f c.args.thread c.args.call.now c.pass_of_thread-pass.result
    (may_make c.args.scene.now f c.args.thread c.args.call.now c.args.self.now c.pass_of_thread-pass.result host_call.Serve may (c.in-Serve.ensures c.args.scene.now c.requires.bound) c.pass_of_thread-pass.ensures)) c.serve_all.ensures

pub returns-in-Down : goal.returns-in-Down
returns-in-Down c = IfOk-weaker c.take_down.result _ _ (λ told is f may. is c.args.scene.now f c.args.thread c.args.call.now
    (may_hub c.args.scene.now f c.args.thread c.args.call.now c.args.self.now host_call.Down may (c.in-Down.ensures c.args.scene.now c.requires.bound) refl)) c.take_down.ensures

pub returns-in-Up : goal.returns-in-Up
returns-in-Up c f may = c.bring_up.ensures c.args.scene.now f c.args.thread c.args.call.now (may_hub c.args.scene.now f c.args.thread c.args.call.now c.args.self.now host_call.Up may (c.in-Up.ensures c.args.scene.now c.requires.bound) refl)

pub returns-in-Absent : goal.returns-in-Absent
returns-in-Absent c f may = c.refuse.ensures c.args.scene.now f c.args.thread c.args.call.now c.pass_of_thread-pass.result
    (may_make c.args.scene.now f c.args.thread c.args.call.now c.args.self.now c.pass_of_thread-pass.result host_call.Absent may (c.in-Absent.ensures c.args.scene.now c.requires.bound) c.pass_of_thread-pass.ensures)

pub returns-in-Other : goal.returns-in-Other
returns-in-Other c f may = absurd (is_there c.args.scene.now f c.args.thread c.args.call.now c.args.self.now c.pass_of_thread-pass.result host_call.Other
    (may_make c.args.scene.now f c.args.thread c.args.call.now c.args.self.now c.pass_of_thread-pass.result host_call.Other may (c.in-Other.ensures c.args.scene.now c.requires.bound) c.pass_of_thread-pass.ensures))
