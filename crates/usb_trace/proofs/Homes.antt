-- In a well-formed scene each URB has a home, and the home of one of its own takes what a submit sends where its shape has no
-- fault.
use Rattle.std.proofs.Common.{ℕ, zero, suc, ◌≡◌, ◌<◌, ◌≤◌, true, replicate, Option, Some, None, List, [], ◌∷◌, length, sym, subst, arith}
use Rattle.std.specs.Prelude.{slice_get}
use Rattle.std.specs.List.{All}
use Rattle.std.proofs.lemmas.List.{length-replicate}
use Rattle.usb_machine.specs.declared.layout.Shape.{Shape}
use Rattle.usb_machine.specs.Shapes.{HasWindow, Accepts}
use Rattle.usb_machine.specs.History.{HasHome}
use Rattle.usb_xfer.specs.Direction.{asked_at}
use Rattle.usb_class.specs.InterfaceOps.{payload_for, window_for}
use Rattle.usb_scene.specs.declared.operation.Operation.{Operation}
use Rattle.usb_scene.specs.declared.operation.Operation.TheVariants as op
use Rattle.usb_scene.specs.declared.operation.InterfaceOp.{InterfaceOp}
use Rattle.usb_scene.specs.declared.operation.InterfaceOp.TheVariants as on
use Rattle.usb_scene.specs.Operation.{operation_of}
use Rattle.usb_scene.specs.declared.scene.Scene.{Scene}
use Rattle.usb_scene.specs.declared.scene.SceneUrb.{SceneUrb}
use Rattle.usb_scene.specs.declared.scene.Call.{Call}
use Rattle.usb_scene.specs.declared.scene.Target.{Target}
use Rattle.usb_scene.specs.declared.scene.Target.TheVariants as target
use Rattle.usb_scene.specs.WellFormed.{IsUrb, IsBuffer, IsWellFormed}
use Rattle.usb_prepare.specs.Ends.{shapes_of, shape_at, is_raw_at}
use Rattle.usb_prepare.specs.Layout.{urb_count, home}
use Rattle.usb_prepare.proofs.Facts as facts
use Rattle.usb_trace.proofs.CoresSeen.{some_at}
use Rattle.usb_trace.specs.Plan.{machine_of, len_in, buffer_of, interface_payload, interface_window, payload_by, window_by, fresh, submit_fault}

-- what a call sends to an interface is no longer than what it says, or short
small_for : (asked : InterfaceOp) (said : Option (List ℕ)) → IsBuffer said → IsBuffer (payload_for asked said)
small_for (on.Led lights) said is = is
small_for on.Write said is = is
small_for (on.Coding rate stop parity bits) said is = omega arith
small_for (on.Control lines) said is = omega arith
small_for (on.SendBreak ms) said is = omega arith
small_for on.Print said is = is
small_for on.Status said is = omega arith
small_for on.SoftReset said is = omega arith

small : (said : Option (List ℕ)) (o : Operation) → IsBuffer said → IsBuffer (interface_payload said o)
small said (op.Interface asked) is = small_for asked said is
small said op.Submit is = is
small said op.Unlink is = is
small said op.Kill is = is
small said op.Poison is = is
small said op.Unpoison is = is
small said op.Block is = is
small said op.Unblock is = is
small said op.Serve is = is
small said op.Down is = is
small said op.Up is = is
small said (op.Unbuilt code) is = is

payload_few : (c : Call) (t : Target) → IsBuffer c.bytes → IsBuffer (payload_by t c)
payload_few c (target.Interface d i) is = small c.bytes (operation_of c) is
payload_few c target.Nothing is = is
payload_few c (target.Urb u) is = is
payload_few c (target.Role d i r) is = is
payload_few c (target.Anchor a) is = is
payload_few c (target.Device d) is = is

-- a call's window lies in its buffer
least_for : (asked : InterfaceOp) (n : ℕ) → window_for asked n ≤ n
least_for on.Print n = omega arith
least_for (on.Led lights) n = omega arith
least_for on.Write n = omega arith
least_for (on.Coding rate stop parity bits) n = omega arith
least_for (on.Control lines) n = omega arith
least_for (on.SendBreak ms) n = omega arith
least_for on.Status n = omega arith
least_for on.SoftReset n = omega arith

least : (o : Operation) (n : ℕ) → interface_window n o ≤ n
least (op.Interface asked) n = least_for asked n
least op.Submit n = omega arith
least op.Unlink n = omega arith
least op.Kill n = omega arith
least op.Poison n = omega arith
least op.Unpoison n = omega arith
least op.Block n = omega arith
least op.Unblock n = omega arith
least op.Serve n = omega arith
least op.Down n = omega arith
least op.Up n = omega arith
least (op.Unbuilt code) n = omega arith

window_few : (c : Call) (t : Target) (n : ℕ) → window_by t c n ≤ n
window_few c (target.Interface d i) n = least (operation_of c) n
window_few c target.Nothing n = omega arith
window_few c (target.Urb u) n = omega arith
window_few c (target.Role d i r) n = omega arith
window_few c (target.Anchor a) n = omega arith
window_few c (target.Device d) n = omega arith

module _ (s : Scene) (good : IsWellFormed s) (u : ℕ) where
  -- each URB has a home, which has a shape
  module _ (near : u < urb_count s) where
    pub has_home : HasHome (machine_of s) u
    has_home = (home s u, facts.has_home s good u near)

    pub home_shape : slice_get (shapes_of s) (home s u) ≡ Some (shape_at s (home s u))
    home_shape = facts.end_shape s (home s u) (facts.home_near s good u near)

  -- one of the scene's own
  module _ (near : u < length s.urbs) where
    pub own_near : u < urb_count s
    own_near = let l = facts.own_urbs s good in omega arith

    -- the home is on a raw device, and asked at its address
    pub home_raw : is_raw_at s (shape_at s (home s u)).device ≡ true
    home_raw = let at = some_at s.urbs u near in facts.scripted_raw s good u at.0 at.1

    pub home_asked : asked_at (shape_at s (home s u)) ≡ (shape_at s (home s u)).address
    home_asked = facts.raw_asked s good (home s u) home_raw

  -- where a submit's shape has no fault, the home takes its transfer
  pub home_takes : u < urb_count s → (c : Call) → submit_fault s u c ≡ None → Accepts (slice_get (shapes_of s) (home s u)) (fresh s u c)
  home_takes near c e = subst (λ (o : Option Shape). Accepts o (fresh s u c)) (sym (home_shape near)) e

  short : (us : List SceneUrb) → All (IsUrb s) us → (u : ℕ) → len_in (slice_get us u) ≤ 16384
  short [] a u = omega arith
  short (x ∷ us) a zero = (a zero x (omega arith)).len
  short (x ∷ us) a (suc u) = short us (λ k d m. a (suc k) d (omega arith)) u

  -- a submit's buffer is short
  pub fresh_long : (c : Call) → IsBuffer c.bytes → length (buffer_of (len_in (slice_get s.urbs u)) (payload_by c.target c)) ≤ 16384
  fresh_long c b = long (payload_by c.target c) (payload_few c c.target b)
    where
      long : (o : Option (List ℕ)) → IsBuffer o → length (buffer_of (len_in (slice_get s.urbs u)) o) ≤ 16384
      long None b = let is : length (replicate {A = ℕ} (len_in (slice_get s.urbs u)) 0) ≡ len_in (slice_get s.urbs u) = length-replicate (len_in (slice_get s.urbs u)) 0 in
          let most = short s.urbs good.urbs u in omega arith
      long (Some bytes) b = b

  -- and the window of its transfer lies in it
  pub fresh_window : (c : Call) → IsBuffer c.bytes → HasWindow (fresh s u c)
  fresh_window c b = let l = fresh_long c b in let few = window_few c c.target (length (fresh s u c).buf) in record { window = omega arith; buffer = omega arith; within = omega arith }
