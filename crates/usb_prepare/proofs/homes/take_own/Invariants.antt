use Rattle.std.proofs.Common.{◌≡◌, map, take, fold}
use Rattle.usb_machine.specs.History.{or_zero}
use Rattle.usb_bind.specs.Pool.{taken}
use Rattle.usb_scene.specs.declared.scene.SceneUrb.{SceneUrb}
use Rattle.usb_prepare.specs.Ends.{home_at}
use Rattle.usb_prepare.proofs.homes.take_own.Given as goal

abbrev pub invariant-loop-urb : goal.invariant-loop-urb
invariant-loop-urb l = l.pool ≡ fold taken l.fn.pool (map (λ (u : SceneUrb). or_zero (home_at l.scene u)) (take l.urb-index l.scene.urbs))
