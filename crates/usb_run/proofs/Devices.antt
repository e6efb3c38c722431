-- How many devices are reported.
use Rattle.std.proofs.Common.{ℕ, ◌+◌, ◌<◌, ◌≤◌, ◌^◌, List, [], ◌∷◌, length, arith}
use Rattle.usb_scene.specs.declared.scene.Scene.{Scene}
use Rattle.usb_scene.specs.declared.scene.SceneDevice.{SceneDevice}
use Rattle.usb_scene.specs.WellFormed.{IsWellFormed}
use Rattle.usb_prepare.specs.declared.found.Probe.{Probe}
use Rattle.usb_prepare.specs.Prepared.{found_from, found_of, probes_of}

module _ (s : Scene) where
  no_more : (d : ℕ) (devices : List SceneDevice) (probes : List (List Probe)) → length (found_from (probes_of s).board d devices probes) ≤ length devices
  no_more d [] [] = omega arith
  no_more d [] (went ∷ probes) = omega arith
  no_more d (device ∷ devices) [] = omega arith
  no_more d (device ∷ devices) (went ∷ probes) = let rest = no_more (d + 1) devices probes in omega arith

  -- they are no more than the scene's
  pub few_found : IsWellFormed s → length (found_of s) < 2 ^ 32
  unfolding found_of
  few_found good = let few = no_more 0 s.devices (probes_of s).probes in let all = good.few_devices in omega arith
