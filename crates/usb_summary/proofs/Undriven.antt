-- Where all devices are raw, no driver has an URB, keeps a read, or asks a question.
use Rattle.std.proofs.Common.{ℕ, ◌≡◌, ◌+◌, Bool, true, cond, List, [], ◌∷◌, ◌++◌, Option, None, refl, ap, ◌∙◌}
use Rattle.std.specs.List.{flat_map, list_all}
use Rattle.std.proofs.lemmas.Bool.{and_parts}
use Rattle.usb_ctrl.specs.declared.enumerator.Attached.{Attached}
use Rattle.usb_bind.specs.Board.{BoardValue}
use Rattle.usb_bind.specs.declared.bound.Bound.{Bound}
use Rattle.usb_machine.specs.declared.transfer.Transfer.{Transfer}
use Rattle.usb_scene.specs.WellFormed.{is_raw}
use Rattle.usb_scene.specs.declared.scene.Scene.{Scene}
use Rattle.usb_scene.specs.declared.scene.SceneDevice.{SceneDevice}
use Rattle.usb_prepare.specs.Ends.{address_of, attached_as}
use Rattle.usb_prepare.specs.Enumerated.{attached_of}
use Rattle.usb_prepare.specs.Prepared.{Probes, board_of, pool_of, enumeration_of, probing_from, probed_device, with_device, probed_from, probes_of, bindings_of}
use Rattle.usb_class.specs.declared.owner.Owner.{Owner}
use Rattle.usb_trace.specs.Plan.{owner_from, owner_of, owner_question, question_at, read_by, read_of, number_of}
use Rattle.usb_trace.specs.Run.{urbs_of, read_entries_by, read_entries, opening}

abbrev pub are_raw : List SceneDevice → Bool
are_raw devices = list_all (λ (device : SceneDevice). is_raw device.script.kind) devices

-- a raw device is not probed
probed_raw : (d : ℕ) (devices : List SceneDevice) (w : Probes) → are_raw devices ≡ true → (probed_from d devices w).board ≡ w.board
unfolding attached_as
probed_raw d [] w raw = refl
probed_raw d (device ∷ devices) w raw =
    let both = and_parts (is_raw device.script.kind) (are_raw devices) raw in
    let none : attached_as d device ≡ None = ap (λ b. cond b None (attached_of device.script (address_of d))) both.0 in
    probed_raw (d + 1) devices (with_device w (probed_device d device.script (attached_as d device) (probing_from w (enumeration_of d device)))) both.1
    ∙ ap (λ (o : Option Attached). (probed_device d device.script o (probing_from w (enumeration_of d device))).board) none

module _ (s : Scene) (raw : are_raw s.devices ≡ true) where
  none_bound : bindings_of s ≡ []
  unfolding probes_of
  none_bound = ap (λ (b : BoardValue). b.bindings) (probed_raw 0 s.devices (record { board = board_of s; pool = pool_of s; heard = []; probes = []; ids = [] }) raw)

  none_owned : (u : ℕ) → owner_of s u ≡ None
  unfolding owner_of
  none_owned u = ap (λ (l : List Bound). owner_from (probes_of s).board 0 l u) none_bound

  pub none_asked : (u : ℕ) → question_at s u ≡ None
  unfolding question_at
  none_asked u = ap (owner_question s) (none_owned u)

  none_read : (u : ℕ) → read_of s u ≡ None
  none_read u = ap (λ (o : Option Owner). read_by o (number_of s u)) (none_owned u)

  nothing_read : (us : List ℕ) → flat_map (read_entries s) us ≡ []
  nothing_read [] = refl
  nothing_read (u ∷ us) = ap (λ (t : Option Transfer). read_entries_by s u t ++ flat_map (read_entries s) us) (none_read u) ∙ nothing_read us

  -- main submits nothing before the threads begin
  pub opens_empty : opening s ≡ []
  opens_empty = nothing_read (urbs_of s)
