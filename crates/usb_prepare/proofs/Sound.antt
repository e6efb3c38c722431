-- The configuration of an attached device is one that some bytes spell.
use Rattle.std.proofs.Common.{ℕ, zero, suc, ◌≡◌, ◌<◌, Bool, true, false, cond, eqb, Option, Some, None, Result, Ok, Err, List, [], ◌∷◌, length, take, refl, ap, subst}
use Rattle.std.specs.Prelude.{slice_index, nat_lt, bytes_eq}
use Rattle.std.specs.Result.{result_map_both}
use Rattle.std.specs.List.{AllByRecursion}
use Rattle.std.proofs.lemmas.List.Elements.{All-head, All-tail}
use Rattle.usb_text.specs.Written.{AreBytes}
use Rattle.usb_desc.specs.declared.fault.DescFault.{DescFault}
use Rattle.usb_desc.specs.declared.fault.DescFault.TheVariants.{Short, BadLength, BadType}
use Rattle.usb_desc.specs.declared.device.DeviceDesc.{DeviceDesc}
use Rattle.usb_desc.specs.declared.tree.ConfigTree.{ConfigTree}
use Rattle.usb_desc.specs.Good.{IsByte, IsGood}
use Rattle.usb_desc.specs.Device.{device_of}
use Rattle.usb_desc.specs.Read.{tree_of}
use Rattle.usb_desc.proofs.Found.{tree_found}
use Rattle.usb_ctrl.specs.declared.fault.EnumFault.{EnumFault}
use Rattle.usb_ctrl.specs.declared.fault.EnumFault.TheVariants.{Descriptor, Changed}
use Rattle.usb_ctrl.specs.Setup.{word}
use Rattle.usb_ctrl.specs.declared.enumerator.Attached.{Attached}
use Rattle.usb_ctrl.specs.declared.stage.Stage.{Stage}
use Rattle.usb_ctrl.specs.declared.stage.Stage.TheVariants.{Fresh, Begun, Addressed, Described, Measured, Known, Done, Failed}
use Rattle.usb_ctrl.specs.Enumeration.{then_by, heard, unchanged, measured, fault_of, end_of}
use Rattle.usb_xfer.specs.declared.script.DeviceScript.{DeviceScript}
use Rattle.usb_scene.specs.declared.scene.SceneDevice.{SceneDevice}
use Rattle.usb_scene.specs.WellFormed.{AreGiven, is_raw, IsDevice}
use Rattle.usb_prepare.specs.Enumerated.{desc_of, config_said, one_more, after, enumerated, attached_in, attached_of}
use Rattle.usb_prepare.specs.Ends.{attached_as, address_of}

-- a configuration that the stage has comes from some bytes of the script's
abbrev pub Says : DeviceScript → ConfigTree → Type 0
Says script c = (n : ℕ) × (bytes : List ℕ) × (script.config ≡ Some bytes) × (tree_of (take n bytes) ≡ Ok c)

abbrev pub IsSaid : DeviceScript → Stage → Type 0
IsSaid script (Known device c) = Says script c
IsSaid script (Done device c) = Says script c
IsSaid script _ = Unit {0}

pub ok_in : {X E : Type 0} (b : Bool) (x next : X) (e : E) → cond {A = Result X E} b (Ok x) (Err e) ≡ Ok next → x ≡ next
ok_in true x next e is = cc
ok_in false x next e is = cc

pub then_in : {X Y : Type 0} (f : X → Result Y EnumFault) (r : Result X EnumFault) (next : Y) → then_by f r ≡ Ok next → (x : X) × (r ≡ Ok x) × (f x ≡ Ok next)
then_in f (Ok x) next is = (x, refl, is)
then_in f (Err e) next is = cc

pub known_in : (device : DeviceDesc) (r : Result ConfigTree DescFault) (next : Stage) → result_map_both (Known device) fault_of r ≡ Ok next → (c : ConfigTree) × (r ≡ Ok c) × (Known device c ≡ next)
known_in device (Ok c) next is = (c, refl, cc)
known_in device (Err e) next is = cc

pub measured_in : (device : DeviceDesc) (reply : List ℕ) (next : Stage) → measured device reply ≡ Ok next → (total : ℕ) × (Measured device total ≡ next)
measured_in device reply next is = go (eqb (length reply) 9) (nat_lt (slice_index reply 0) 9) (eqb (slice_index reply 1) 2) is
  where
    total : ℕ
    total = word (slice_index reply 2) (slice_index reply 3)

    go : (a b c : Bool) → cond {A = Result Stage EnumFault} a (cond b (Err (Descriptor (BadLength 0))) (cond c (Ok (Measured device total)) (Err (Descriptor (BadType 0))))) (Err (Descriptor (Short (length reply)))) ≡ Ok next
        → (total : ℕ) × (Measured device total ≡ next)
    go true true c e = cc
    go true false true e = (total, cc)
    go true false false e = cc
    go false b c e = cc

module _ (script : DeviceScript) (address : ℕ) where
  with_config : (o : Option (List ℕ)) (device : DeviceDesc) (n : ℕ) (next : Stage) → script.config ≡ o
      → heard address (Measured device n) (config_said o n).reply (config_said o n).code ≡ Ok next → IsSaid script next
  with_config None device n next at is = cc
  with_config (Some bytes) device n next at is =
      let known = known_in device (tree_of (take n bytes)) next is in
      subst (IsSaid script) known.2 (n, bytes, at, known.1)

  with_head : (o : Option (List ℕ)) (device : DeviceDesc) (next : Stage) → heard address (Described device) (config_said o 9).reply (config_said o 9).code ≡ Ok next → IsSaid script next
  with_head None device next is = cc
  with_head (Some bytes) device next is = subst (IsSaid script) (measured_in device (take 9 bytes) next is).1 tt

  one_step : (stage next : Stage) → IsSaid script stage → one_more script address stage ≡ Ok next → IsSaid script next
  one_step Fresh next so is = subst (IsSaid script) (ok_in (eqb (length (take 8 (desc_of script))) 8) (Begun (take 8 (take 8 (desc_of script)))) next (Descriptor (Short (length (take 8 (desc_of script))))) is) tt
  one_step (Begun head) next so is = let same : Addressed head ≡ next = cc in subst (IsSaid script) same tt
  one_step (Addressed head) next so is =
      let reply = take 18 (desc_of script) in
      let read = then_in (unchanged head (take 8 reply)) (result_map_both (λ d. d) fault_of (device_of reply)) next is in
      subst (IsSaid script) (ok_in (bytes_eq (take 8 reply) head) (Described read.0) next (Changed head (take 8 reply)) read.2) tt
  one_step (Described device) next so is = with_head script.config device next is
  one_step (Measured device total) next so is = with_config script.config device total next refl is
  one_step (Known device c) next so is = let same : Done device c ≡ next = cc in subst (IsSaid script) same so
  one_step (Done device c) next so is = let same : Done device c ≡ next = cc in subst (IsSaid script) same so
  one_step Failed next so is = let same : Failed ≡ next = cc in subst (IsSaid script) same tt

  pub reached : (n : ℕ) (stage : Stage) → after script address n ≡ Ok stage → IsSaid script stage
  reached zero stage is = let same : Fresh ≡ stage = cc in subst (IsSaid script) same tt
  reached (suc n) stage is = let before = then_in (one_more script address) (after script address n) stage is in
      one_step before.0 stage (reached n before.0 before.1) before.2

  end_says : (stage : Stage) (a : Attached) → IsSaid script stage → end_of address stage ≡ Some a → Says script a.config
  end_says (Done device c) a so is = let same : c ≡ a.config = ap (λ (o : Option Attached). config_in o) is in subst (Says script) same so
    where
      config_in : Option Attached → ConfigTree
      config_in None = c
      config_in (Some x) = x.config
  end_says Fresh a so is = cc
  end_says (Begun head) a so is = cc
  end_says (Addressed head) a so is = cc
  end_says (Described device) a so is = cc
  end_says (Measured device total) a so is = cc
  end_says (Known device c) a so is = cc
  end_says Failed a so is = cc

  result_says : (r : Result Stage EnumFault) (a : Attached) → ((stage : Stage) → r ≡ Ok stage → IsSaid script stage) → attached_in address r ≡ Some a → Says script a.config
  result_says (Ok stage) a so is = end_says stage a (so stage refl) is
  result_says (Err fault) a so is = cc

  pub attached_says : (a : Attached) → attached_of script address ≡ Some a → Says script a.config
  unfolding enumerated
  attached_says a is = result_says (after script address 6) a (reached 6) is

pub all_by : (bytes : List ℕ) (n : ℕ) → AreBytes bytes → AllByRecursion IsByte (take n bytes)
all_by [] zero is = tt
all_by [] (suc n) is = tt
all_by (b ∷ bytes) zero is = tt
all_by (b ∷ bytes) (suc n) is = (All-head (λ (b : ℕ). b < 256) b bytes is, all_by bytes n (All-tail (λ (b : ℕ). b < 256) b bytes is))

pub attached_good : (d : ℕ) (device : SceneDevice) (a : Attached) → IsDevice d device → attached_as d device ≡ Some a → IsGood a.config
unfolding attached_as
attached_good d device a is at = go (is_raw device.script.kind) at
  where
    go : (b : Bool) → cond b None (attached_of device.script (address_of d)) ≡ Some a → IsGood a.config
    go true e = cc
    go false e =
        let says = attached_says device.script (address_of d) a e in
        let bytes = says.1 in
        let given : AreGiven 65535 (Some bytes) = subst (AreGiven 65535) says.2 is.own.config in
        (tree_found (take says.0 bytes) a.config (all_by bytes says.0 given.0) says.3).0
