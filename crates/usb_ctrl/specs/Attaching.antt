-- The answers with which a device is enumerated.
use Rattle.std.specs.Prelude.{◌≡◌, ◌≤◌, List, [], ◌∷◌, length, take, slice_index, Ok}
use Rattle.std.specs.List.{AllByRecursion}
use Rattle.usb_types.specs.declared.errno.Code.TheVariants.{Zero}
use Rattle.usb_desc.specs.declared.device.DeviceDesc.{DeviceDesc}
use Rattle.usb_desc.specs.declared.tree.ConfigTree.{ConfigTree}
use Rattle.usb_desc.specs.Device.{device_of}
use Rattle.usb_desc.specs.Read.{tree_of}
use Rattle.usb_ctrl.specs.Enumeration.{Answer}

-- the answers to the six requests
pub record Six : Type 0 where
  pub begin : Answer
  pub address : Answer
  pub device : Answer
  pub head : Answer
  pub config : Answer
  pub end : Answer

abbrev pub six_list : Six → List Answer
six_list s = s.begin ∷ s.address ∷ s.device ∷ s.head ∷ s.config ∷ s.end ∷ []

-- no request failed, and the replies are what they must be
pub record Attaches (s : Six) (d : DeviceDesc) (c : ConfigTree) : Type 0 where
  pub codes : AllByRecursion (λ (a : Answer). a.code ≡ Zero) (six_list s)
  pub eight : length s.begin.reply ≡ 8
  pub device : device_of s.device.reply ≡ Ok d
  pub same : take 8 s.device.reply ≡ take 8 s.begin.reply
  pub nine : length s.head.reply ≡ 9
  pub long : 9 ≤ slice_index s.head.reply 0
  pub kind : slice_index s.head.reply 1 ≡ 2
  pub config : tree_of s.config.reply ≡ Ok c
