-- What it means to be the first fault, apart from how reading goes on.
use Rattle.std.specs.Prelude.{◌≡◌, ◌⊎◌, ℕ, ◌-◌, ◌<◌, List, ◌++◌, length, Ok, Err}
use Rattle.usb_desc.specs.declared.tree.ConfigTree.{ConfigTree}
use Rattle.usb_desc.specs.declared.fault.DescFault.{DescFault}
use Rattle.usb_desc.specs.Spell.{written}
use Rattle.usb_desc.specs.Good.{IsSound}
use Rattle.usb_desc.specs.Cut.{cut}
use Rattle.usb_desc.specs.Read.{begun, headed}

-- the first descriptor isn't whole, or isn't that of a configuration with this total length
abbrev pub BeginsWrong : List ℕ → DescFault → Type 0
BeginsWrong bytes fault =
    (cut (length bytes) 0 bytes ≡ Err fault)
    ⊎ ((d : List ℕ) × (rest : List ℕ) × (cut (length bytes) 0 bytes ≡ Ok (d, rest)) × (begun (length bytes) d ≡ Err fault))

-- the bytes before some place are a sound configuration so far, and the descriptor at that place has this fault
pub record GoesWrong (bytes : List ℕ) (fault : DescFault) : Type 0 where
  pub tree : ConfigTree
  pub behind : List ℕ
  pub more : 0 < length behind
  pub before : written (length bytes) tree ++ behind ≡ bytes
  pub sound : IsSound tree
  pub wrong : headed tree (length bytes - length behind) behind ≡ Err fault

abbrev pub IsFirstFault : List ℕ → DescFault → Type 0
IsFirstFault bytes fault = BeginsWrong bytes fault ⊎ GoesWrong bytes fault
