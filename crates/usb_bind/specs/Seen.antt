-- What was met of a configuration while its settings are walked through.
use Rattle.std.specs.Prelude.{◌≡◌, ◌<◌, ℕ, Bool, false, ◌||◌, ◌==◌, List, length, fold, [], slice_index_or, position, Option, Some, None}
use Rattle.usb_desc.specs.declared.tree.Alt.{Alt}
use Rattle.usb_desc.specs.declared.tree.End.{End}
use Rattle.usb_desc.specs.Growth.{has_end}
use Rattle.usb_bind.specs.declared.met.Met.{Met}
use Rattle.usb_bind.specs.Interfaces.{has_number, joined, ends_of}

-- the bytes that pass a test were met, and no others
pub record Knows (met : Met) (test : ℕ → Bool) : Type 0 where
  pub wide : length met.at ≡ 256
  pub each : (n : ℕ) → n < 256 → slice_index_or met.at n false ≡ test n

-- the numbers of these interfaces were met
abbrev pub KnowsNumbers : Met → List Alt → Type 0
KnowsNumbers met alts = Knows met (has_number alts)

-- 00 and the addresses of these endpoints were met, and the endpoints were counted
pub record KnowsEnds (met : Met) (ends : List End) : Type 0 where
  pub met_all : Knows met (λ address. address == 0 || has_end ends address)
  pub counted : met.count ≡ length ends

-- the endpoints of these interfaces, each address once
abbrev pub ends_from : List Alt → List End
ends_from alts = fold joined [] (ends_of alts)

-- an address's place among endpoints was answered, or they were met, and none has the address
abbrev pub Places : ℕ → List End → Met → Option ℕ → Type 0
Places address ends met (Some place) = position (λ (e : End). e.address == address) ends ≡ Some place
Places address ends met None = KnowsEnds met ends × (has_end ends address ≡ false)
