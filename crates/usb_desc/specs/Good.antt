-- The configurations that bytes can spell.
use Rattle.std.specs.Prelude.{◌≡◌, ◌≢◌, ℕ, ◌<◌, ◌≤◌, ◌^◌, List, [], ◌∷◌, length, slice_index}
use Rattle.std.specs.List.{AllByRecursion, concat}
use Rattle.usb_desc.specs.declared.tree.ConfigTree.{ConfigTree}
use Rattle.usb_desc.specs.declared.tree.Alt.{Alt}
use Rattle.usb_desc.specs.declared.tree.End.{End}
use Rattle.usb_desc.specs.Cut.{standard_length}
use Rattle.usb_desc.specs.Spell.{spell, size_of}

abbrev pub IsByte : ℕ → Type 0
IsByte n = n < 256

-- one whole descriptor that is neither of an interface nor of an endpoint
pub record IsExtra (d : List ℕ) : Type 0 where
  pub header : 2 ≤ length d
  pub whole : slice_index d 0 ≡ length d
  pub long : standard_length (slice_index d 1) ≤ length d
  pub no_interface : slice_index d 1 ≢ 4
  pub no_endpoint : slice_index d 1 ≢ 5

-- such descriptors, one after the other
pub record AreExtras (bytes : List ℕ) : Type 0 where
  pub pieces : List (List ℕ)
  pub joined : concat pieces ≡ bytes
  pub each : AllByRecursion IsExtra pieces

abbrev pub IsGoodEnd : End → Type 0
IsGoodEnd e = AreExtras e.extras

-- no address occurs twice
abbrev pub AreDistinct : List End → Type 0
AreDistinct [] = Unit {0}
AreDistinct (e ∷ ends) = AllByRecursion (λ (f : End). f.address ≢ e.address) ends × AreDistinct ends

pub record IsGoodAlt (a : Alt) : Type 0 where
  pub extras : AreExtras a.extras
  pub ends : AllByRecursion IsGoodEnd a.ends
  pub few : length a.ends ≤ 30
  pub distinct : AreDistinct a.ends

-- what already holds of it while its descriptors are being read
pub record IsSound (c : ConfigTree) : Type 0 where
  pub extras : AreExtras c.extras
  pub alts : AllByRecursion IsGoodAlt c.alts
  pub few : length c.alts ≤ 64

-- each number is a byte in its place, lengths among them, and the total length fits two
pub record IsGood (c : ConfigTree) : Type 0 where
  pub bytes : AllByRecursion IsByte (spell c)
  pub total : size_of c < 2 ^ 16
  pub extras : AreExtras c.extras
  pub alts : AllByRecursion IsGoodAlt c.alts
  pub few : length c.alts ≤ 64
