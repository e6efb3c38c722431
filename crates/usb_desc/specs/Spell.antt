-- The bytes of a configuration: its descriptors in order, each with its tail and its extras.
use Rattle.std.specs.Prelude.{ℕ, ◌+◌, ◌/◌, ◌%◌, List, ◌∷◌, ◌++◌, length}
use Rattle.std.specs.List.{flat_map}
use Rattle.usb_desc.specs.declared.tree.ConfigTree.{ConfigTree}
use Rattle.usb_desc.specs.declared.tree.Alt.{Alt}
use Rattle.usb_desc.specs.declared.tree.End.{End}

-- a number of two bytes, the low one first
abbrev pub low : ℕ → ℕ
low n = n % 256

abbrev pub high : ℕ → ℕ
high n = n / 256

abbrev pub end_bytes : End → List ℕ
end_bytes e =
    (7 + length e.tail) ∷ 5 ∷ e.address ∷ e.attributes ∷ low e.max_packet ∷ high e.max_packet ∷ e.interval ∷ e.tail ++ e.extras

abbrev pub alt_bytes : Alt → List ℕ
alt_bytes a =
    (9 + length a.tail) ∷ 4 ∷ a.number ∷ a.setting ∷ a.said ∷ a.class ∷ a.subclass ∷ a.protocol ∷ a.text ∷ a.tail ++ a.extras
    ++ flat_map end_bytes a.ends

-- what follows the configuration's own descriptor
abbrev pub parts : ConfigTree → List ℕ
parts c = c.extras ++ flat_map alt_bytes c.alts

-- the bytes of the configuration, with n as its total length
abbrev pub written : ℕ → ConfigTree → List ℕ
written n c =
    (9 + length c.tail) ∷ 2 ∷ low n ∷ high n ∷ c.said ∷ c.value ∷ c.text ∷ c.attributes ∷ c.power ∷ c.tail ++ parts c

-- how many bytes it has
abbrev pub size_of : ConfigTree → ℕ
size_of c = 9 + length c.tail + length (parts c)

-- its bytes, with their number as the total length
abbrev pub spell : ConfigTree → List ℕ
spell c = written (size_of c) c
