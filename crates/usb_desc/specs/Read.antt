-- The configuration that bytes are, or the first fault from left to right.
use Rattle.std.specs.Prelude.{ℕ, ◌-◌, ◌==◌, if◌then◌else◌, zero, suc, List, [], ◌∷◌, length, drop, slice_index, Option, Some, None, Result, Ok, Err}
use Rattle.usb_desc.specs.declared.tree.ConfigTree.{ConfigTree}
use Rattle.usb_desc.specs.declared.fault.DescFault.{DescFault}
use Rattle.usb_desc.specs.declared.fault.DescFault.TheVariants.{BadType, TotalLength}
use Rattle.usb_desc.specs.Cut.{cut}
use Rattle.usb_desc.specs.Growth.{kind_of, word_at, tree_with, piece_fault}

-- a value, where there is no fault
abbrev pub unless : {X : Type 0} → X → Option DescFault → Result X DescFault
unless x None = Ok x
unless x (Some fault) = Err fault

-- a fault ends the reading, and after a good part it goes on
abbrev pub then_on : {X Y : Type 0} → (X → Result Y DescFault) → Result X DescFault → Result Y DescFault
then_on others (Ok x) = others x
then_on others (Err fault) = Err fault

-- the configuration so far with one whole descriptor more, or the fault of that
abbrev pub grown : ConfigTree → ℕ → List ℕ → Result ConfigTree DescFault
grown tree at d = unless (tree_with tree d) (piece_fault tree at d)

-- the first descriptor of these bytes, checked and added
abbrev pub headed : ConfigTree → ℕ → List ℕ → Result ConfigTree DescFault
headed tree at bytes = then_on (λ d. grown tree at d.0) (cut at at bytes)

-- the configuration after the last bytes of so many, of which the first ones belong to a descriptor that was read
abbrev pub read_on : ℕ → ConfigTree → ℕ → List ℕ → Result ConfigTree DescFault
read_on total tree inside [] = Ok tree
read_on total tree (suc inside) (b ∷ bytes) = read_on total tree inside bytes
read_on total tree zero (b ∷ bytes) =
    then_on (λ next. read_on total next (b - 1) bytes) (headed tree (total - length (b ∷ bytes)) (b ∷ bytes))

-- a configuration of which only its own descriptor is read
abbrev pub config_of : List ℕ → ConfigTree
config_of d = record {
  said = slice_index d 4;
  value = slice_index d 5;
  text = slice_index d 6;
  attributes = slice_index d 7;
  power = slice_index d 8;
  tail = drop 9 d;
  extras = [];
  alts = [];
}

-- the configuration that the first descriptor begins, where its total length is that of all bytes
abbrev pub begun : ℕ → List ℕ → Result ConfigTree DescFault
begun total d =
    if kind_of d == 2
    then (if word_at d 2 3 == total then Ok (config_of d) else Err (TotalLength (word_at d 2 3) total))
    else Err (BadType 0)

-- the configuration that all the bytes are, or their first fault
abbrev pub tree_of : List ℕ → Result ConfigTree DescFault
tree_of bytes =
    then_on (λ first. then_on (λ tree. read_on (length bytes) tree 0 first.1) (begun (length bytes) first.0)) (cut (length bytes) 0 bytes)

abbrev pub fault_in : {X : Type 0} → Result X DescFault → Option DescFault
fault_in (Ok x) = None
fault_in (Err fault) = Some fault

-- the first fault of bytes that should be a configuration, where they have one
abbrev pub first_fault : List ℕ → Option DescFault
first_fault bytes = fault_in (tree_of bytes)
