-- What a descriptor after the first one adds to a configuration, and the faults that it may have.
use Rattle.std.specs.Prelude.{ℕ, ◌+◌, ◌*◌, ◌==◌, nat_lt, Bool, if◌then◌else◌, List, [], ◌∷◌, ◌++◌, length, drop, slice_index, slice_get, ◌-◌, Option, Some, None}
use Rattle.std.specs.List.{list_any}
use Rattle.usb_desc.specs.declared.tree.ConfigTree.{ConfigTree}
use Rattle.usb_desc.specs.declared.tree.Alt.{Alt}
use Rattle.usb_desc.specs.declared.tree.End.{End}
use Rattle.usb_desc.specs.declared.fault.DescFault.{DescFault}
use Rattle.usb_desc.specs.declared.fault.DescFault.TheVariants.{EndpointWithoutInterface, TwiceEndpoint, Limit}

-- the type of a descriptor
abbrev pub kind_of : List ℕ → ℕ
kind_of d = slice_index d 1

-- the two bytes at i as a number, the low one first
abbrev pub word_at : List ℕ → ℕ → ℕ → ℕ
word_at d i j = slice_index d i + 256 * slice_index d j

-- f of the last item
abbrev pub on_last : {X : Type 0} → (X → X) → List X → List X
on_last f [] = []
on_last f (x ∷ []) = f x ∷ []
on_last f (x ∷ y ∷ xs) = x ∷ on_last f (y ∷ xs)

abbrev pub end_of : List ℕ → End
end_of d = record {
  address = slice_index d 2;
  attributes = slice_index d 3;
  max_packet = word_at d 4 5;
  interval = slice_index d 6;
  tail = drop 7 d;
  extras = [];
}

abbrev pub alt_of : List ℕ → Alt
alt_of d = record {
  number = slice_index d 2;
  setting = slice_index d 3;
  said = slice_index d 4;
  class = slice_index d 5;
  subclass = slice_index d 6;
  protocol = slice_index d 7;
  text = slice_index d 8;
  tail = drop 9 d;
  extras = [];
  ends = [];
}

abbrev pub with_end : End → Alt → Alt
with_end e a = record a { ends = a.ends ++ e ∷ [] }

-- an extra belongs to the latest endpoint, or else setting, or else to the configuration
abbrev pub end_extended : List ℕ → End → End
end_extended d e = record e { extras = e.extras ++ d }

abbrev pub extended_alt : List ℕ → Alt → List End → Alt
extended_alt d a [] = record a { extras = a.extras ++ d }
extended_alt d a (e ∷ ends) = record a { ends = on_last (end_extended d) (e ∷ ends) }

abbrev pub alt_extended : List ℕ → Alt → Alt
alt_extended d a = extended_alt d a a.ends

abbrev pub extended_tree : List ℕ → ConfigTree → List Alt → ConfigTree
extended_tree d tree [] = record tree { extras = tree.extras ++ d }
extended_tree d tree (a ∷ alts) = record tree { alts = on_last (alt_extended d) (a ∷ alts) }

abbrev pub extended : List ℕ → ConfigTree → ConfigTree
extended d tree = extended_tree d tree tree.alts

-- the configuration with what a descriptor adds to it
abbrev pub tree_with : ConfigTree → List ℕ → ConfigTree
tree_with tree d =
    if kind_of d == 4 then record tree { alts = tree.alts ++ alt_of d ∷ [] }
    else if kind_of d == 5 then record tree { alts = on_last (with_end (end_of d)) tree.alts }
    else extended d tree

-- the latest setting
abbrev pub last_alt : List Alt → Option Alt
last_alt alts = slice_get alts (length alts - 1)

abbrev pub has_end : List End → ℕ → Bool
has_end ends address = list_any (λ (e : End). e.address == address) ends

-- the fault of an endpoint at a place
abbrev pub end_fault : Option Alt → ℕ → ℕ → Option DescFault
end_fault None at address = Some (EndpointWithoutInterface at)
end_fault (Some a) at address =
    if has_end a.ends address then Some (TwiceEndpoint at)
    else if nat_lt (length a.ends) 30 then None
    else Some (Limit at)

-- the first fault of a whole descriptor at a place, where it has one
abbrev pub piece_fault : ConfigTree → ℕ → List ℕ → Option DescFault
piece_fault tree at d =
    if kind_of d == 4 then (if nat_lt (length tree.alts) 64 then None else Some (Limit at))
    else if kind_of d == 5 then end_fault (last_alt tree.alts) at (slice_index d 2)
    else None
