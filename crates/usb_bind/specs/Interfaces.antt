-- The interfaces of a configuration and the endpoints that the host knows of it, both of alternate settings 0.
use Rattle.std.specs.Prelude.{ℕ, ◌%◌, Bool, not, ◌&&◌, ◌||◌, ◌==◌, if◌then◌else◌, List, [], ◌∷◌, ◌++◌, Option, find, fold, flat_map, position}
use Rattle.std.specs.List.{list_any}
use Rattle.usb_desc.specs.declared.tree.ConfigTree.{ConfigTree}
use Rattle.usb_desc.specs.declared.tree.Alt.{Alt}
use Rattle.usb_desc.specs.declared.tree.End.{End}
use Rattle.usb_desc.specs.Growth.{has_end}
use Rattle.usb_machine.specs.declared.layout.Shape.{Shape}
use Rattle.usb_machine.specs.declared.layout.EndKind.{EndKind}
use Rattle.usb_machine.specs.declared.layout.EndKind.TheVariants.{Control, Iso, Bulk, Interrupt}

abbrev pub has_number : List Alt → ℕ → Bool
has_number alts number = list_any (λ (a : Alt). a.number == number) alts

-- a setting opens an interface where it is setting 0 of a number that has none before
abbrev pub opens : List Alt → Alt → Bool
opens alts a = a.setting == 0 && not (has_number alts a.number)

abbrev pub with_interface : List Alt → Alt → List Alt
with_interface alts a = if opens alts a then alts ++ a ∷ [] else alts

-- the interfaces: the first setting 0 of each number, in descriptor order
abbrev pub interfaces_of : ConfigTree → List Alt
interfaces_of config = fold with_interface [] config.alts

-- the interface with a number: the first setting 0 that has it
abbrev pub interface_at : ConfigTree → ℕ → Option Alt
interface_at config number = find (λ (a : Alt). a.setting == 0 && a.number == number) config.alts

-- an endpoint joins those before it, unless its address is 00 or one of theirs
abbrev pub joins : List End → End → Bool
joins ends e = not (e.address == 0 || has_end ends e.address)

abbrev pub joined : List End → End → List End
joined ends e = if joins ends e then ends ++ e ∷ [] else ends

abbrev pub ends_of : List Alt → List End
ends_of alts = flat_map (λ (a : Alt). a.ends) alts

-- the device's endpoints in the host, after endpoint 00: those of its interfaces in descriptor order, each address once
abbrev pub host_ends : ConfigTree → List End
host_ends config = fold joined [] (ends_of (interfaces_of config))

-- an address's place among them
abbrev pub place_of : ConfigTree → ℕ → Option ℕ
place_of config address = position (λ (e : End). e.address == address) (host_ends config)

-- the most bytes of a packet: bits 0 to 10 (USB 2.0 §9.6.6)
abbrev pub packet_size : End → ℕ
packet_size e = e.max_packet % 2048

-- the transfer type: bits 0 and 1 (USB 2.0 §9.6.6)
abbrev pub kind_of : ℕ → EndKind
kind_of attributes =
    if attributes % 4 == 0 then Control else if attributes % 4 == 1 then Iso else if attributes % 4 == 2 then Bulk else Interrupt

-- what the host knows of an endpoint
abbrev pub shape_of_end : ℕ → End → Shape
shape_of_end device e = record {
  device = device;
  address = e.address;
  kind = kind_of e.attributes;
  max = packet_size e;
  interval = e.interval;
}
