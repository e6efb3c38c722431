-- What each driver needs of an interface, and which URBs it has.
use Rattle.std.specs.Prelude.{ℕ, zero, suc, ◌+◌, ◌*◌, ◌-◌, ◌%◌, Bool, not, ◌&&◌, ◌||◌, ◌==◌, nat_le, if◌then◌else◌, List, [], ◌∷◌, map, length, slice_index, Option, Some, None, find, option_and_then, option_map}
use Rattle.std.specs.Option.{option_map_or, option_or}
use Rattle.usb_types.specs.declared.urb.Role.{Role}
use Rattle.usb_types.specs.declared.urb.Role.TheVariants.{In, Note, Read0, Read1, Write, Ctl}
use Rattle.usb_desc.specs.declared.tree.ConfigTree.{ConfigTree}
use Rattle.usb_desc.specs.declared.tree.Alt.{Alt}
use Rattle.usb_desc.specs.declared.tree.End.{End}
use Rattle.usb_bind.specs.declared.row.Driver.{Driver}
use Rattle.usb_bind.specs.declared.row.Driver.TheVariants.{Keyboard, Acm, Printer}
use Rattle.usb_bind.specs.Interfaces.{interface_at, place_of, packet_size}

-- a union descriptor (CDC 1.2 §5.2.3.2) that names a data interface
abbrev pub is_union : List ℕ → Bool
is_union d = nat_le 5 (length d) && nat_le 5 (slice_index d 0) && slice_index d 1 == 0x24 && slice_index d 2 == 6

-- byte 4 of the first union descriptor, where the first of these bytes belong to a descriptor that was passed over
abbrev pub union_in : ℕ → List ℕ → Option ℕ
union_in inside [] = None
union_in (suc inside) (b ∷ bytes) = union_in inside bytes
union_in zero (b ∷ bytes) = if is_union (b ∷ bytes) then Some (slice_index (b ∷ bytes) 4) else union_in (b - 1) bytes

-- the same in the extras of endpoints, one after the other
abbrev pub union_in_ends : List End → Option ℕ
union_in_ends [] = None
union_in_ends (e ∷ ends) = option_or (union_in 0 e.extras) (union_in_ends ends)

-- the number of the data interface: the first union's, or else the next one
abbrev pub data_interface : Alt → ℕ
data_interface alt = option_map_or (λ n. n) (option_or (union_in 0 alt.extras) (union_in_ends alt.ends)) (alt.number + 1)

-- the data interface, where it is there and isn't this one
abbrev pub data_of : ConfigTree → Alt → Option Alt
data_of config alt = if data_interface alt == alt.number then None else interface_at config (data_interface alt)

-- an endpoint without address or packet size counts as missing
abbrev pub is_missing : End → Bool
is_missing e = e.address == 0 || packet_size e == 0

-- bit 7 of an address is set where the data come in
abbrev pub is_in : End → Bool
is_in e = nat_le 0x80 e.address

abbrev pub is_interrupt_in : End → Bool
is_interrupt_in e = e.attributes % 4 == 3 && is_in e && not (is_missing e)

abbrev pub is_bulk_in : End → Bool
is_bulk_in e = e.attributes % 4 == 2 && is_in e && not (is_missing e)

abbrev pub is_bulk_out : End → Bool
is_bulk_out e = e.attributes % 4 == 2 && not (is_in e) && not (is_missing e)

-- a driver's URBs in order
abbrev pub roles_of : Driver → List Role
roles_of Keyboard = In ∷ Ctl ∷ []
roles_of Acm = Note ∷ Read0 ∷ Read1 ∷ Write ∷ Ctl ∷ []
roles_of Printer = Write ∷ Ctl ∷ []

-- the endpoints that bring and take the bulk data
abbrev pub data_ends : Driver → ConfigTree → Alt → List End
data_ends Keyboard config alt = []
data_ends Acm config alt = option_map_or (λ (a : Alt). a.ends) (data_of config alt) []
data_ends Printer config alt = alt.ends

-- the endpoint of an URB, the first of its kind; control transfers have endpoint 00, which is none of these
abbrev pub end_for : Driver → ConfigTree → Alt → Role → Option End
end_for driver config alt In = find is_interrupt_in alt.ends
end_for driver config alt Note = find is_interrupt_in alt.ends
end_for driver config alt Read0 = find is_bulk_in (data_ends driver config alt)
end_for driver config alt Read1 = find is_bulk_in (data_ends driver config alt)
end_for driver config alt Write = find is_bulk_out (data_ends driver config alt)
end_for driver config alt Ctl = None

-- an URB that a driver needs, with its endpoint's place after endpoint 00, which itself is None
pub record Need : Type 0 where
  pub role : Role
  pub place : Option ℕ

abbrev pub need_at : Role → Option ℕ → Option Need
need_at role place = option_map (λ p. record { role = role; place = Some p }) place

abbrev pub need_for : Driver → ConfigTree → Alt → Role → Option Need
need_for driver config alt Ctl = Some (record { role = Ctl; place = None })
need_for driver config alt role =
    need_at role (option_and_then (λ (e : End). place_of config e.address) (end_for driver config alt role))

-- all of them, where each is there
abbrev pub all_of : {X : Type 0} → List (Option X) → Option (List X)
all_of [] = Some []
all_of (x ∷ xs) = option_and_then (λ first. option_map (λ rest. first ∷ rest) (all_of xs)) x

-- what a driver needs of an interface, or None where an endpoint or the data interface is missing
abbrev pub needed : Driver → ConfigTree → Alt → Option (List Need)
needed driver config alt = all_of (map (need_for driver config alt) (roles_of driver))

-- the other interface that a binding has
abbrev pub other_of : Driver → ConfigTree → Alt → Option ℕ
other_of Keyboard config alt = None
other_of Acm config alt = option_map (λ (a : Alt). a.number) (data_of config alt)
other_of Printer config alt = None

-- how many bytes the buffer of a read has
abbrev pub read_size : Driver → ConfigTree → Alt → Role → Option ℕ
read_size driver config alt In = Some 8
read_size driver config alt Note = option_map packet_size (end_for driver config alt Note)
read_size driver config alt Read0 = option_map (λ e. 2 * packet_size e) (end_for driver config alt Read0)
read_size driver config alt Read1 = option_map (λ e. 2 * packet_size e) (end_for driver config alt Read1)
read_size driver config alt Write = None
read_size driver config alt Ctl = None
