-- What a driver's URBs are for: which URB has which purpose, how long reads are, and which transfers have numbers.
use Rattle.std.specs.Prelude.{ℕ, ◌==◌, Bool, true, false, List, [], ◌∷◌, find, Option, option_and_then}
use Rattle.std.specs.Option.{option_map_or}
use Rattle.usb_types.specs.declared.urb.Role.{Role}
use Rattle.usb_types.specs.declared.urb.Role.TheVariants.{In, Note, Read0, Read1, Write, Ctl}
use Rattle.usb_types.specs.declared.urb.UrbId.{UrbId}
use Rattle.usb_desc.specs.declared.tree.Alt.{Alt}
use Rattle.usb_ctrl.specs.declared.enumerator.Attached.{Attached}
use Rattle.usb_bind.specs.declared.row.Driver.{Driver}
use Rattle.usb_bind.specs.declared.row.Driver.TheVariants.{Keyboard, Acm, Printer}
use Rattle.usb_bind.specs.declared.bound.Bound.{Bound}
use Rattle.usb_bind.specs.Board.{BoardValue, attached_at, urb_of_role}
use Rattle.usb_bind.specs.Interfaces.{interface_at}
use Rattle.usb_bind.specs.Needs.{read_size}

abbrev pub all_roles : List Role
all_roles = In ∷ Note ∷ Read0 ∷ Read1 ∷ Write ∷ Ctl ∷ []

-- whether a binding has URB u for a purpose
abbrev pub has_for : ℕ → Bound → Role → Bool
has_for u b role = option_map_or (λ (urb : UrbId). urb.0 == u) (urb_of_role b role) false

-- the purpose that a binding has URB u for
abbrev pub role_in : ℕ → Bound → Option Role
role_in u b = find (has_for u b) all_roles

-- buffer size in bytes of the driver's standing read, by the descriptors of the interface's own setting; None if it has none
abbrev pub kept_size : BoardValue → Bound → Role → Option ℕ
kept_size board b role =
    option_and_then (λ (a : Attached). option_and_then (λ (alt : Alt). read_size b.driver a.config alt role) (interface_at a.config b.interface)) (attached_at board b.device)

-- whether transfers of this purpose have a number of the drivers' own: the reads that a driver keeps, and the question that
-- it asks by itself
abbrev pub has_number : Driver → Role → Bool
has_number Keyboard In = true
has_number Acm Note = true
has_number Acm Read0 = true
has_number Acm Read1 = true
has_number Printer Ctl = true
has_number driver role = false
