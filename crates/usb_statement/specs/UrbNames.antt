-- URB: how a line names an URB.
use Rattle.std.specs.Prelude.{ℕ, if◌then◌else◌, List, Option, Some, None, codes}
use Rattle.std.specs.Str.{bytes_eq}
use Rattle.usb_types.specs.declared.urb.Role.{Role}
use Rattle.usb_types.specs.declared.urb.Role.TheVariants as role
use Rattle.usb_text.specs.Kinds.{number_of, is_name}
use Rattle.usb_text.specs.Bytes.{cut}
use Rattle.usb_statement.specs.Chain.{◌>>=◌}
use Rattle.usb_statement.specs.declared.urb_name.UrbName.{UrbName}
use Rattle.usb_statement.specs.declared.urb_name.UrbName.TheVariants.{Scripted, Driver}

-- a NAME
abbrev pub name_of : List ℕ → Option (List ℕ)
name_of text = if is_name text then Some text else None

-- ROLE
abbrev pub role_of : List ℕ → Option Role
role_of text =
    if bytes_eq text (codes "in") then Some role.In
    else if bytes_eq text (codes "ctl") then Some role.Ctl
    else if bytes_eq text (codes "note") then Some role.Note
    else if bytes_eq text (codes "read0") then Some role.Read0
    else if bytes_eq text (codes "read1") then Some role.Read1
    else if bytes_eq text (codes "write") then Some role.Write
    else None

-- NUM.ROLE of a device
abbrev pub role_parts : List ℕ → Option (List ℕ × List ℕ) → Option UrbName
role_parts device None = None
role_parts device (Some parts) = do
  device ← name_of device
  number ← number_of parts.0
  role ← role_of parts.1
  Some (Driver device number role)

-- DEVICE.NUM.ROLE
abbrev pub driver_parts : Option (List ℕ × List ℕ) → Option UrbName
driver_parts None = None
driver_parts (Some parts) = role_parts parts.0 (cut 46 parts.1)

-- URB: a NAME, or DEVICE.NUM.ROLE
abbrev pub urb_name_of : List ℕ → Option UrbName
urb_name_of text = if is_name text then Some (Scripted text) else driver_parts (cut 46 text)
