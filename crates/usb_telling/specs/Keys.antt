-- The events of a keyboard, as lines.
use Rattle.std.specs.Prelude.{ℕ, List, [], ◌∷◌, codes, unwrap_or}
use Rattle.std.specs.List.{flat_map}
use Rattle.usb_types.specs.Table.{name_at}
use Rattle.usb_types.specs.Rows.{usage_table}
use Rattle.usb_text.specs.Print.{hex_pair, line}
use Rattle.usb_hid.specs.declared.event.Event.{Event}
use Rattle.usb_hid.specs.declared.event.Event.TheVariants.{Down, Up, Led}

-- the name of a key by its usage (HID usage tables, page 07)
abbrev pub key_name : ℕ → List ℕ
key_name code = unwrap_or (name_at usage_table code) (codes "-")

-- down HH NAME, up HH NAME, led HH
abbrev pub key_text : Event → List ℕ
key_text (Down code) = line (codes "down" ∷ hex_pair code ∷ key_name code ∷ [])
key_text (Up code) = line (codes "up" ∷ hex_pair code ∷ key_name code ∷ [])
key_text (Led lights) = line (codes "led" ∷ hex_pair lights ∷ [])

abbrev pub keys_text : List Event → List ℕ
keys_text events = flat_map key_text events
