-- Which keys are down, by the events and by the reports.
use Rattle.std.specs.Prelude.{ℕ, Bool, true, false, ◌==◌, ◌&&◌, if◌then◌else◌, List, ◌++◌, map, filter, filter_map, Option, Some, None}
use Rattle.std.specs.List.{list_any}
use Rattle.usb_hid.specs.declared.event.Event.{Event}
use Rattle.usb_hid.specs.declared.event.Event.TheVariants.{Down, Up, Led}
use Rattle.usb_hid.specs.Reports.{is_key, has, codes_of, modifier_bits, modifier_key, is_set}
use Rattle.usb_machine.specs.Completion.{Completion}
use Rattle.usb_hid.specs.Keys.{reports, modifiers_after, codes_after, last_of}

-- what an event says of a key: that it went down, or up, or nothing
abbrev pub said_of : ℕ → Event → Option Bool
said_of key (Down k) = if k == key then Some true else None
said_of key (Up k) = if k == key then Some false else None
said_of key (Led lights) = None

-- a key is down after events where the last that was said of it is that it went down
abbrev pub is_down : ℕ → List Event → Bool
is_down key events = last_of false (filter_map (said_of key) events)

-- the modifiers whose bit is set
abbrev pub modifier_keys : ℕ → List ℕ
modifier_keys modifiers = map modifier_key (filter (is_set modifiers) modifier_bits)

-- the keys that stand after completions: modifiers, and the codes of keys
abbrev pub keys_after : List Completion → List ℕ
keys_after done = modifier_keys (modifiers_after done) ++ filter is_key (codes_after done)

-- A report has the usage of a modifier, E0 to E7, among its codes: no boot keyboard does, whose codes end at 65 (HID 1.11, appendix B.1).
abbrev pub has_modifier_code : ℕ → List Completion → Bool
has_modifier_code key done = has (map modifier_key modifier_bits) key && list_any (λ report. has (codes_of report) key) (reports done)
