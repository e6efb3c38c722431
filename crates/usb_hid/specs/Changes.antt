-- What changed from one report to the next, as events: modifiers, then releases, then presses.
use Rattle.std.specs.Prelude.{◌≡◌, ℕ, Bool, not, ◌&&◌, ◌==◌, if◌then◌else◌, List, [], ◌∷◌, ◌++◌, map, filter}
use Rattle.std.specs.Int.{bit_at}
use Rattle.usb_hid.specs.declared.event.Event.{Event}
use Rattle.usb_hid.specs.declared.event.Event.TheVariants.{Down, Up}
use Rattle.usb_hid.specs.Reports.{is_key, has, is_roll_over, modifier_bits, modifier_key, is_set}

abbrev pub turned : Bool → ℕ → Event
turned down key = if down then Down key else Up key

-- each modifier whose bit differs, from the lowest bit to the highest
abbrev pub modifier_changes : ℕ → ℕ → List Event
modifier_changes old new =
    map (λ b. turned (is_set new b) (modifier_key b)) (filter (λ b. not (bit_at old b == bit_at new b)) modifier_bits)

-- each code once, at its first place
abbrev pub firsts : List ℕ → List ℕ
firsts [] = []
firsts (c ∷ codes) = c ∷ filter (λ d. not (d == c)) (firsts codes)

-- the keys among some codes that are not among others, each once
abbrev pub keys_lost : List ℕ → List ℕ → List ℕ
keys_lost codes others = firsts (filter (λ c. is_key c && not (has others c)) codes)

-- what the old codes lost is up in the old order, and what the new ones gained is down in the new order
abbrev pub code_changes : List ℕ → List ℕ → List Event
code_changes old new =
    if is_roll_over new then [] else map Up (keys_lost old new) ++ map Down (keys_lost new old)

-- events were added after the old ones
abbrev pub Grown : List Event → List Event → Type 0
Grown old new = (more : List Event) × (new ≡ old ++ more)
