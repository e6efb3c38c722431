-- A map from the names of URBs to their numbers.
use Rattle.std.specs.Prelude.{ℕ, ◌≡◌, List, length, Option, Some, if◌then◌else◌}
use Rattle.std.specs.Str.{bytes_eq}
use Rattle.std.specs.HashMap.{HashMap, get_by}
use Rattle.std.specs.declared.vec.Vec.{Vec}
use Rattle.usb_scene.specs.declared.scene.Scene.{Scene}
use Rattle.usb_scene.specs.declared.scene.Target.{Target}
use Rattle.usb_scene.specs.declared.scene.Target.TheVariants as target
use Rattle.usb_statement.specs.declared.statement.Statement.{Statement}
use Rattle.usb_statement.specs.declared.statement.Statement.TheVariants as say
use Rattle.usb_scene.specs.Rules.{urb_number, urb_target, interface_target}

-- the number of a name in a map
abbrev pub number_in : {A S : Type 0} → HashMap (Vec ℕ A) ℕ S → List ℕ → Option ℕ
number_in m name = get_by (λ key. bytes_eq name key.items) m

-- each URB is found by its name
abbrev pub FindsUrbs : Scene → (List ℕ → Option ℕ) → Type 0
FindsUrbs scene find = (name : List ℕ) → find name ≡ urb_number scene name

-- what is found after a line
abbrev pub found_with : Scene → Statement → (List ℕ → Option ℕ) → List ℕ → Option ℕ
found_with scene (say.Urb name device address options) find other = if bytes_eq name other then Some (length scene.urbs) else find other
found_with scene _ find other = find other

-- the URB or the interface that a line calls
abbrev pub called_target : Scene → Statement → Target
called_target scene (say.Submit urb setup bytes) = urb_target scene urb
called_target scene (say.OnUrb call urb) = urb_target scene urb
called_target scene (say.OnInterface call device interface) = interface_target scene device interface
called_target scene _ = target.Nothing
