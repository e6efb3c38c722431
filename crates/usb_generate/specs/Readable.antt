-- Scenes that some text is.
use Rattle.std.specs.Prelude.{ℕ, ◌≡◌, ◌≤◌, List, length, Ok}
use Rattle.usb_scene.specs.declared.scene.Scene.{Scene}
use Rattle.usb_scene.specs.Read.{scene_of}

-- bytes, no more than a scene may have, that are read as the scene
abbrev pub IsReadable : Scene → Type 0
IsReadable scene = (bytes : List ℕ) × (length bytes ≤ 1048576) × (scene_of bytes ≡ Ok scene)
