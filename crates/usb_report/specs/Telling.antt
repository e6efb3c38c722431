-- The drivers of a scene, each with what it reports.
use Rattle.std.specs.Prelude.{ℕ, List, [], ◌∷◌, ◌++◌}
use Rattle.usb_bind.specs.declared.bound.Bound.{Bound}
use Rattle.usb_class.specs.declared.class_core.Told.{Told}
use Rattle.usb_telling.specs.Told.{told_text}
use Rattle.usb_scene.specs.declared.scene.Scene.{Scene}
use Rattle.usb_report.specs.Listing.{bound_text}

-- the drivers in the order in which they were bound, each with what it reports
abbrev pub drivers_section : Scene → List Bound → List Told → List ℕ
drivers_section s (b ∷ bindings) (told ∷ others) = bound_text s b ++ told_text told ++ drivers_section s bindings others
drivers_section s _ _ = []
