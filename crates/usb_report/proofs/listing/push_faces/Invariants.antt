use Rattle.std.proofs.Common.{◌≡◌, ◌++◌, take}
use Rattle.std.specs.List.{flat_map}
use Rattle.usb_report.specs.Listing.{face_text}
use Rattle.usb_report.proofs.listing.push_faces.Given as goal

abbrev pub invariant-loop-face : goal.invariant-loop-face
invariant-loop-face l = l.report ≡ l.initial.report ++ flat_map face_text (take l.face-index l.faces)
