use Rattle.usb_scene.proofs.GoodLines.{first_bad_reported}
use Rattle.usb_scene.proofs.scene_laws.first_bad_line_is_reported.Goals as goal

pub returns : goal.returns
returns c = first_bad_reported
