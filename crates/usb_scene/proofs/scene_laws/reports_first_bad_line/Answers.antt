use Rattle.usb_scene.proofs.FirstBad.{first_bad_line}
use Rattle.usb_scene.proofs.scene_laws.reports_first_bad_line.Goals as goal

pub returns : goal.returns
returns c = first_bad_line
