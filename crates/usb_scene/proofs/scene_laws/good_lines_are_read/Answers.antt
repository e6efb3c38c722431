use Rattle.usb_scene.proofs.GoodLines.{good_lines_read}
use Rattle.usb_scene.proofs.scene_laws.good_lines_are_read.Goals as goal

pub returns : goal.returns
returns c = good_lines_read
