use Rattle.usb_scene.proofs.GoodLines.{read_lines_good}
use Rattle.usb_scene.proofs.scene_laws.reads_good_lines.Goals as goal

pub returns : goal.returns
returns c = read_lines_good
