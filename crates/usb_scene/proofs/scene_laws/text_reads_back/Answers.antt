use Rattle.usb_scene.proofs.Whole.{scene_of-text_of}
use Rattle.usb_scene.proofs.scene_laws.text_reads_back.Goals as goal

pub returns : goal.returns
returns c = scene_of-text_of
