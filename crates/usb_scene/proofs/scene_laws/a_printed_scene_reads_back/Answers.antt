use Rattle.usb_scene.proofs.PrintedScenes.{scene_of-printed_text}
use Rattle.usb_scene.proofs.scene_laws.a_printed_scene_reads_back.Goals as goal

pub returns : goal.returns
returns c = scene_of-printed_text
