use Rattle.usb_scene.proofs.Operations.{word_of_row}
use Rattle.usb_scene.proofs.operation_laws.a_call_asks_for_what_its_number_says.Goals as goal

pub returns-clause-word : goal.returns-clause-word
returns-clause-word c = word_of_row
