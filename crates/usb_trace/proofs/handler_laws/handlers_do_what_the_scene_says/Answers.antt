use Rattle.usb_trace.proofs.Handling.{acts_as, further}
use Rattle.usb_trace.proofs.handler_laws.handlers_do_what_the_scene_says.Goals as goal

pub returns-clause-action : goal.returns-clause-action
returns-clause-action c = λ s rounds h new u status t action stands near done. acts_as s rounds h stands u near new status t action done

pub returns-clause-handled : goal.returns-clause-handled
returns-clause-handled c = λ s rounds h new r question stands near is. let f = further s rounds h stands r near question new is in (f.handled, f.asks)

pub returns-clause-stand : goal.returns-clause-stand
returns-clause-stand c = λ s rounds h new r question stands near is. (further s rounds h stands r near question new is).stand
