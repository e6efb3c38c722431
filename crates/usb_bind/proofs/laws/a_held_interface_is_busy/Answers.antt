use Rattle.usb_bind.proofs.Bindings.{held_busy, busy_held}
use Rattle.usb_bind.proofs.laws.a_held_interface_is_busy.Goals as goal

pub returns : goal.returns
returns c board device interface driver there = (busy_held board device interface driver, held_busy board device interface driver there)
