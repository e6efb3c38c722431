use Rattle.std.proofs.Common.{refl}
use Rattle.usb_device.specs.Rules.{first_state}
use Rattle.usb_device.proofs.state.DeviceState.new.Goals as goal

pub returns : goal.returns
unfolding first_state
returns c = refl
