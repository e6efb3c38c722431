-- Whether a request was taken.
use Rattle.std.specs.Prelude.{◌≡◌, Bool, true, false, Option, Some, None}
use Rattle.usb_device.specs.declared.state.DeviceState.{DeviceState}

-- where there is a next state, that is taken, and else the old one stays
abbrev pub Took : Option DeviceState → DeviceState → DeviceState → Bool → Type 0
Took (Some next) old new done = (done ≡ true) × (new ≡ next)
Took None old new done = (done ≡ false) × (new ≡ old)
