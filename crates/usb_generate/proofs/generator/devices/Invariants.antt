use Rattle.std.proofs.Common.{◌≡◌}
use Rattle.usb_generate.specs.Generator.{device_beginning, devices}
use Rattle.usb_generate.proofs.generator.devices.Given as goal

abbrev pub invariant-loop-number : goal.invariant-loop-number
invariant-loop-number l = record {
  said : l.devices ≡ devices l.initial.draws l.number;
  stands : l.draws ≡ device_beginning l.initial.draws l.number;
}
