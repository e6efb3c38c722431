use Rattle.std.proofs.Common.{◌≡◌}
use Rattle.usb_generate.specs.Draws.{behind}
use Rattle.usb_generate.specs.Generator.{call_place, calls}
use Rattle.usb_generate.proofs.generator.calls.Given as goal

abbrev pub invariant-loop-number : goal.invariant-loop-number
invariant-loop-number l = record {
  said : l.calls ≡ calls l.initial.draws l.number;
  stands : l.draws ≡ behind (call_place l.initial.draws l.number) l.initial.draws;
}
