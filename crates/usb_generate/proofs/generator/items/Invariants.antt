use Rattle.std.proofs.Common.{◌≡◌}
use Rattle.usb_generate.specs.Draws.{behind}
use Rattle.usb_generate.specs.Generator.{item_place, items}
use Rattle.usb_generate.proofs.generator.items.Given as goal

abbrev pub invariant-loop-byte : goal.invariant-loop-byte
invariant-loop-byte l = record {
  said : l.items ≡ items l.initial.draws l.byte;
  stands : l.draws ≡ behind (item_place l.initial.draws l.byte) l.initial.draws;
}
