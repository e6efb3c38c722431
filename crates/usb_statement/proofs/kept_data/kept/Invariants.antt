use Rattle.std.proofs.Common.{◌≡◌, ◌≤◌, ◌++◌, length, take}
use Rattle.std.specs.Option.{option_map}
use Rattle.usb_text.specs.Words.{words}
use Rattle.usb_statement.specs.Kept.{joined_data, kept_data}
use Rattle.usb_statement.proofs.kept_data.kept.Given as goal

abbrev pub invariant-loop-word : goal.invariant-loop-word
invariant-loop-word l = record {
  so_far : option_map (λ bytes. take 65536 (l.all ++ bytes)) (joined_data (words l.rest)) ≡ kept_data (words l.line);
  short : length l.all ≤ 65536;
}

abbrev pub decreases-loop-word : goal.decreases-loop-word
decreases-loop-word l = length l.rest
