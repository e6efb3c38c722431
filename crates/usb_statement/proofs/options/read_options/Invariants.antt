use Rattle.std.proofs.Common.{◌≡◌, ◌++◌, length}
use Rattle.std.specs.Option.{option_map}
use Rattle.usb_text.specs.Words.{words}
use Rattle.usb_statement.specs.Options.{options_of}
use Rattle.usb_statement.proofs.options.read_options.Given as goal

abbrev pub invariant-loop-word : goal.invariant-loop-word
invariant-loop-word l = option_map (λ options. l.options ++ options) (options_of (words l.rest)) ≡ options_of (words l.line)

abbrev pub decreases-loop-word : goal.decreases-loop-word
decreases-loop-word l = length l.rest
