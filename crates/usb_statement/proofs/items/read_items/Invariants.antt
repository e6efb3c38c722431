use Rattle.std.proofs.Common.{◌≡◌, ◌++◌, length}
use Rattle.std.specs.Option.{option_map}
use Rattle.usb_text.specs.Words.{words}
use Rattle.usb_statement.specs.Items.{items_of}
use Rattle.usb_statement.proofs.items.read_items.Given as goal

abbrev pub invariant-loop-word : goal.invariant-loop-word
invariant-loop-word l = option_map (λ items. l.items ++ items) (items_of (words l.rest)) ≡ items_of (words l.line)

abbrev pub decreases-loop-word : goal.decreases-loop-word
decreases-loop-word l = length l.rest
