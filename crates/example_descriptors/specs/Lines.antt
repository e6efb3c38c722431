-- How many lines a configuration has.
use Rattle.std.specs.Prelude.{ℕ, ◌+◌, length, sum_by}
use Rattle.usb_desc.specs.declared.tree.ConfigTree.{ConfigTree}
use Rattle.usb_desc.specs.declared.tree.Alt.{Alt}

-- one for a setting, and one for each of its endpoints
abbrev pub lines_of : Alt → ℕ
lines_of a = 1 + length a.ends

-- one for the configuration, and those of its settings
abbrev pub line_count : ConfigTree → ℕ
line_count c = 1 + sum_by lines_of c.alts
