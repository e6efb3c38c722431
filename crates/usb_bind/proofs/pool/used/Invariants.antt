use Rattle.std.proofs.Common.{◌≡◌, ◌≤◌, ◌-◌, length, take}
use Rattle.std.specs.Prelude.{is_none}
use Rattle.std.specs.List.{suffix_len}
use Rattle.usb_bind.proofs.pool.used.Given as goal

abbrev pub invariant-loop-count : goal.invariant-loop-count
invariant-loop-count l =
    (l.count ≤ length l.homes)
    × (l.count - suffix_len is_none (take l.count l.homes) ≡ length l.homes - suffix_len is_none l.homes)

abbrev pub decreases-loop-count : goal.decreases-loop-count
decreases-loop-count l = l.count
