-- Numbers that look drawn at random: a linear congruential generator, whose low sixteen bits are left out.
use Rattle.std.specs.Prelude.{ℕ, zero, suc, ◌+◌, ◌*◌, ◌/◌, ◌%◌, ◌^◌}

-- where the numbers of a number begin
abbrev pub beginning : ℕ → ℕ
beginning number = number % 2 ^ 31

-- what comes after x
unfoldable pub next : ℕ → ℕ
next x = (1103515245 * x + 12345) % 2 ^ 31

-- what comes k steps after x
abbrev pub behind : ℕ → ℕ → ℕ
behind zero x = x
behind (suc k) x = next (behind k x)

-- draw number k, from 0, of those that begin at x: a number below n
abbrev pub draw : ℕ → ℕ → ℕ → ℕ
draw x k n = behind (suc k) x / 65536 % n
