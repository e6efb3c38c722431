use Rattle.std.proofs.Common.{arith, ℕ, ◌<◌, ◌≤◌, ◌^◌, lit<}
use Rattle.std.proofs.Math.Nat.{pow-le-pow_right}
use Rattle.usb_text.proofs.kinds.digits_value.Goals as goal

-- the value of at most nine digits
small : (i v : ℕ) → i < 10 → v < 10 ^ i → v < 1000000000
small i v h l = let le : 10 ^ i ≤ 10 ^ 9 = pow-le-pow_right {n = 10} (lit< tt) {i = i} {j = 9} (omega arith) in omega (arith, le)

pub overflow_mul-value : goal.overflow_mul-value
overflow_mul-value c = omega (arith, small c.loop-b.b-index c.loop-b.value (omega arith) c.loop-b.invariant.small)

pub overflow_add-value : goal.overflow_add-value
overflow_add-value c = omega (arith, small c.loop-b.b-index c.loop-b.value (omega arith) c.loop-b.invariant.small, c.type_inv.digits c.loop-b.b-index)
