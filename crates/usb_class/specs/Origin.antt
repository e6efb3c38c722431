-- What the core of a driver begins with.
use Rattle.std.specs.Prelude.{ℕ, List}

-- the number of the question that the driver may ask by itself, its interface, and what the device reported when it was probed
pub record Origin : Type 0 where
  pub number : ℕ
  pub interface : ℕ
  pub id : List ℕ
