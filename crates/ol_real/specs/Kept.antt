-- What `nearest_single` asks of its caller.
use Rattle.std.specs.Prelude.{◌≡◌, ℕ, ◌*◌, ◌^◌, ◌<◌, ◌≤◌, ◌⊎◌}

-- The whole part of m / 2 ^ d has at most the 24 digits that a single keeps, and all of them where k is not 0: what a single keeps of m * 2 ^ k / 2 ^ d is then that whole part, rounded, times 2 ^ k.
pub record Kept (m d k : ℕ) : Type 0 where
  pub shift : (1 ≤ d) × (d < 64)
  pub field : k < 2048
  pub digits : m < 2 ^ 24 * 2 ^ d
  pub leading : (2 ^ 23 * 2 ^ d ≤ m) ⊎ (k ≡ 0)
