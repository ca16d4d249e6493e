-- Bytes of which zeros at the end were passed.
use Rattle.std.specs.Prelude.{◌≡◌, List, ℕ, ◌≤◌, length, take}
use Rattle.rules.specs.Strings.{without_zeros}

-- n bytes are left of s, and what was passed behind them are zeros at its end
pub record Dropped (s : List ℕ) (n : ℕ) : Type 0 where
  pub most : n ≤ length s
  pub rest : without_zeros (take n s) ≡ without_zeros s
