-- The rows of slicing by 16: entry b of row r is the state after byte b and r bytes of zero behind it, from a state of zero.
use Rattle.std.specs.Prelude.{◌≡◌, List, ℕ, ◌+◌, ◌*◌, ◌<◌, length, get_or}
use Rattle.rules.specs.Checksum.{crc_bits}

-- x is byte b after r + n bytes went through, where entry b of row r has the index j: for n = 1 the entry, for n = 0 what it is made from
pub record Entry (n j x : ℕ) : Type 0 where
  pub is : (r b : ℕ) → b < 256 → r * 256 + b ≡ j → x ≡ crc_bits (8 * (r + n)) b

-- the first k entries of the rows are right
pub record Rows (rows : List ℕ) (k : ℕ) : Type 0 where
  pub long : length rows ≡ 4096
  pub entry : (j : ℕ) → j < k → Entry 1 j (get_or rows j 0)
