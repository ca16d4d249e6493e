-- The rule of the table: each entry is the state after the eight bits of its index.
use Rattle.std.specs.Prelude.{Bool, true, ◌&&◌, List, [], ◌∷◌, ℕ, suc, eqb}
use Rattle.rules.specs.Checksum.{crc_bit, crc_bits}

-- each entry, the first of which has the index i, is right
unfoldable pub right : ℕ → List ℕ → Bool
unfolding crc_bits crc_bit
right i [] = true
right i (x ∷ l) = eqb x (crc_bits 8 i) && right (suc i) l
