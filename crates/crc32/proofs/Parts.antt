-- A checksum's state goes through joined parts one after the other.
use mathlib.Core.Path.{◌≡◌, refl}
use mathlib.Core.List.{List, [], ◌∷◌, ◌++◌}
use Prim.Native.Nat.{ℕ}
use Rattle.rules.specs.Checksum.{crc_byte, crc_over}

pub over_append : (c : ℕ) (s t : List ℕ) → crc_over (crc_over c s) t ≡ crc_over c (s ++ t)
unfolding crc_over
over_append c [] t = refl
over_append c (b ∷ s) t = over_append (crc_byte c b) s t
