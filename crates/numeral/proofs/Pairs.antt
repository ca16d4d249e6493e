-- Bytes as pairs of upper-case hex digits.
use mathlib.Core.Path.{◌≡◌, refl}
use mathlib.Core.List.{List, [], ◌∷◌}
use Prim.Native.Nat.{ℕ, ◌*◌, ◌/◌, ◌%◌, ◌<◌}
use native.Mathlib.Omega.{arith}
use lib.ListN.{length}
use Rattle.rules.specs.Numerals.{upper, last_digits, upper_hex, hex_pairs}

-- a byte has two hex digits
pub byte_pair : (b : ℕ) → b < 256 → upper_hex 2 b ≡ upper (b / 16) ∷ upper (b % 16) ∷ []
unfolding last_digits
byte_pair b h = let e : b / 16 % 16 ≡ b / 16 = omega arith in rw e

pub pairs_length : (b : List ℕ) → length (hex_pairs b) ≡ 2 * length b
unfolding hex_pairs last_digits
pairs_length [] = refl
pairs_length (x ∷ b) = omega (arith, pairs_length b)
