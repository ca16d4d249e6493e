-- The widths of `octets`, each from the law of Split and what its half gives.
use mathlib.Core.Path.{◌≡◌, sym, ◌∙◌}
use mathlib.Core.List.{List}
use Prim.Native.Nat.{ℕ, ◌+◌, ◌*◌, ◌^◌}
use lib.ListN.{get_or}
use Rattle.rules.specs.Bytes.{number_at}
use Rattle.octets.proofs.Split.{number_split, number_one}

-- a number of twice the width: low and high are the numbers in its halves
pub halves : (i w : ℕ) (l : List ℕ) (low high : ℕ) → low ≡ number_at i w l → high ≡ number_at (i + w) w l → low + 256 ^ w * high ≡ number_at i (w + w) l
halves i w l low high e₁ e₂ = rw (e₁, e₂) (sym (number_split i w w l))

-- two single bytes
pub bytes : (i : ℕ) (l : List ℕ) (low high : ℕ) → low ≡ get_or l i 0 → high ≡ get_or l (i + 1) 0 → low + 256 * high ≡ number_at i 2 l
bytes i l low high e₁ e₂ = halves i 1 l low high (e₁ ∙ sym (number_one i l)) (e₂ ∙ sym (number_one (i + 1) l))
