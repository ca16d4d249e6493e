-- The rule of the table: each entry is the state after the eight bits of its index. A list that passes the computed test is the table
-- that the rule gives, and the law of tables has its entries.
use mathlib.Core.Path.{◌≡◌, refl, ap, ap₂, ◌∙◌}
use mathlib.Core.Bool.{true}
use mathlib.Core.List.{List, [], ◌∷◌}
use Prim.Native.Nat.{ℕ, suc, ◌<◌}
use borrow.Author.Tests.{eqb-true}
use lib.Dec.{eqb}
use lib.ListN.{length, get_or}
use Rattle.rules.specs.Checksum.{crc_bits}
use Rattle.laws.specs.Tests.{both}
use Rattle.laws.specs.Tables.{tabled_from, tabled_at}
use Rattle.crc32.specs.Table.{right}

from : (i : ℕ) (l : List ℕ) → right i l ≡ true → l ≡ tabled_from (crc_bits 8) i (length l)
unfolding right
from i [] e = refl
from i (x ∷ l) e = let h = both (eqb x (crc_bits 8 i)) (right (suc i) l) e in ap₂ ◌∷◌ (eqb-true x (crc_bits 8 i) h.0) (from (suc i) l h.1)

pub entry_right : (l : List ℕ) → right 0 l ≡ true → (k : ℕ) → k < length l → get_or l k 0 ≡ crc_bits 8 k
entry_right l e k h = ap (λ (t : List ℕ). get_or t k 0) (from 0 l e) ∙ tabled_at (crc_bits 8) (length l) k 0 h
