-- Characters that are not escaped, and those that are characters of XML 1.0.
use mathlib.Core.Path.{◌≡◌}
use mathlib.Core.Bool.{◌&&◌, ◌||◌}
use Prim.Native.Nat.{ℕ, ◌≤◌}
use native.Mathlib.Omega.{arith}
use borrow.Author.Tests.{le-leb, ne_eqb}
use lib.Dec.{leb}
use Rattle.std.specs.Prelude.{if◌then◌else◌}
use Rattle.rules.specs.Strings.{is_xml, utf8, escapes, shown}

-- a character that is not escaped
pub not_escaped : (c : ℕ) → (c ≡ 38 → ⊥) → (c ≡ 60 → ⊥) → (c ≡ 62 → ⊥) → (c ≡ 34 → ⊥) → (c ≡ 39 → ⊥) → (c ≡ 9 → ⊥) → (c ≡ 10 → ⊥) → (c ≡ 13 → ⊥)
    → shown c ≡ utf8 (if is_xml c then c else 0xfffd)
unfolding shown escapes
not_escaped c n₃₈ n₆₀ n₆₂ n₃₄ n₃₉ n₉ n₁₀ n₁₃ =
    simp (ne_eqb c 38 n₃₈, ne_eqb c 60 n₆₀, ne_eqb c 62 n₆₂, ne_eqb c 34 n₃₄, ne_eqb c 39 n₃₉, ne_eqb c 9 n₉, ne_eqb c 10 n₁₀, ne_eqb c 13 n₁₃)

-- above the control characters only the ranges decide
pub above : (c : ℕ) → 0x20 ≤ c → is_xml c ≡ (leb c 0xd7ff || (leb 0xe000 c && leb c 0xfffd) || (leb 0x1_0000 c && leb c 0x10_ffff))
above c h = simp (ne_eqb c 9 (λ e. omega arith), ne_eqb c 10 (λ e. omega arith), ne_eqb c 13 (λ e. omega arith), le-leb 0x20 c h)
