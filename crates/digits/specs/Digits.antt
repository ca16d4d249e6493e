-- The bases of numerals, and digits of either case.
use Rattle.std.specs.Prelude.{◌≡◌, Bool, true, false, ◌⊎◌, ℕ}
use Rattle.rules.specs.Numerals.{lower, upper}

-- the two bases
abbrev pub Base : ℕ → Type 0
Base base = (base ≡ 10) ⊎ (base ≡ 16)

-- a digit in upper case if asked
abbrev pub cased : Bool → ℕ → ℕ
cased true = upper
cased false = lower
