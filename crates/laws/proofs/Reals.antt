-- What `is_decimal_lem` says of the exponent of a magnitude that is written as a decimal.
use Rattle.std.specs.Prelude.{◌≡◌, true, ℕ, ◌+◌, ◌-◌, ◌^◌, ◌≤◌, ◌<◌}
use Rattle.std.proofs.Common.{sym, ◌∙◌, ltb-true}
use Rattle.rules.specs.Reals.{Format, bias, exponent_of, is_decimal}
use Rattle.laws.specs.Reals.{is_decimal_lem}

-- the exponent of a magnitude that is written as a decimal
pub exponent_most : (f : Format) (bits : ℕ) → bias f + 40 ≤ 2 ^ f.exponent - 1 → is_decimal f bits ≡ true → exponent_of f bits < bias f + 40
exponent_most f bits wide e = ltb-true (exponent_of f bits) (bias f + 40) (sym (is_decimal_lem f bits wide) ∙ e)
