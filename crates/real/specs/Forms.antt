-- What the code names, in the words of the rules: the format of a real number, the form that is asked for, and thousandths of a significand.
use Rattle.std.specs.Prelude.{Bool, true, false, ℕ, ◌+◌, ◌*◌, ◌^◌, max, eqb, if◌then◌else◌}
use Rattle.rules.specs.Reals.{Format, real32, real64, nearest, Reals as Forms, decimals, bits}
use Rattle.real.specs.declared.Reals.{Reals}
use Rattle.real.specs.declared.Reals.TheVariants.{Decimal, Bits}

-- the format: 8 bytes, or 4
abbrev pub format_of : Bool → Format
format_of true = real64
format_of false = real32

-- the form that is asked for
abbrev pub form_of : Reals → Forms
form_of Decimal = decimals
form_of Bits = bits

-- a significand of 53 bits by its exponent and its fraction of 52
abbrev pub wide : ℕ → ℕ → ℕ
wide exponent fraction = if eqb exponent 0 then fraction else 2 ^ 52 + fraction

-- thousandths of such a significand; the denominator is 2 ^ top
abbrev pub scaled_of : ℕ → ℕ → ℕ → ℕ
scaled_of exponent fraction top = nearest (1_000 * (wide exponent fraction * 2 ^ max 1 exponent)) (2 ^ top)
