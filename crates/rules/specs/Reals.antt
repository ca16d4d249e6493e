-- Real numbers as decimals with three places (document 02, request Six). The bits of a real number are those of IEEE 754: from the top one bit for
-- the sign, the exponent, the fraction. All is said in whole numbers: a magnitude is a fraction of two of them.
use Rattle.std.specs.Prelude.{Bool, ◌&&◌, not, List, [], ◌++◌, ℕ, suc, ◌+◌, ◌*◌, ◌-◌, ◌/◌, ◌%◌, ◌^◌, max, ltb, eqb, if◌then◌else◌}
use Rattle.rules.specs.Bytes.{number, Text, ascii}
use Rattle.rules.specs.Numerals.{decimal, padded, all_hex}

-- how many bits the fraction and the exponent have
pub record Format : Type 0 where
  pub fraction : ℕ
  pub exponent : ℕ

-- Real32 (0b), of 4 bytes
abbrev pub real32 : Format
real32 = record { fraction = 23; exponent = 8 }

-- Real64 (0c), of 8 bytes
abbrev pub real64 : Format
real64 = record { fraction = 52; exponent = 11 }

-- what the exponent is stored with
abbrev pub bias : Format → ℕ
bias f = 2 ^ (f.exponent - 1) - 1

-- the fraction, in the lowest bits
abbrev pub fraction_of : Format → ℕ → ℕ
fraction_of f bits = bits % 2 ^ f.fraction

-- the exponent as it is stored, above the fraction
abbrev pub exponent_of : Format → ℕ → ℕ
exponent_of f bits = bits / 2 ^ f.fraction % 2 ^ f.exponent

-- the sign bit, above the exponent
abbrev pub is_negative : Format → ℕ → Bool
is_negative f bits = eqb (bits / 2 ^ (f.fraction + f.exponent) % 2) 1

-- an exponent of all ones says infinity or no number
abbrev pub is_finite : Format → ℕ → Bool
is_finite f bits = ltb (exponent_of f bits) (2 ^ f.exponent - 1)

-- the fraction, and before it a one that is not stored, unless the exponent is 0
abbrev pub significand : Format → ℕ → ℕ
significand f bits = if eqb (exponent_of f bits) 0 then fraction_of f bits else 2 ^ f.fraction + fraction_of f bits

-- the magnitude of a finite real number is a fraction, `above f bits` over `below f`: significand · 2 ^ (exponent - bias - fraction), where an
-- exponent of 0 counts as 1
unfoldable pub above : Format → ℕ → ℕ
above f bits = significand f bits * 2 ^ max 1 (exponent_of f bits)

unfoldable pub below : Format → ℕ
below f = 2 ^ (bias f + f.fraction)

-- the whole number that is nearest to a / d; of two, the even one
unfoldable pub nearest : ℕ → ℕ → ℕ
nearest a d =
    let q = a / d in
    let r = a % d in
    if ltb (r + r) d then q else if ltb d (r + r) then suc q else q + q % 2

-- the magnitude in thousandths
unfoldable pub thousandths : Format → ℕ → ℕ
thousandths f bits = nearest (1_000 * above f bits) (below f)

-- no minus sign if all digits are zero
unfoldable pub sign_text : Bool → ℕ → Text
sign_text negative t = if negative && not (eqb t 0) then ascii "-" else []

-- three places
unfoldable pub places_text : Bool → ℕ → Text
places_text negative t = sign_text negative t ++ decimal (t / 1_000) ++ ascii "." ++ padded 3 (t % 1_000)

-- finite magnitudes below 2^40 are written as decimals; the magnitude is tested, not what it is rounded to
unfoldable pub is_decimal : Format → ℕ → Bool
is_decimal f bits = is_finite f bits && ltb (above f bits) (2 ^ 40 * below f)

-- a decimal; others keep the bits form
unfoldable pub real_text : Format → List ℕ → Text
real_text f b = let bits = number b in if is_decimal f bits then places_text (is_negative f bits) (thousandths f bits) else all_hex b

-- "Types 0b and 0c become decimal by default"; whoever wants the bits form asks for it by name
pub data Reals : Type 0 where
  decimals : Reals
  bits : Reals

-- a real number in the form that is asked for
abbrev pub real_in : Reals → Format → List ℕ → Text
real_in decimals f b = real_text f b
real_in bits f b = all_hex b
