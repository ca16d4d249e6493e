-- Rounding by shifts: a significand of 53 bits serves both formats, and 64 bits are enough.
--     thousandths_64, thousandths_32 : thousandths are a multiple of 1000 over one power of 2
--     to_lower, to_upper, to_even : the three ways that a shift is rounded
use mathlib.Core.Path.{◌≡◌, refl, sym, ◌∙◌}
use mathlib.Core.Bool.{Bool, true, false}
use Prim.Native.Nat.{ℕ, ◌+◌, ◌*◌, ◌-◌, ◌/◌, ◌%◌, ◌^◌, ◌≤◌, ◌<◌, max}
use native.Mathlib.Nat.{mul_assoc, mul_comm, mod-eq_of_lt, mod-eq-sub-div-mul, div-mul-le_self, one-mul}
use native.Mathlib.Omega.{arith}
use borrow.Author.Tests.{lt-ltb, le-ltb, ne_eqb}
use lib.Dec.{eqb, lit<}
use lib.Pow.{pow-lt, shr_le}
use Rattle.std.specs.Prelude.{if◌then◌else◌}
use Rattle.rules.specs.Reals.{real32, real64, fraction_of, exponent_of, significand, above, below, nearest, thousandths}
use Rattle.laws.specs.Nearest.{nearest_scaled}
use Rattle.laws.specs.Reals.{nearest_shifted}
use Rattle.real.specs.Forms.{wide, scaled_of}

pub scaled_none : (exponent fraction top r : ℕ) → exponent ≡ 0 → 0 < top → r ≡ nearest (1_000 * fraction) (2 ^ (top - 1)) → r ≡ scaled_of exponent fraction top
scaled_none exponent fraction top r e h is =
    let t : top - 1 + 1 ≡ top = omega arith in
    is ∙ rw e (sym (rw t at (nearest_shifted fraction 1 (top - 1))))

pub scaled_some : (exponent fraction top r : ℕ) → (exponent ≡ 0 → ⊥) → exponent ≤ top → r ≡ nearest (1_000 * (2 ^ 52 + fraction)) (2 ^ (top - exponent))
    → r ≡ scaled_of exponent fraction top
scaled_some exponent fraction top r n h is =
    let t : top - exponent + exponent ≡ top = omega arith in
    let m : max 1 exponent ≡ exponent = omega (arith, n) in
    is ∙ rw (ne_eqb exponent 0 n, m) (sym (rw t at (nearest_shifted (2 ^ 52 + fraction) exponent (top - exponent))))

-- Real64 has such a significand, and Real32 after a shift
pub thousandths_64 : (bits r : ℕ) → r ≡ scaled_of (exponent_of real64 bits) (fraction_of real64 bits) 1_075 → r ≡ thousandths real64 bits
unfolding thousandths above below
thousandths_64 bits r is = is

widened : (exponent fraction : ℕ) → wide exponent (fraction * 2 ^ 29) ≡ (if eqb exponent 0 then fraction else 2 ^ 23 + fraction) * 2 ^ 29
widened exponent fraction = go (eqb exponent 0) refl
  where
    go : (t : Bool) → eqb exponent 0 ≡ t → wide exponent (fraction * 2 ^ 29) ≡ (if eqb exponent 0 then fraction else 2 ^ 23 + fraction) * 2 ^ 29
    go true e = rw e
    go false e = rw e (omega arith)

pub thousandths_32 : (bits r : ℕ) → r ≡ scaled_of (exponent_of real32 bits) (fraction_of real32 bits * 2 ^ 29) 179 → r ≡ thousandths real32 bits
unfolding thousandths above below
thousandths_32 bits r is =
    let x = exponent_of real32 bits in
    let m = significand real32 bits in
    let p = 2 ^ max 1 x in
    let e : 1_000 * (m * 2 ^ 29 * p) ≡ 1_000 * (m * p) * 2 ^ 29 = omega (arith, mul_assoc m (2 ^ 29) p, mul_comm (2 ^ 29) p, mul_assoc m p (2 ^ 29)) in
    is ∙ rw (widened x (fraction_of real32 bits), e) (nearest_scaled (1_000 * (m * 2 ^ max 1 x)) (2 ^ 150) (2 ^ 29) (lit< tt))

-- a shift to the right and back, what it leaves, and a power of 2
module _ (n s : ℕ) (range : n < 2 ^ 63) (h : s ≤ 63) where
  back : (n / 2 ^ s * 2 ^ s) % 2 ^ 64 ≡ n / 2 ^ s * 2 ^ s
  back = mod-eq_of_lt (omega (arith, div-mul-le_self n (2 ^ s)))

  pub back_most : (n / 2 ^ s * 2 ^ s) % 2 ^ 64 ≤ n
  back_most = rw back (div-mul-le_self n (2 ^ s))

  rest_is : n - (n / 2 ^ s * 2 ^ s) % 2 ^ 64 ≡ n % 2 ^ s
  rest_is = rw back (sym (mod-eq-sub-div-mul n (2 ^ s)))

  divisor_is : (1 * 2 ^ s) % 2 ^ 64 ≡ 2 ^ s
  divisor_is = rw one-mul (mod-eq_of_lt (pow-lt {i = s} {j = 64} (omega arith)))

  whole_most : n / 2 ^ s < 2 ^ 63
  whole_most = omega (arith, shr_le n s)

  pub next_fits : n / 2 ^ s + 1 < 2 ^ 64
  next_fits = let w = whole_most in omega arith

  -- the three ways that it is rounded
  module _ (rest divisor : ℕ) (r : rest ≡ n - (n / 2 ^ s * 2 ^ s) % 2 ^ 64) (d : divisor ≡ (1 * 2 ^ s) % 2 ^ 64) where
    pub to_lower : rest + rest < divisor → n / 2 ^ s ≡ nearest n (2 ^ s)
    unfolding nearest
    to_lower l =
        let g : n % 2 ^ s + n % 2 ^ s < 2 ^ s = rw (r, rest_is, d, divisor_is) at l in
        rw (lt-ltb (n % 2 ^ s + n % 2 ^ s) (2 ^ s) g)

    pub to_upper : divisor < rest + rest → n / 2 ^ s + 1 ≡ nearest n (2 ^ s)
    unfolding nearest
    to_upper l =
        let g : 2 ^ s < n % 2 ^ s + n % 2 ^ s = rw (r, rest_is, d, divisor_is) at l in
        rw (le-ltb (n % 2 ^ s + n % 2 ^ s) (2 ^ s) (omega arith), lt-ltb (2 ^ s) (n % 2 ^ s + n % 2 ^ s) g) (omega arith)

    pub to_even : divisor ≤ rest + rest → rest + rest ≤ divisor → n / 2 ^ s + n / 2 ^ s % 2 ≡ nearest n (2 ^ s)
    unfolding nearest
    to_even l k =
        let g : 2 ^ s ≤ n % 2 ^ s + n % 2 ^ s = rw (r, rest_is, d, divisor_is) at l in
        let j : n % 2 ^ s + n % 2 ^ s ≤ 2 ^ s = rw (r, rest_is, d, divisor_is) at k in
        rw (le-ltb (n % 2 ^ s + n % 2 ^ s) (2 ^ s) g, le-ltb (2 ^ s) (n % 2 ^ s + n % 2 ^ s) j)
