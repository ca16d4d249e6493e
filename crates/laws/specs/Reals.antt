-- Real numbers as decimals: which are, and by which fraction they are rounded.
--     is_decimal_lem : a magnitude is finite and below 2^40 exactly if its exponent is below the bias and 40 more
--     nearest_shifted : a factor of 2 ^ x goes into the denominator
--     shifted_out : from a shift of 64 on nothing is left
use Rattle.std.specs.Prelude.{◌≡◌, refl, Bool, true, false, ℕ, suc, ◌+◌, ◌*◌, ◌-◌, ◌^◌, ◌≤◌, ◌<◌, max, ltb, eqb}
use Rattle.std.proofs.Common.{ap, sym, ◌∙◌, mod-lt, mul_assoc, mul-le-mul, pow-suc, arith}
use Rattle.std.proofs.Common.{ltb-true, ltb-false, lt-ltb, le-ltb, ne_eqb, lit<, pow-add, pow_pos, shl_lt}
use Rattle.std.proofs.Math.Bool.{and-false}
use Rattle.std.proofs.Math.Nat.{pow-le-pow_right}
use Rattle.rules.specs.Reals.{Format, bias, exponent_of, is_finite, significand, above, below, nearest, is_decimal}
use Rattle.laws.specs.Nearest.{nearest_scaled, nearest_none}

-- how large a significand is
low : (f : Format) (bits : ℕ) → significand f bits < 2 ^ suc f.fraction
low f bits = go (eqb (exponent_of f bits) 0) refl
  where
    go : (t : Bool) → eqb (exponent_of f bits) 0 ≡ t → significand f bits < 2 ^ suc f.fraction
    go true e = rw e (omega (arith, pow-suc 2 f.fraction, mod-lt bits {m = 2 ^ f.fraction} (pow_pos f.fraction)))
    go false e = rw e (omega (arith, pow-suc 2 f.fraction, mod-lt bits {m = 2 ^ f.fraction} (pow_pos f.fraction)))

high : (f : Format) (bits : ℕ) → 0 < exponent_of f bits → 2 ^ f.fraction ≤ significand f bits
high f bits h = rw (ne_eqb (exponent_of f bits) 0 (λ e. omega arith)) (omega arith)

-- 2^40 times the denominator
limit : (f : Format) → 2 ^ 40 * below f ≡ 2 ^ (f.fraction + (bias f + 40))
unfolding below
limit f =
    let e : 40 + (bias f + f.fraction) ≡ f.fraction + (bias f + 40) = omega arith in
    sym (pow-add 2 40 (bias f + f.fraction)) ∙ ap (2 ^◌) e

-- a magnitude is finite and below 2^40 exactly if its exponent is below the bias and 40 more
pub is_decimal_lem : (f : Format) (bits : ℕ) → bias f + 40 ≤ 2 ^ f.exponent - 1 → is_decimal f bits ≡ ltb (exponent_of f bits) (bias f + 40)
unfolding is_decimal above
is_decimal_lem f bits wide = go (ltb (exponent_of f bits) (bias f + 40)) refl
  where
    go : (t : Bool) → ltb (exponent_of f bits) (bias f + 40) ≡ t → is_decimal f bits ≡ ltb (exponent_of f bits) (bias f + 40)
    go true e =
        let x = exponent_of f bits in
        let l = ltb-true x (bias f + 40) e in
        let finite : x < 2 ^ f.exponent - 1 = omega arith in
        let small : significand f bits * 2 ^ max 1 x < 2 ^ (suc f.fraction + max 1 x) = shl_lt (suc f.fraction) (max 1 x) (low f bits) in
        let most : 2 ^ (suc f.fraction + max 1 x) ≤ 2 ^ (f.fraction + (bias f + 40)) = pow-le-pow_right {n = 2} (lit< tt) (omega arith) in
        rw (e, lt-ltb x (2 ^ f.exponent - 1) finite, limit f) (lt-ltb (significand f bits * 2 ^ max 1 x) (2 ^ (f.fraction + (bias f + 40))) (omega arith))
    go false e =
        let x = exponent_of f bits in
        let l = ltb-false x (bias f + 40) e in
        let large : 2 ^ f.fraction * 2 ^ (bias f + 40) ≤ significand f bits * 2 ^ max 1 x =
        mul-le-mul (high f bits (omega arith)) (pow-le-pow_right {n = 2} (lit< tt) (omega arith)) in
        let most : 2 ^ (f.fraction + (bias f + 40)) ≤ significand f bits * 2 ^ max 1 x = omega (arith, large, pow-add 2 f.fraction (bias f + 40)) in
        rw (e, limit f, le-ltb (significand f bits * 2 ^ max 1 x) (2 ^ (f.fraction + (bias f + 40))) most) (and-false (is_finite f bits))

-- a factor of 2 ^ x goes into the denominator
pub nearest_shifted : (m x s : ℕ) → nearest (1_000 * (m * 2 ^ x)) (2 ^ (s + x)) ≡ nearest (1_000 * m) (2 ^ s)
nearest_shifted m x s = rw (← (mul_assoc 1_000 m (2 ^ x)), pow-add 2 s x) (nearest_scaled (1_000 * m) (2 ^ s) (2 ^ x) (pow_pos x))

-- from a shift of 64 on nothing is left
pub shifted_out : (n s : ℕ) → n < 2 ^ 63 → 63 < s → nearest n (2 ^ s) ≡ 0
shifted_out n s h g = let p : 2 ^ 64 ≤ 2 ^ s = pow-le-pow_right {n = 2} (lit< tt) {i = 64} (omega arith) in nearest_none n (2 ^ s) (omega arith)
