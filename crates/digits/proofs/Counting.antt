-- Counting digits by the powers of the base. Each power is compared with n / base, so that the next one is at most n, and fits.
use mathlib.Core.Path.{◌≡◌, refl, ap, sym, ◌∙◌}
use mathlib.Core.List.{[]}
use mathlib.Core.Logic.{◌⊎◌, inl, inr}
use Prim.Native.Nat.{ℕ, suc, ◌+◌, ◌*◌, ◌-◌, ◌/◌, ◌^◌, ◌≤◌, ◌<◌}
use native.Mathlib.Nat.{pow-zero, pow-suc, mul-le-mul_left, div-lt_iff_lt-mul, le-div_iff_mul-le}
use native.Mathlib.Omega.{arith}
use Rattle.rules.specs.Numerals.{lower, digits, last_digits}
use Rattle.digits.specs.Digits.{Base}
use Rattle.digits.proofs.Digits.{base_bounds, digits_last}

-- n has k digits or more: power is the least number of k digits
pub record Counting (base n power k : ℕ) : Type 0 where
  pub some : 0 < k
  pub is : power ≡ base ^ (k - 1)
  pub fewer : k ≤ power
  pub inside : (k - 1 ≡ 0) ⊎ (power ≤ n)

pub count_start : {base n : ℕ} → Counting base n 1 1
count_start {base} = record { some = omega arith; is = sym (pow-zero base); fewer = omega arith; inside = inl refl }

module _ {base n power k : ℕ} (b : Base base) (c : Counting base n power k) where
  pub next_inside : power ≤ n / base → power * base ≤ n
  next_inside h = let t = (base_bounds b).0 in (le-div_iff_mul-le {k = base} {x = power} {y = n} (omega arith)).0 h

  pub next_larger : (power < power * base) × (k < power * base)
  next_larger =
      let t = (base_bounds b).0 in
      let s = c.some in
      let f = c.fewer in
      (omega (arith, mul-le-mul_left power t), omega (arith, mul-le-mul_left power t))

  power_next : power * base ≡ base ^ suc (k - 1)
  power_next = rw c.is (sym (pow-suc base (k - 1)))

  pub count_step : power ≤ n / base → Counting base n (power * base) (k + 1)
  count_step h =
      let s = c.some in
      let e : k + 1 - 1 ≡ suc (k - 1) = omega arith in
      record { some = omega arith; is = power_next ∙ ap (base ^◌) (sym e); fewer = omega (arith, next_larger.1); inside = inr (next_inside h) }

  pub count_end : n / base < power → digits base n n [] ≡ last_digits lower base k n
  count_end h =
      let t = (base_bounds b).0 in
      let s = c.some in
      let e : suc (k - 1) ≡ k = omega arith in
      let below : n < power * base = (div-lt_iff_lt-mul {k = base} {x = n} {y = power} (omega arith)).0 h in
      rw e at (digits_last base (omega arith) (k - 1) n (rw power_next at below) (rw c.is at c.inside))
