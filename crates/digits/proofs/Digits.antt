-- Laws of the digits of rules.Numerals, once over the base: the last digit, and how many digits a number has.
--     digits_low, digits_high : below the base one digit; else those of the quotient, and then that of the remainder
--     digits_last : so they are the last digits, as many as the powers of the base say
use mathlib.Core.Path.{◌≡◌, refl, ap, sym, ◌∙◌}
use mathlib.Core.Bool.{Bool, true, false}
use mathlib.Core.List.{[], ◌∷◌, ◌++◌, append_assoc}
use mathlib.Core.Logic.{◌⊎◌, inl, inr}
use Prim.Native.Nat.{ℕ, zero, suc, ◌*◌, ◌-◌, ◌/◌, ◌%◌, ◌^◌, ◌≤◌, ◌<◌}
use native.Mathlib.Nat.{div-lt_self, div-mul-le_self, mod-lt, mod-eq-sub-div-mul, pow-suc, pow-zero, one-mul, one-le-pow, mod-eq_of_lt, div-lt_iff_lt-mul}
use native.Mathlib.Nat.{mul-le-mul_right, le-div_iff_mul-le}
use native.Mathlib.Omega.{arith}
use borrow.Author.Tests.{ltb-true, ltb-false, lt-ltb, le-ltb}
use lib.Dec.{ltb}
use lib.ListN.{length, length-append}
use Rattle.rules.specs.Bytes.{Text}
use Rattle.rules.specs.Numerals.{lower, digits, last_digits}
use Rattle.digits.specs.Digits.{Base}

pub base_bounds : {base : ℕ} → Base base → (10 ≤ base) × (base ≤ 16)
base_bounds (inl e) = (omega arith, omega arith)
base_bounds (inr e) = (omega arith, omega arith)

-- what the quotient leaves of n is its last digit
pub remainder : {base : ℕ} → Base base → (n : ℕ) → (n / base * base ≤ n) × (n - n / base * base ≡ n % base) × (n % base < 16)
remainder {base} b n =
    let t = base_bounds b in
    (div-mul-le_self n base, sym (mod-eq-sub-div-mul n base), omega (arith, mod-lt n {m = base} (omega arith)))

few : (base k n : ℕ) (after : Text) → n < base → digits base (suc k) n after ≡ lower n ∷ after
unfolding digits
few base k n after h = rw (digits, lt-ltb n base h)

more : (base k n : ℕ) (after : Text) → base ≤ n → digits base (suc k) n after ≡ digits base k (n / base) (lower (n % base) ∷ after)
unfolding digits
more base k n after h = rw (digits, le-ltb n base h)

-- what stands after the digits is only carried along
before : (base k n : ℕ) (after : Text) → digits base k n after ≡ digits base k n [] ++ after
unfolding digits
before base zero n after = refl
before base (suc k) n after = go (ltb n base) refl (λ a. before base k (n / base) a)
  where
    go : (t : Bool) → ltb n base ≡ t → ((a : Text) → digits base k (n / base) a ≡ digits base k (n / base) [] ++ a)
        → digits base (suc k) n after ≡ digits base (suc k) n [] ++ after
    go true e ih = let h = ltb-true n base e in rw (few base k n after h, few base k n [] h)
    go false e ih =
        let h = ltb-false n base e in
        let d = lower (n % base) in
        rw (more base k n after h, more base k n [] h)
        (ih (d ∷ after) ∙ sym (append_assoc (digits base k (n / base) []) (d ∷ []) after) ∙ ap (◌++ after) (sym (ih (d ∷ []))))

module _ (base : ℕ) (two : 2 ≤ base) where
  -- any bound on the count of digits gives the same digits
  bounds : (k j n : ℕ) (after : Text) → n ≤ k → n ≤ j → digits base k n after ≡ digits base j n after
  unfolding digits
  bounds zero zero n after h g = refl
  bounds zero (suc j) n after h g = sym (few base j n after (omega arith))
  bounds (suc k) zero n after h g = few base k n after (omega arith)
  bounds (suc k) (suc j) n after h g = go (ltb n base) refl (λ p q. bounds k j (n / base) (lower (n % base) ∷ after) p q)
    where
      go : (t : Bool) → ltb n base ≡ t
          → (n / base ≤ k → n / base ≤ j → digits base k (n / base) (lower (n % base) ∷ after) ≡ digits base j (n / base) (lower (n % base) ∷ after))
          → digits base (suc k) n after ≡ digits base (suc j) n after
      go true e ih = let l = ltb-true n base e in few base k n after l ∙ sym (few base j n after l)
      go false e ih =
          let l = ltb-false n base e in
          let less : n / base < n = div-lt_self (omega arith) two in
          more base k n after l ∙ ih (omega arith) (omega arith) ∙ sym (more base j n after l)

  pub digits_low : (n : ℕ) → n < base → digits base n n [] ≡ lower n ∷ []
  digits_low n h = bounds n (suc n) n [] (omega arith) (omega arith) ∙ few base n n [] h

  pub digits_high : (n : ℕ) → base ≤ n → digits base n n [] ≡ digits base (n / base) (n / base) [] ++ (lower (n % base) ∷ [])
  digits_high n h =
      let less : n / base < n = div-lt_self (omega arith) two in
      bounds n (suc n) n [] (omega arith) (omega arith)
      ∙ more base n n [] h
      ∙ before base n (n / base) (lower (n % base) ∷ [])
      ∙ ap (◌++ (lower (n % base) ∷ [])) (bounds n (n / base) (n / base) [] (omega arith) (omega arith))

  -- they are its last digits, as many as the powers of the base say
  pub digits_last : (k n : ℕ) → n < base ^ suc k → (k ≡ 0) ⊎ (base ^ k ≤ n) → digits base n n [] ≡ last_digits lower base (suc k) n
  unfolding last_digits
  digits_last zero n h some =
      let low : n < base = rw (pow-suc, pow-zero, one-mul) at h in
      digits_low n low ∙ ap (λ (d : ℕ). lower d ∷ []) (sym (mod-eq_of_lt low))
  digits_last (suc k) n h (inl e) = absurd (omega arith)
  digits_last (suc k) n h (inr g) =
      let before : base ^ k ≤ n / base = (le-div_iff_mul-le {k = base} {x = base ^ k} {y = n} (omega arith)).1 (rw pow-suc at g) in
      let high : base ≤ n = omega (arith, mul-le-mul_right base (one-le-pow k base (omega arith)), pow-suc base k) in
      digits_high n high
      ∙ ap (◌++ (lower (n % base) ∷ []))
      (digits_last k (n / base) ((div-lt_iff_lt-mul {k = base} {x = n} {y = base ^ suc k} (omega arith)).1 (rw (pow-suc base (suc k)) at h)) (inr before))

pub last_length : (digit : ℕ → ℕ) (base k n : ℕ) → length (last_digits digit base k n) ≡ k
unfolding last_digits
last_length digit base zero n = refl
last_length digit base (suc k) n = rw length-append (omega (arith, last_length digit base k (n / base)))
