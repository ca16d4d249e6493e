-- Reading a number of up to 8 bytes from its last byte to its first, once over the width.
--     number_below, number_at_below : bytes hold a number below 256 to the power of their count
--     bounded : the same, said of what a function gives
--     number_step, number_fits : one byte more, and that it does not overflow
use mathlib.Core.Path.{◌≡◌, refl, ap}
use mathlib.Core.List.{List, [], ◌∷◌}
use Prim.Native.Nat.{ℕ, zero, suc, ◌+◌, ◌*◌, ◌-◌, ◌^◌, ◌≤◌, ◌<◌}
use native.Mathlib.Nat.{pow-suc, pow-le-pow_right}
use native.Mathlib.Omega.{arith}
use lib.Dec.{lit<}
use lib.ListN.{length, take, drop, get_or, length-take}
use lib.Seq.{take-nil, get_or-drop}
use mir.Syntax.{w8}
use mir.Val.{Fits}
use Rattle.rules.specs.Bytes.{number, part, number_at}

-- the elements are bytes
abbrev pub Bytes : List ℕ → Type 0
Bytes b = (i : ℕ) → Fits w8 (get_or b i 0)

pub number_below : (b : List ℕ) → Bytes b → number b < 256 ^ length b
number_below [] h = lit< tt
number_below (x ∷ b) h = rw pow-suc (omega (arith, (h 0).fits, number_below b (λ i. h (suc i))))

pub bytes_take : (n : ℕ) (b : List ℕ) → Bytes b → Bytes (take n b)
bytes_take zero b h i = record { fits = lit< tt }
bytes_take (suc n) [] h i = h i
bytes_take (suc n) (x ∷ b) h zero = h 0
bytes_take (suc n) (x ∷ b) h (suc i) = bytes_take n b (λ j. h (suc j)) i

-- the number in n bytes at an offset
pub number_at_below : (p n : ℕ) (s : List ℕ) → Bytes s → number_at p n s < 256 ^ n
number_at_below p n s h =
    let l : length (part p n s) ≤ n = rw length-take (omega arith) in
    let q : 256 ^ length (part p n s) ≤ 256 ^ n = pow-le-pow_right {n = 256} (lit< tt) {j = n} l in
    omega (arith, number_below (part p n s) (bytes_take n (drop p s) (λ i. rw get_or-drop (h (p + i)))))

-- what a function of a width promises
pub bounded : (p n : ℕ) (s : List ℕ) → Bytes s → {r : ℕ} → r ≡ number_at p n s → (r ≡ number_at p n s) × (r < 256 ^ n)
bounded p n s h e = (e, rw e (number_at_below p n s h))

-- the number in bytes at an offset, from its first byte on; bytes that are not there count as 0
number_front : (n p : ℕ) (s : List ℕ) → number_at p (suc n) s ≡ get_or s p 0 + 256 * number_at (suc p) n s
number_front n zero [] = rw (take-nil n)
number_front n zero (x ∷ s) = refl
number_front n (suc p) [] = rw (take-nil n)
number_front n (suc p) (x ∷ s) = number_front n p s

-- reading the w bytes at p from the last to the first: v is what those from i on hold
module _ (s : List ℕ) (bytes : Bytes s) (p w i v : ℕ) (most : w ≤ 8) (some : 0 < i) (inside : i ≤ w) (is : v ≡ number_at (p + i) (w - i) s) where
  -- one byte more
  pub number_step : get_or s (p + (i - 1)) 0 + v * 256 ≡ number_at (p + (i - 1)) (w - (i - 1)) s
  number_step =
      let a : w - (i - 1) ≡ suc (w - i) = omega arith in
      let b : suc (p + (i - 1)) ≡ p + i = omega arith in
      let f = number_front (w - i) (p + (i - 1)) s in
      rw (a, is) (omega (arith, ap (λ (q : ℕ). number_at q (w - i) s) b))

  pub number_fits : get_or s (p + (i - 1)) 0 + v * 256 < 2 ^ 64
  number_fits =
      let q : 256 ^ (w - (i - 1)) ≤ 256 ^ 8 = pow-le-pow_right {n = 256} (lit< tt) {j = 8} (omega arith) in
      rw number_step (omega (arith, number_at_below (p + (i - 1)) (w - (i - 1)) s bytes))
