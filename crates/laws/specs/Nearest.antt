-- What `nearest` means: no whole number is nearer, and of two that are equally near it is the even one.
--     nearest_least : no whole number is nearer to a / d
--     nearest_even : one that is as near is the same, or the nearest is even
--     nearest_scaled : a fraction may be reduced
--     nearest_whole, nearest_none : of a whole number, and of less than a half
use Rattle.std.specs.Prelude.{◌≡◌, refl, Bool, true, false, ◌⊎◌, ℕ, suc, ◌+◌, ◌*◌, ◌-◌, ◌/◌, ◌%◌, ◌≤◌, ◌<◌, ltb, eqb}
use Rattle.std.proofs.Common.{ap, sym, ◌∙◌, inl, inr, suc-mul, add-mul, mul_assoc, mod-lt, div-add-mod'}
use Rattle.std.proofs.Common.{mul-le-mul_right, mul-lt-mul_of_pos_right, div-one, mod-eq_of_lt, arith, ltb-true, ltb-false, eqb-true, lt-ltb, le-ltb}
use Rattle.std.proofs.Math.Nat.{mod-add-div', mul-div-mul_right, mod-one, div-eq_of_lt}
use Rattle.std.proofs.lemmas.Bool.{eqb-false}
use Rattle.rules.specs.Reals.{nearest}

-- how far two numbers are apart
abbrev pub apart : ℕ → ℕ → ℕ
apart m n = (m - n) + (n - m)

-- the two ways that a / d is rounded: down if the rest is at most a half, up if it is at least a half; of a half the result is even
pub data Rounded (a d : ℕ) : ℕ → Type 0 where
  down : a % d + a % d ≤ d → (a % d + a % d ≡ d → a / d % 2 ≡ 0) → Rounded a d (a / d)
  up : d ≤ a % d + a % d → (a % d + a % d ≡ d → suc (a / d) % 2 ≡ 0) → Rounded a d (suc (a / d))

pub rounded : (a d : ℕ) → Rounded a d (nearest a d)
unfolding nearest
rounded a d = go (ltb (r + r) d) refl (ltb d (r + r)) refl (eqb (q % 2) 0) refl
  where
    q : ℕ
    q = a / d

    r : ℕ
    r = a % d

    go : (s : Bool) → ltb (r + r) d ≡ s → (t : Bool) → ltb d (r + r) ≡ t → (u : Bool) → eqb (q % 2) 0 ≡ u → Rounded a d (nearest a d)
    go true e t g u h = rw e (let l = ltb-true (r + r) d e in down (omega arith) (λ x. omega arith))
    go false e true g u h = let l = ltb-true d (r + r) g in rw (e, g) (up (omega arith) (λ x. omega arith))
    go false e false g true h =
        let l = ltb-false d (r + r) g in
        let z = eqb-true (q % 2) 0 h in
        let s : q + q % 2 ≡ q = omega arith in
        rw (e, g, s) (down (omega arith) (λ x. z))
    go false e false g false h =
        let l = ltb-false (r + r) d e in
        let n = eqb-false (q % 2) 0 h in
        let s : q + q % 2 ≡ suc q = omega (arith, n) in
        rw (e, g, s) (up (omega arith) (λ x. omega (arith, n)))

-- a whole number lies on one side or the other of the fraction
sides : (a d k : ℕ) → (k * d ≤ a / d * d) ⊎ (a / d * d + d ≤ k * d)
sides a d k = go (ltb (a / d) k) refl
  where
    go : (t : Bool) → ltb (a / d) k ≡ t → (k * d ≤ a / d * d) ⊎ (a / d * d + d ≤ k * d)
    go true e =
        let l = ltb-true (a / d) k e in
        let m : suc (a / d) * d ≤ k * d = mul-le-mul_right d (omega arith) in
        inr (omega (arith, m, suc-mul (a / d) d))
    go false e = inl (mul-le-mul_right d (ltb-false (a / d) k e))

-- no whole number is nearer to a / d
pub nearest_least : (a d k : ℕ) → 0 < d → apart (nearest a d * d) a ≤ apart (k * d) a
nearest_least a d k h = go (rounded a d) (sides a d k) (div-add-mod' a d) (mod-lt a {m = d} h)
  where
    go : {q : ℕ} → Rounded a d q → (k * d ≤ a / d * d) ⊎ (a / d * d + d ≤ k * d) → a / d * d + a % d ≡ a → a % d < d → apart (q * d) a ≤ apart (k * d) a
    go (down l e) (inl s) is small = omega arith
    go (down l e) (inr s) is small = omega arith
    go (up l e) (inl s) is small = rw (suc-mul (a / d) d) (omega arith)
    go (up l e) (inr s) is small = rw (suc-mul (a / d) d) (omega arith)

-- and where another is as near, this one is even
pub nearest_even : (a d k : ℕ) → 0 < d → apart (k * d) a ≡ apart (nearest a d * d) a → (k ≡ nearest a d → ⊥) → nearest a d % 2 ≡ 0
nearest_even a d k h same other = go (rounded a d) (div-add-mod' a d) (mod-lt a {m = d} h) same other
  where
    go : {q : ℕ} → Rounded a d q → a / d * d + a % d ≡ a → a % d < d → apart (k * d) a ≡ apart (q * d) a → (k ≡ q → ⊥) → q % 2 ≡ 0
    go (down l e) is small same other = e (tied_down (ltb (a / d) k) refl)
      where
        tied_down : (t : Bool) → ltb (a / d) k ≡ t → a % d + a % d ≡ d
        tied_down true f =
            let g = ltb-true (a / d) k f in
            let m : suc (a / d) * d ≤ k * d = mul-le-mul_right d (omega arith) in
            omega (arith, m, suc-mul (a / d) d)
        tied_down false f =
            let g = ltb-false (a / d) k f in
            let m : suc k * d ≤ a / d * d = mul-le-mul_right d (omega (arith, other)) in
            omega (arith, m, suc-mul k d)
    go (up l e) is small same other = e (tied_up (ltb (suc (a / d)) k) refl)
      where
        tied_up : (t : Bool) → ltb (suc (a / d)) k ≡ t → a % d + a % d ≡ d
        tied_up true f =
            let g = ltb-true (suc (a / d)) k f in
            let m : suc (suc (a / d)) * d ≤ k * d = mul-le-mul_right d (omega arith) in
            omega (arith, m, suc-mul (suc (a / d)) d, suc-mul (a / d) d)
        tied_up false f =
            let g = ltb-false (suc (a / d)) k f in
            let m : k * d ≤ a / d * d = mul-le-mul_right d (omega (arith, other)) in
            omega (arith, m, suc-mul (a / d) d)

rest_scaled : (a d c : ℕ) → 0 < c → a * c % (d * c) ≡ a % d * c
rest_scaled a d c h =
    let whole : a * c % (d * c) + a / d * (d * c) ≡ a * c = rw (mul-div-mul_right a d h) at (mod-add-div' (a * c) (d * c)) in
    let parts : a / d * d * c + a % d * c ≡ a * c = sym (add-mul (a / d * d) (a % d) c) ∙ ap (◌* c) (div-add-mod' a d) in
    omega (arith, whole, parts, mul_assoc (a / d) d c)

less_scaled : (m n c : ℕ) → 0 < c → ltb (m * c) (n * c) ≡ ltb m n
less_scaled m n c h = go (ltb m n) refl
  where
    go : (t : Bool) → ltb m n ≡ t → ltb (m * c) (n * c) ≡ ltb m n
    go true e = rw e (lt-ltb (m * c) (n * c) (mul-lt-mul_of_pos_right (ltb-true m n e) h))
    go false e = rw e (le-ltb (m * c) (n * c) (mul-le-mul_right c (ltb-false m n e)))

-- a fraction may be reduced
pub nearest_scaled : (a d c : ℕ) → 0 < c → nearest (a * c) (d * c) ≡ nearest a d
unfolding nearest
nearest_scaled a d c h =
    rw (mul-div-mul_right a d h, rest_scaled a d c h, ← (add-mul (a % d) (a % d) c), less_scaled (a % d + a % d) d c h, less_scaled d (a % d + a % d) c h)

-- a whole number is the nearest to itself
pub nearest_whole : (a : ℕ) → nearest a 1 ≡ a
unfolding nearest
nearest_whole a = rw (div-one, mod-one)

-- less than a half is nearest to none
pub nearest_none : (a d : ℕ) → a + a < d → nearest a d ≡ 0
unfolding nearest
nearest_none a d h = rw (div-eq_of_lt {n = a} {m = d} (omega arith), mod-eq_of_lt {n = a} {m = d} (omega arith), lt-ltb (a + a) d h)
