-- Digits that are read back give the number that was written.
--     shortest_back : read_back base (digits base n n []) ≡ n
--     no_leading_zero : 0 < n → get_or (digits base n n []) 0 0 ≢ 48, and the digit of 0 is "0"
--     padded_back : n < base ^ k → read_back base (last_digits lower base k n) ≡ n, in k digits
-- Once over the base; decimal and hexadecimal are base 10 and 16.
use Rattle.std.specs.Prelude.{◌≡◌, Bool, [], ◌∷◌, ◌++◌, ◌≢◌, length, if◌then◌else◌}
use Rattle.std.proofs.Math.Path.{refl, ap}
use Rattle.std.proofs.Common.{ap₂, sym, ◌∙◌, div-add-mod', div-lt_iff_lt-mul, pow-suc, le-div_iff_mul-le, arith, length-append}
use Rattle.std.proofs.Math.Bool.{true, false}
use Prim.Native.Nat.{ℕ, zero, suc, ◌+◌, ◌*◌, ◌-◌, ◌^◌, ◌/◌, ◌%◌, ◌≤◌, ◌<◌}
use Rattle.std.proofs.Math.Nat.{div-lt_self, pow-zero}
use borrow.Author.Tests.{ltb-true, ltb-false, lt-ltb, le-ltb}
use Rattle.std.proofs.Math.Dec.{ltb}
use Rattle.std.proofs.Math.ListN.{get_or}
use Rattle.rules.specs.Bytes.{Text, ascii}
use Rattle.rules.specs.Numerals.{lower, digits, decimal, last_digits}

-- the digit that a character stands for
abbrev pub digit_of : ℕ → ℕ
digit_of c = if ltb c 58 then c - 48 else c - 87

-- the number that digits make after those that made `acc`
abbrev pub read_from : ℕ → ℕ → Text → ℕ
read_from base acc [] = acc
read_from base acc (c ∷ cs) = read_from base (acc * base + digit_of c) cs

-- the number that is read back
abbrev pub read_back : ℕ → Text → ℕ
read_back base t = read_from base 0 t

digit_back : (d : ℕ) → digit_of (lower d) ≡ d
digit_back d = go (ltb d 10) refl
  where
    go : (t : Bool) → ltb d 10 ≡ t → digit_of (lower d) ≡ d
    go true e = let h = ltb-true d 10 e in rw (e, lt-ltb (48 + d) 58 (omega arith)) (omega arith)
    go false e = let h = ltb-false d 10 e in rw (e, le-ltb (87 + d) 58 (omega arith)) (omega arith)

digit_zero : (d : ℕ) → lower d ≡ 48 → d ≡ 0
digit_zero d e = sym (digit_back d) ∙ ap digit_of e

digits_few : (base k n : ℕ) (after : Text) → n < base → digits base (suc k) n after ≡ lower n ∷ after
unfolding digits
digits_few base k n after h = rw (digits, lt-ltb n base h)

digits_more : (base k n : ℕ) (after : Text) → base ≤ n → digits base (suc k) n after ≡ digits base k (n / base) (lower (n % base) ∷ after)
unfolding digits
digits_more base k n after h = rw (digits, le-ltb n base h)

module _ (base : ℕ) (two : 2 ≤ base) where
  one_back : (n : ℕ) (after : Text) → read_from base 0 (lower n ∷ after) ≡ read_from base n after
  one_back n after = ap (λ (i : ℕ). read_from base i after) (rw (digit_back n) (omega arith))

  back : (k n : ℕ) (after : Text) → n ≤ k → read_from base 0 (digits base k n after) ≡ read_from base n after
  unfolding digits
  back zero n after h = one_back n after
  back (suc k) n after h = go (ltb n base) refl (λ g. back k (n / base) (lower (n % base) ∷ after) g)
    where
      go : (t : Bool) → ltb n base ≡ t
          → (n / base ≤ k → read_from base 0 (digits base k (n / base) (lower (n % base) ∷ after)) ≡ read_from base (n / base) (lower (n % base) ∷ after))
          → read_from base 0 (digits base (suc k) n after) ≡ read_from base n after
      go true e ih = rw (digits_few base k n after (ltb-true n base e)) (one_back n after)
      go false e ih =
          let h₂ = ltb-false n base e in
          let less : n / base < n = div-lt_self (omega arith) two in
          rw (digits_more base k n after h₂) (ih (omega arith) ∙ ap (λ (i : ℕ). read_from base i after) (rw (digit_back (n % base)) (div-add-mod' n base)))

  leading : (k n : ℕ) (after : Text) → 0 < n → n ≤ k → get_or (digits base k n after) 0 0 ≢ 48
  unfolding digits
  leading zero n after p h = absurd (omega arith)
  leading (suc k) n after p h = go (ltb n base) refl (λ f g. leading k (n / base) (lower (n % base) ∷ after) f g)
    where
      go : (t : Bool) → ltb n base ≡ t → (0 < n / base → n / base ≤ k → get_or (digits base k (n / base) (lower (n % base) ∷ after)) 0 0 ≢ 48)
          → get_or (digits base (suc k) n after) 0 0 ≢ 48
      go true e ih = rw (digits_few base k n after (ltb-true n base e)) (λ q. let z = digit_zero n q in omega arith)
      go false e ih =
          let h₂ = ltb-false n base e in
          let less : n / base < n = div-lt_self (omega arith) two in
          let some : 1 ≤ n / base = (le-div_iff_mul-le {k = base} {x = 1} (omega arith)).1 (omega arith) in
          rw (digits_more base k n after h₂) (ih some (omega arith))

  -- shortest digits read back give the number
  pub shortest_back : (n : ℕ) → read_back base (digits base n n []) ≡ n
  shortest_back n = back n n [] (omega arith)

  -- and have no leading zero
  pub no_leading_zero : (n : ℕ) → 0 < n → get_or (digits base n n []) 0 0 ≢ 48
  no_leading_zero n p = leading n n [] p (omega arith)

-- decimal digits read back give the number, with no leading zero
pub decimal_back : (n : ℕ) → read_back 10 (decimal n) ≡ n
unfolding decimal
decimal_back n = shortest_back 10 (omega arith) n

pub decimal_no_zero : (n : ℕ) → 0 < n → get_or (decimal n) 0 0 ≢ 48
unfolding decimal
decimal_no_zero n p = no_leading_zero 10 (omega arith) n p

pub decimal_zero : decimal 0 ≡ ascii "0"
unfolding decimal digits
decimal_zero = refl

pub last_digits_length : (digit : ℕ → ℕ) (base k n : ℕ) → length (last_digits digit base k n) ≡ k
unfolding last_digits
last_digits_length digit base zero n = refl
last_digits_length digit base (suc k) n = simp length-append (omega (arith, last_digits_length digit base k (n / base)))

read_append : (base acc : ℕ) (s t : Text) → read_from base acc (s ++ t) ≡ read_from base (read_from base acc s) t
read_append base acc [] t = refl
read_append base acc (c ∷ s) t = read_append base (acc * base + digit_of c) s t

-- padded digits read back give the number, if it has no more digits than are written
pub padded_back : (base : ℕ) → 0 < base → (k n : ℕ) → n < base ^ k → read_back base (last_digits lower base k n) ≡ n
unfolding last_digits
padded_back base p zero n h = omega (arith, pow-zero base)
padded_back base p (suc k) n h =
    let less : n / base < base ^ k = (div-lt_iff_lt-mul p).1 (rw pow-suc at h) in
    read_append base 0 (last_digits lower base k (n / base)) (lower (n % base) ∷ [])
    ∙ ap₂ (λ (i j : ℕ). i * base + j) (padded_back base p k (n / base) less) (digit_back (n % base))
    ∙ div-add-mod' n base
