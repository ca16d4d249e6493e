-- What is left where the zeros at the end of a list are dropped, of units as of bytes.
--     zero_dropped, unit_kept, tail_dropped : of units whose last is not zero, and any number of zeros behind them, exactly the zeros go
--     kept_front, kept_most : what is left is the front of the list, and no longer than it
--     units_without : a unit goes exactly if both of its bytes go, so that of an odd count of bytes that are left the next stays as well
-- Each by induction over the list; `units_without` takes two bytes at a time.
use Rattle.std.specs.Prelude.{◌≡◌, refl, Bool, true, false, List, [], ◌∷◌, ◌++◌, ℕ, zero}
use Rattle.std.specs.Prelude.{suc, ◌+◌, ◌*◌, ◌-◌, ◌%◌, ◌≤◌, eqb, length, take, replicate, if◌then◌else◌}
use Rattle.std.proofs.Common.{ap, sym, ◌∙◌, append-nil, append_assoc, arith, eq-eqb, ne_eqb, eqb-true, length-take}
use Rattle.std.proofs.lemmas.Bool.{eqb-false}
use Rattle.rules.specs.Names.{units}
use Rattle.rules.specs.Strings.{unless_zero_last, without_zeros}

-- a zero at the end is dropped
pub zero_dropped : (us : List ℕ) → without_zeros (us ++ 0 ∷ []) ≡ without_zeros us
unfolding without_zeros
zero_dropped [] = refl
zero_dropped (u ∷ us) = rw (zero_dropped us)

-- a unit at the end that is not zero is kept, and so are all before it
pub unit_kept : (us : List ℕ) (u : ℕ) → (u ≡ 0 → ⊥) → without_zeros (us ++ u ∷ []) ≡ us ++ u ∷ []
unfolding without_zeros
unit_kept [] u n = rw (ne_eqb u 0 n)
unit_kept (v ∷ us) u n = rw (unit_kept us u n) (before us)
  where
    before : (us : List ℕ) → unless_zero_last v (us ++ u ∷ []) ≡ v ∷ (us ++ u ∷ [])
    before [] = refl
    before (w ∷ us) = refl

-- any number of zeros at the end are dropped
pub tail_dropped : (us : List ℕ) (k : ℕ) → without_zeros (us ++ replicate k 0) ≡ without_zeros us
tail_dropped us zero = rw append-nil
tail_dropped us (suc k) = ap without_zeros (sym (append_assoc us (0 ∷ []) (replicate k 0))) ∙ tail_dropped (us ++ 0 ∷ []) k ∙ zero_dropped us

-- what is left of u and the units behind it
front : (u : ℕ) (us ws : List ℕ) → take (length ws) us ≡ ws → take (length (unless_zero_last u ws)) (u ∷ us) ≡ unless_zero_last u ws
front u us [] e = go (eqb u 0)
  where
    go : (t : Bool) → take (length (if t then [] else u ∷ [])) (u ∷ us) ≡ (if t then [] else u ∷ [])
    go true = refl
    go false = refl
front u us (w ∷ ws) e = ap (u ∷◌) e

pub kept_front : (us : List ℕ) → take (length (without_zeros us)) us ≡ without_zeros us
unfolding without_zeros
kept_front [] = refl
kept_front (u ∷ us) = front u us (without_zeros us) (kept_front us)

pub kept_most : (us : List ℕ) → length (without_zeros us) ≤ length us
kept_most us = let e = rw length-take at (ap length (kept_front us)) in omega arith

-- the units of x, y and the bytes b, of which ws are left: where a byte of b is left, a unit is left behind that of x and y
module _ (x y : ℕ) where
  none_behind : (b us : List ℕ) → [] ≡ us → units (take (let r = length (unless_zero_last x (unless_zero_last y [])) in r + r % 2) (x ∷ y ∷ b))
      ≡ unless_zero_last (x + 256 * y) us
  none_behind b us e = rw (← e) (go (eqb y 0) (eqb x 0) refl refl)
    where
      go : (s t : Bool) → eqb y 0 ≡ s → eqb x 0 ≡ t → units (take (let r = length (unless_zero_last x (unless_zero_last y [])) in r + r % 2) (x ∷ y ∷ b))
          ≡ unless_zero_last (x + 256 * y) []
      go true true f g = let z = eqb-true y 0 f in let w = eqb-true x 0 g in rw (f, g, eq-eqb (x + 256 * y) 0 (omega arith))
      go true false f g = let w = eqb-false x 0 g in rw (f, g, ne_eqb (x + 256 * y) 0 (λ n. w (omega arith)))
      go false t f g = let w = eqb-false y 0 f in rw (f, ne_eqb (x + 256 * y) 0 (λ n. w (omega arith)))

  some_behind : (b us ws : List ℕ) (w : ℕ) → length b % 2 ≡ 0 → take (suc (length ws)) b ≡ w ∷ ws → units (take (suc (length ws) + suc (length ws) % 2) b) ≡ us
      → units (take (suc (suc (suc (length ws))) + suc (suc (suc (length ws))) % 2) (x ∷ y ∷ b)) ≡ unless_zero_last (x + 256 * y) us
  some_behind (v ∷ v' ∷ b) us ws w h k e =
      let n = length ws in
      let m = n + suc n % 2 - 1 in
      let two : suc n + suc n % 2 ≡ suc (suc m) = omega arith in
      let four : suc (suc (suc n)) + suc (suc (suc n)) % 2 ≡ suc (suc (suc (suc m))) = omega arith in
      rw (four, ← e, two)
  some_behind [] us ws w h k e = absurd (let z = ap length k in omega arith)
  some_behind (v ∷ []) us ws w h k e = absurd (omega arith)

-- units without the zeros at their end, by the bytes
pub units_without : (b : List ℕ) → length b % 2 ≡ 0 → units (take (length (without_zeros b) + length (without_zeros b) % 2) b) ≡ without_zeros (units b)
unfolding without_zeros
units_without [] e = refl
units_without (x ∷ []) e = absurd (omega arith)
units_without (x ∷ y ∷ b) e = go (without_zeros b) (kept_front b) (units_without b (omega arith))
  where
    go : (ws : List ℕ) → take (length ws) b ≡ ws → units (take (length ws + length ws % 2) b) ≡ without_zeros (units b)
        → units (take (let r = length (unless_zero_last x (unless_zero_last y ws)) in r + r % 2) (x ∷ y ∷ b))
        ≡ unless_zero_last (x + 256 * y) (without_zeros (units b))
    go [] k h = none_behind x y b (without_zeros (units b)) h
    go (w ∷ ws) k h = some_behind x y b (without_zeros (units b)) ws w (omega arith) k h
