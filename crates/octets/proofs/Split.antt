-- A number in m + n bytes is the number in the first m, and the number in the next n that many bytes higher: one law for every
-- width, and for bytes that are not there.
use mathlib.Core.Path.{◌≡◌, refl, ap}
use mathlib.Core.Bool.{Bool, true, false}
use mathlib.Core.List.{List, [], ◌∷◌}
use Prim.Native.Nat.{ℕ, zero, suc, ◌+◌, ◌*◌, ◌-◌, ◌^◌, ◌≤◌, min}
use native.Mathlib.Nat.{suc-add, pow-suc, pow-zero}
use native.Mathlib.Omega.{arith}
use borrow.Author.Tests.{leb-true, leb-false}
use lib.Dec.{leb}
use lib.ListN.{length, take, drop, get_or, drop_of_length-le, length-drop}
use lib.Seq.{drop-drop, take-nil, take_all}
use Rattle.rules.specs.Bytes.{number, number_at}

take_split : (m n : ℕ) (l : List ℕ) → number (take (m + n) l) ≡ number (take m l) + 256 ^ m * number (take n (drop m l))
take_split zero n l = let z : 0 + n ≡ n = omega arith in rw (z, pow-zero) (omega arith)
take_split (suc m) n [] = rw (take-nil n, take-nil (suc m + n)) (omega arith)
take_split (suc m) n (x ∷ l) = rw (suc-add m n, pow-suc) (omega (arith, take_split m n l))

-- the law
pub number_split : (i m n : ℕ) (l : List ℕ) → number_at i (m + n) l ≡ number_at i m l + 256 ^ m * number_at (i + m) n l
number_split i m n l = rw (← drop-drop m i l) (take_split m n (drop i l))

-- a number in what stands from s on
pub number_from : (s i n : ℕ) (l : List ℕ) → number_at i n (drop s l) ≡ number_at (s + i) n l
number_from s i n l = ap (λ (d : List ℕ). number (take n d)) (drop-drop i s l)

-- one byte
pub number_one : (i : ℕ) (l : List ℕ) → number_at i 1 l ≡ get_or l i 0
number_one zero [] = refl
number_one zero (x ∷ l) = omega arith
number_one (suc i) [] = refl
number_one (suc i) (x ∷ l) = number_one i l

-- nothing stands past the end
pub number_past : (i n : ℕ) (l : List ℕ) → length l ≤ i → number_at i n l ≡ 0
number_past i n l h = rw (drop_of_length-le l {i = i} h, take-nil n)

-- the bytes that are there decide
pub number_there : (i n w : ℕ) (l : List ℕ) → w ≡ min n (length l - i) → number_at i w l ≡ number_at i n l
number_there i n w l e = go (leb n (length l - i)) refl
  where
    go : (b : Bool) → leb n (length l - i) ≡ b → number_at i w l ≡ number_at i n l
    go true t =
        let h = leb-true n (length l - i) t in
        let all : w ≡ n = omega arith in
        rw all
    go false t =
        let h = leb-false n (length l - i) t in
        let d = length-drop i l in
        rw (take_all w (drop i l) (omega arith), take_all n (drop i l) (omega arith))
