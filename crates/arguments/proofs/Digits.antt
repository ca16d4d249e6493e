-- A word of digits, one after the other.
--     no_word, start : before the loop; on, stop, end : a turn of it, a byte that is no digit, and its end
use mathlib.Core.Path.{◌≡◌, refl, ap, sym}
use mathlib.Core.Bool.{Bool, true, false, not}
use mathlib.Core.List.{List, [], ◌∷◌}
use Rattle.std.specs.Prelude.{Option, Some, None, if◌then◌else◌}
use Prim.Native.Nat.{ℕ, suc, ◌+◌, ◌*◌, ◌-◌, ◌≤◌, ◌<◌}
use native.Mathlib.Numerals.{add-one}
use native.Mathlib.Omega.{arith}
use borrow.Author.Tests.{eq-eqb, ne_eqb, leb-true, leb-false}
use lib.Dec.{leb}
use lib.ListN.{length, drop, get_or, drop_of_length-le}
use lib.Seq.{drop-cons}
use Rattle.arguments.specs.Numbers.{is_digit, all_digits, worth_after, capped, with_digit, number_in}

-- more digits make no smaller number
grows : (n : ℕ) (ds : List ℕ) → n ≤ worth_after n ds
grows n [] = omega arith
grows n (d ∷ ds) = omega (arith, grows (10 * n + (d - 48)) ds)

-- so that what 64 bits do not hold may be capped before the others come
capped_first : (n : ℕ) (ds : List ℕ) → capped (worth_after n ds) ≡ capped (worth_after (capped n) ds)
capped_first n ds = go (leb n 0xffff_ffff_ffff_ffff) refl
  where
    go : (t : Bool) → leb n 0xffff_ffff_ffff_ffff ≡ t → capped (worth_after n ds) ≡ capped (worth_after (capped n) ds)
    go true e =
        let same : capped n ≡ n = omega (arith, leb-true n 0xffff_ffff_ffff_ffff e) in
        ap (λ (m : ℕ). capped (worth_after m ds)) (sym same)
    go false e = omega (arith, leb-false n 0xffff_ffff_ffff_ffff e, grows n ds, grows (capped n) ds)

-- the number, if the rest of the word are digits, and those before it stand for n
abbrev pub rest : ℕ → List ℕ → Option ℕ
rest n ds = if not (all_digits ds) then None else Some (capped (worth_after n ds))

module _ (w : List ℕ) where
  pub no_word : length w ≡ 0 → None ≡ number_in w
  unfolding number_in
  no_word e = rw (eq-eqb (length w) 0 e) refl

  pub start : (length w ≡ 0 → ⊥) → number_in w ≡ rest 0 w
  unfolding number_in
  start n = rw (ne_eqb (length w) 0 n) refl

  module _ (n i : ℕ) where
    module _ (h : i < length w) where
      pub on : is_digit (get_or w i 0) ≡ true → rest n (drop i w) ≡ rest (with_digit n (get_or w i 0)) (drop (i + 1) w)
      on d =
          rw (drop-cons w i 0 h, add-one i, d)
          (ap (λ (m : ℕ). if not (all_digits (drop (suc i) w)) then None else Some m) (capped_first (10 * n + (get_or w i 0 - 48)) (drop (suc i) w)))

      pub stop : is_digit (get_or w i 0) ≡ false → None ≡ rest n (drop i w)
      stop d = rw (drop-cons w i 0 h, d) refl

    pub end : length w ≤ i → n ≤ 0xffff_ffff_ffff_ffff → Some n ≡ rest n (drop i w)
    end h m = rw (drop_of_length-le w h) (ap Some (omega arith))
