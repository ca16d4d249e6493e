-- Lists of bytes that are the same, as the tests of slices tell it.
use Rattle.std.proofs.Common.{◌≡◌, refl, sym, ap, ap₂, ◌∙◌, Bool, ◌&&◌, ℕ, ◌-◌, ◌≤◌, eqb, List, [], ◌∷◌, length, take, drop, length-drop, arith}
use Rattle.std.specs.Str.{bytes_eq}
use Rattle.std.specs.List.{starts_with, ends_with}
use Rattle.std.proofs.lemmas.Bool.Decides.{nat_tests}
use lib.Seq.{take_all}
use Rattle.rules.specs.Bytes.{part, same}

same_bytes : (xs ys : List ℕ) → bytes_eq xs ys ≡ same xs ys
same_bytes [] [] = refl
same_bytes [] (y ∷ ys) = refl
same_bytes (x ∷ xs) [] = refl
same_bytes (x ∷ xs) (y ∷ ys) = ap (eqb x y &&◌) (same_bytes xs ys)

turned : (x y : ℕ) → eqb y x ≡ eqb x y
turned x y = grind (arith, nat_tests)

same_turned : (xs ys : List ℕ) → bytes_eq ys xs ≡ same xs ys
same_turned [] [] = refl
same_turned [] (y ∷ ys) = refl
same_turned (x ∷ xs) [] = refl
same_turned (x ∷ xs) (y ∷ ys) = ap₂ ◌&&◌ (turned x y) (same_turned xs ys)

module _ {r t : Bool} (w known : List ℕ) where
  pub equals : {k : List ℕ} → k ≡ known → r ≡ bytes_eq w k → r ≡ t → same w known ≡ t
  equals f e g = sym (same_bytes w known) ∙ ap (bytes_eq w) (sym f) ∙ sym e ∙ g

  pub starts : r ≡ starts_with eqb w known → r ≡ t → same (take (length known) w) known ≡ t
  starts e g = sym (same_turned (take (length known) w) known) ∙ sym e ∙ g

-- fewer bytes than the known ones do not end in them
pub ends : {r : Bool} (w known : List ℕ) → r ≡ ends_with eqb w known → r ≡ same (part (length w - length known) (length known) w) known
ends w known e =
    let l = drop (length w - length known) w in
    let few : length l ≤ length known = omega (arith, length-drop (length w - length known) w) in
    e ∙ same_turned l known ∙ ap (λ (bs : List ℕ). same bs known) (sym (take_all (length known) l few))
