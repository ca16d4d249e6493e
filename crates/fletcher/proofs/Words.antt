-- A loop over the words of some bytes leaves their sums.
use Rattle.std.proofs.Common.{◌≡◌, ℕ, suc, ◌+◌, ◌-◌, ◌/◌, ◌%◌, ◌^◌, ◌<◌, ◌≤◌, List, ◌++◌, length, take, drop, length-append, sym, refl, ap, ◌∙◌, ap₂, arith}
use Rattle.std.proofs.Math.Seq.{take_all, take-append_seam, drop-append_seam, drop-drop}
use Rattle.rules.specs.Bytes.{number, number_at}
use Rattle.fletcher.specs.declared.Sums.{Sums}
use Rattle.fletcher.specs.Sums.{with_number, over_words, summed}

-- two additions modulo 2^64 give the sums after one more number
pub with_number_lem : (s : Sums) (n : ℕ) {a b : ℕ} → a ≡ (s.first + n) % 2 ^ 64 → b ≡ (s.second + a) % 2 ^ 64
    → ◌≡◌ {A = Sums} (record { first = a; second = b }) (with_number s n)
with_number_lem s n e f = ap₂ {C = Sums} (λ (x y : ℕ). record { first = x; second = y }) e (f ∙ ap (λ (x : ℕ). (s.second + x) % 2 ^ 64) e)

-- A loop over the full words, from sums s₀ on: those that are left, at the end of the bytes, lead to the sums of them all.
pub record SummingWords (s₀ : Sums) (bytes left : List ℕ) (s : Sums) : Type 0 where
  pub rest : over_words (length left / 8) (length bytes - length left) bytes s ≡ over_words (length bytes / 8) 0 bytes s₀
  pub suffix : left ≡ drop (length bytes - length left) bytes
  pub inside : length left ≤ length bytes

module _ {s₀ : Sums} {bytes : List ℕ} where
  pub words_start : SummingWords s₀ bytes bytes s₀
  words_start =
      let z : length bytes - length bytes ≡ 0 = omega arith in
      record { rest = ap (λ (i : ℕ). over_words (length bytes / 8) i bytes s₀) z; suffix = rw z refl; inside = omega arith }

  pub words_on : {left : List ℕ} (word more : List ℕ) {s r : Sums} → SummingWords s₀ bytes left s → left ≡ word ++ more → length word ≡ 8
      → r ≡ with_number s (number_at 0 8 word) → SummingWords s₀ bytes more r
  words_on {left} word more {s} {r} p e l n =
      let i = length bytes - length left in
      let long : length left ≡ 8 + length more = rw e (length-append word more ∙ ap (λ (k : ℕ). k + length more) l) in
      let one : length left / 8 ≡ suc (length more / 8) = omega arith in
      let on : i + 8 ≡ length bytes - length more = omega (arith, p.inside) in
      let here : number_at 0 8 word ≡ number_at i 8 bytes =
      ap number (take_all 8 word (omega arith) ∙ sym (rw l at (take-append_seam word more)) ∙ ap (take 8) (sym e ∙ p.suffix)) in
      record {
        rest =
            ap₂ (λ (k : ℕ) (x : Sums). over_words (length more / 8) k bytes x) (sym on) (n ∙ ap (with_number s) here)
            ∙ rw one at p.rest;
        suffix = sym (rw l at (drop-append_seam word more)) ∙ ap (drop 8) (sym e ∙ p.suffix) ∙ drop-drop 8 i bytes ∙ ap (λ (k : ℕ). drop k bytes) on;
        inside = omega (arith, p.inside);
      }

  pub words_end : {left : List ℕ} {s r t : Sums} {k : ℕ} → SummingWords s₀ bytes left s → length left < 8
      → k ≡ number_at (length bytes - length bytes % 8) 8 bytes → r ≡ with_number s k → t ≡ with_number r (length bytes) → t ≡ summed s₀ bytes
  unfolding summed
  words_end {left} {s} {r} {t} {k} p h l e f =
      let none : length left / 8 ≡ 0 = omega arith in
      f ∙ ap (λ (x : Sums). with_number x (length bytes)) (e ∙ ap₂ with_number (rw none at p.rest) l)
