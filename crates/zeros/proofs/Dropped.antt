-- Zeros at the end, as the loops pass them.
--     dropped_none, dropped_more, dropped_byte : none was passed; k bytes more, which hold the number 0; one
--     Passing, passing_start, passing_word : the same of a loop over words of eight bytes
--     kept_at, kept_nothing : the last byte that is left is not zero, or none is left
use mathlib.Core.Path.{◌≡◌, refl, ap, sym, ◌∙◌}
use mathlib.Core.List.{List, [], ◌∷◌, ◌++◌, append_assoc}
use Prim.Native.Nat.{ℕ, ◌+◌, ◌-◌, ◌≤◌, ◌<◌}
use native.Mathlib.Omega.{arith}
use lib.ListN.{length, take, drop, get_or, replicate, length-take, length-append}
use lib.Seq.{take_all, take_at, drop_at, take-add, drop-cons}
use Rattle.rules.specs.Bytes.{number, part, number_at}
use Rattle.rules.specs.Strings.{without_zeros}
use Rattle.laws.specs.Zeros.{tail_dropped, unit_kept}
use Rattle.zeros.specs.Dropped.{Dropped}

pub dropped_none : (s : List ℕ) → Dropped s (length s)
dropped_none s = record { most = omega arith; rest = ap without_zeros (take_all (length s) s (omega arith)) }

-- bytes that hold the number 0 are zeros
zeros_in : (b : List ℕ) → number b ≡ 0 → b ≡ replicate (length b) 0
zeros_in [] e = refl
zeros_in (x ∷ b) e = let z : x ≡ 0 = omega arith in rw z (ap (0 ∷◌) (zeros_in b (omega arith)))

-- the bytes before n, and the k before those
cut : (s : List ℕ) (n k : ℕ) → k ≤ n → take n s ≡ take (n - k) s ++ part (n - k) k s
cut s n k h = let z : n ≡ n - k + k = omega arith in ap (λ (i : ℕ). take i s) z ∙ take-add (n - k) k s

pub dropped_more : (s : List ℕ) (n k : ℕ) → k ≤ n → number_at (n - k) k s ≡ 0 → Dropped s n → Dropped s (n - k)
dropped_more s n k h e d =
    let b = part (n - k) k s in
    let z : without_zeros (take (n - k) s ++ b) ≡ without_zeros (take (n - k) s) = rw (zeros_in b e) (tail_dropped (take (n - k) s) (length b)) in
    record { most = let m = d.most in omega arith; rest = sym z ∙ ap without_zeros (sym (cut s n k h)) ∙ d.rest }

-- The loop over the words from the end: those that are left, and the bytes in front that fill no word, are what was not passed.
pub record Passing (s front left : List ℕ) (n : ℕ) : Type 0 where
  pub dropped : Dropped s n
  pub there : take n s ≡ front ++ left

pub passing_start : (s front left : List ℕ) → s ≡ front ++ left → Passing s front left (length s)
passing_start s front left e = record { dropped = dropped_none s; there = take_all (length s) s (omega arith) ∙ e }

module _ {s front left : List ℕ} (more word : List ℕ) {n : ℕ} (p : Passing s front left n) (e : left ≡ more ++ word) (l : length word ≡ 8) where
  ends : take n s ≡ (front ++ more) ++ word
  ends = p.there ∙ ap (front ++◌) e ∙ sym (append_assoc front more word)

  pub long : n ≡ length (front ++ more) + 8
  long = let m = p.dropped.most in let t : length (take n s) ≡ n = rw length-take (omega arith) in
      sym t ∙ ap length ends ∙ length-append (front ++ more) word ∙ ap (length (front ++ more) +◌) l

  same_cut : take (n - 8) s ++ part (n - 8) 8 s ≡ (front ++ more) ++ word
  same_cut = let h = long in sym (cut s n 8 (omega arith)) ∙ ends

  before_length : length (take (n - 8) s) ≡ n - 8
  before_length = let m = p.dropped.most in rw length-take (omega arith)

  front_length : length (front ++ more) ≡ n - 8
  front_length = let h = long in omega arith

  pub passing_word : number_at 0 8 word ≡ 0 → Passing s front more (n - 8)
  passing_word z =
      let same : part (n - 8) 8 s ≡ word =
      sym (drop_at (take (n - 8) s) (part (n - 8) 8 s) (n - 8) before_length) ∙ ap (drop (n - 8)) same_cut
      ∙ drop_at (front ++ more) word (n - 8) front_length in
      let h = long in
      record {
        dropped = dropped_more s n 8 (omega arith) (ap number (same ∙ sym (take_all 8 word (omega arith))) ∙ z) p.dropped;
        there = sym (take_at (take (n - 8) s) (part (n - 8) 8 s) (n - 8) before_length) ∙ ap (take (n - 8)) same_cut
            ∙ take_at (front ++ more) word (n - 8) front_length;
      }

-- the one byte at n
byte_at : (s : List ℕ) (n : ℕ) → n < length s → part n 1 s ≡ get_or s n 0 ∷ []
byte_at s n h = rw (drop-cons s n 0 h)

pub dropped_byte : (s : List ℕ) (n : ℕ) → 0 < n → get_or s (n - 1) 0 ≡ 0 → Dropped s n → Dropped s (n - 1)
dropped_byte s n h e d = let m = d.most in dropped_more s n 1 h (ap number (byte_at s (n - 1) (omega arith)) ∙ rw e) d

pub kept_at : (s : List ℕ) (n : ℕ) → 0 < n → (get_or s (n - 1) 0 ≡ 0 → ⊥) → Dropped s n → n ≡ length (without_zeros s)
kept_at s n h e d =
    let m = d.most in
    let z : take n s ≡ take (n - 1) s ++ get_or s (n - 1) 0 ∷ [] = rw (byte_at s (n - 1) (omega arith)) at (cut s n 1 h) in
    let k : without_zeros (take n s) ≡ take n s = ap without_zeros z ∙ unit_kept (take (n - 1) s) (get_or s (n - 1) 0) e ∙ sym z in
    let l : length (take n s) ≡ n = rw length-take (omega arith) in
    sym l ∙ ap length (sym k ∙ d.rest)

pub kept_nothing : (s : List ℕ) (n : ℕ) → n ≡ 0 → Dropped s n → n ≡ length (without_zeros s)
unfolding without_zeros
kept_nothing s n e d = rw e (ap length (rw e at d.rest))
