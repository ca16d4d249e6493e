-- Comparing two lists byte by byte: what is left decides, once all before it is the same.
use mathlib.Core.Path.{◌≡◌, refl, ap, ap₂, sym, ◌∙◌}
use mathlib.Core.Bool.{Bool, true, false, ◌&&◌}
use mathlib.Core.List.{List, [], ◌∷◌}
use Prim.Native.Nat.{ℕ, suc, ◌+◌, ◌-◌, ◌≤◌, ◌<◌}
use native.Mathlib.Numerals.{add-one}
use native.Mathlib.Omega.{arith}
use borrow.Author.Tests.{eq-eqb, ne_eqb}
use lib.Dec.{eqb}
use lib.ListN.{length, drop, get_or, drop_of_length-le, length-take, length-drop}
use lib.Seq.{drop-cons, get_or-take, get_or-drop, take-nil}
use Rattle.rules.specs.Bytes.{part, same}

-- the first k bytes of the two are the same
pub record Comparing (l m : List ℕ) (k : ℕ) : Type 0 where
  pub rest : same (drop k l) (drop k m) ≡ same l m

both_cons : (l m : List ℕ) (k : ℕ) → k < length l → k < length m
    → same (drop k l) (drop k m) ≡ eqb (get_or l k 0) (get_or m k 0) && same (drop (suc k) l) (drop (suc k) m)
both_cons l m k h g = ap₂ same (drop-cons l k 0 h) (drop-cons m k 0 g)

pub compare_start : {l m : List ℕ} → Comparing l m 0
compare_start = record { rest = refl }

module _ {l m : List ℕ} (k : ℕ) (long : length l ≡ length m) where
  compare_step : Comparing l m k → k < length m → get_or l k 0 ≡ get_or m k 0 → Comparing l m (k + 1)
  compare_step p h e = record {
    rest = rw add-one (sym
        (both_cons l m k (omega arith) h ∙ ap (λ (t : Bool). t && same (drop (suc k) l) (drop (suc k) m)) (eq-eqb (get_or l k 0) (get_or m k 0) e)) ∙ p.rest);
  }

  compare_other : Comparing l m k → k < length m → (get_or l k 0 ≡ get_or m k 0 → ⊥) → false ≡ same l m
  compare_other p h n =
      sym (both_cons l m k (omega arith) h ∙ ap (λ (t : Bool). t && same (drop (suc k) l) (drop (suc k) m)) (ne_eqb (get_or l k 0) (get_or m k 0) n)) ∙ p.rest

  compare_end : Comparing l m k → length m ≤ k → true ≡ same l m
  compare_end p h = sym (ap₂ same (drop_of_length-le l {i = k} (omega arith)) (drop_of_length-le m {i = k} h)) ∙ p.rest

-- lists of different lengths are not the same
pub same_shorter : (l m : List ℕ) → length l < length m → false ≡ same l m
same_shorter [] [] h = absurd (omega arith)
same_shorter [] (y ∷ m) h = refl
same_shorter (x ∷ l) [] h = absurd (omega arith)
same_shorter (x ∷ l) (y ∷ m) h = sym (rw (← same_shorter l m (omega arith)) (none (eqb x y)))
  where
    none : (t : Bool) → t && false ≡ false
    none true = refl
    none false = refl

-- a part is no longer than what there is
pub part_room : (i n : ℕ) (l : List ℕ) → length (part i n l) ≤ length l - i
part_room i n l = simp (length-take, length-drop) (omega arith)

same_nil : (m : List ℕ) → eqb (length m) 0 ≡ same [] m
same_nil [] = refl
same_nil (y ∷ m) = ne_eqb (length (y ∷ m)) 0 (λ e. omega arith)

-- past the end only the empty list stands
pub same_past : (i : ℕ) (s known : List ℕ) → length s < i → eqb (length known) 0 ≡ same (part i (length known) s) known
same_past i s known h = rw (drop_of_length-le s {i = i} (omega arith), take-nil (length known)) (same_nil known)

-- known bytes compared with those at i of s, of which k are the same
module _ (i : ℕ) (s known : List ℕ) (room : i + length known ≤ length s) (k : ℕ) (inv : Comparing (part i (length known) s) known k) where
  long : length (part i (length known) s) ≡ length known
  long = simp (length-take, length-drop) (omega arith)

  byte_at : k < length known → get_or (part i (length known) s) k 0 ≡ get_or s (i + k) 0
  byte_at h = rw (get_or-take (length known) (drop i s) k 0 h, get_or-drop i s k 0)

  pub at_step : k < length known → get_or s (i + k) 0 ≡ get_or known k 0 → Comparing (part i (length known) s) known (k + 1)
  at_step h e = compare_step k long inv h (byte_at h ∙ e)

  pub at_other : k < length known → (get_or s (i + k) 0 ≡ get_or known k 0 → ⊥) → false ≡ same (part i (length known) s) known
  at_other h n = compare_other k long inv h (λ e. n (sym (byte_at h) ∙ e))

  pub at_end : length known ≤ k → true ≡ same (part i (length known) s) known
  at_end h = compare_end k long inv h
