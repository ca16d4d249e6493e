-- The last digits, stored from the last one backwards, as far as they fit: i digits of left are still to come, and with them the whole stands
-- there. Past the end they are only counted.
use mathlib.Core.Path.{◌≡◌, refl, ap, sym, ◌∙◌}
use mathlib.Core.List.{List, [], ◌∷◌, ◌++◌}
use Prim.Native.Nat.{ℕ, suc, ◌+◌, ◌-◌, ◌/◌, ◌%◌, ◌≤◌, ◌<◌}
use native.Mathlib.Nat.{add-zero, add-suc, suc-add, div-le_self}
use native.Mathlib.Omega.{arith}
use lib.ListN.{length, set, length-set}
use lib.Seq.{sets, set_comm, set_out}
use Rattle.output.specs.Output.{Wrote, emit, adv}
use Rattle.output.proofs.Output.{wrote_past}
use Rattle.rules.specs.Numerals.{last_digits}
use Rattle.digits.proofs.Digits.{last_length}

pub last_past : (digit : ℕ → ℕ) (base k n : ℕ) (out : List ℕ) (at r : ℕ) → length out ≤ at → r ≡ adv (length out) at k
    → Wrote out at (last_digits digit base k n) out r
last_past digit base k n out at r h e = wrote_past out at (last_digits digit base k n) r h (e ∙ ap (adv (length out) at) (sym (last_length digit base k n)))

-- a byte behind those that are set may be set before them
sets_last : (l out : List ℕ) (at x : ℕ) → sets (set out (at + length l) x) at l ≡ sets out at (l ++ (x ∷ []))
sets_last [] out at x = rw add-zero
sets_last (y ∷ l) out at x =
    rw (set_comm out (at + suc (length l)) at x y (λ e. omega arith), add-suc, ← suc-add)
    (sets_last l (set out at y) (suc at) x)

pub record Backwards (digit : ℕ → ℕ) (base k n : ℕ) (out₀ : List ℕ) (at : ℕ) (out : List ℕ) (i left : ℕ) : Type 0 where
  pub long : length out ≡ length out₀
  pub less : left ≤ n
  pub rest : emit out at (last_digits digit base i left) ≡ emit out₀ at (last_digits digit base k n)

module _ {digit : ℕ → ℕ} {base k n : ℕ} {out₀ : List ℕ} {at : ℕ} where
  pub back_start : Backwards digit base k n out₀ at out₀ k n
  back_start = record { long = refl; less = omega arith; rest = refl }

  module _ {out : List ℕ} {i left : ℕ} (p : Backwards digit base k n out₀ at out i left) (some : 0 < i) where
    less_next : left / base ≤ n
    less_next = omega (arith, p.less, div-le_self left base)

    -- one digit more, as far as it fits
    rest_next : emit (set out (at + (i - 1)) (digit (left % base))) at (last_digits digit base (i - 1) (left / base))
        ≡ emit out₀ at (last_digits digit base k n)
    unfolding emit last_digits
    rest_next =
        let e : suc (i - 1) ≡ i = omega arith in
        rw (last_length digit base (i - 1) (left / base)) at (sets_last (last_digits digit base (i - 1) (left / base)) out at (digit (left % base)))
        ∙ rw (← e) at p.rest

    pub back_stored : Backwards digit base k n out₀ at (set out (at + (i - 1)) (digit (left % base))) (i - 1) (left / base)
    back_stored = record { long = length-set out (at + (i - 1)) (digit (left % base)) ∙ p.long; less = less_next; rest = rest_next }

    pub back_left_out : length out ≤ at + (i - 1) → Backwards digit base k n out₀ at out (i - 1) (left / base)
    back_left_out h =
        record { long = p.long; less = less_next; rest = rw (set_out out (at + (i - 1)) (digit (left % base)) h) at rest_next }

  pub back_end : {out : List ℕ} {i left r : ℕ} → Backwards digit base k n out₀ at out i left → i ≤ 0 → r ≡ adv (length out) at k
      → Wrote out₀ at (last_digits digit base k n) out r
  unfolding emit last_digits
  back_end {out} {i} p h e =
      let z : i ≡ 0 = omega arith in
      record {
        bytes = rw z at p.rest;
        count = e ∙ rw (p.long, last_length digit base k n);
      }
