-- A checksum's state that has passed i bytes of a part: what is left, gone through from here, makes the whole.
use mathlib.Core.Path.{◌≡◌, refl, ap, ap₂, sym, ◌∙◌}
use mathlib.Core.List.{List, ◌++◌}
use Prim.Native.Nat.{ℕ, ◌+◌, ◌-◌, ◌%◌, ◌≤◌, ◌<◌}
use native.Mathlib.Numerals.{add-one}
use native.Mathlib.Omega.{arith}
use lib.ListN.{length, take, drop, get_or, length-append, length-drop, drop_of_length-le, take-append-drop}
use lib.Seq.{take_all, drop-append_seam, drop-cons, drop-drop}
use Rattle.rules.specs.Checksum.{crc_byte, crc_over}
use Rattle.crc32.proofs.Parts.{over_append}
use Rattle.crc32.specs.Passing.{Passing}

module _ {state : ℕ} {part : List ℕ} where
  pub pass_start : Passing state part state 0
  pass_start = record { rest = refl }

  pub pass_step : {c i : ℕ} (next : ℕ) → i < length part → Passing state part c i → next ≡ crc_byte c (get_or part i 0) → Passing state part next (i + 1)
  unfolding crc_over
  pass_step {c} {i} next h p e = record { rest = rw (add-one, e) (sym (ap (crc_over c) (drop-cons part i 0 h)) ∙ p.rest) }

  pub pass_over : {c i : ℕ} (n next : ℕ) → Passing state part c i → next ≡ crc_over c (take n (drop i part)) → Passing state part next (i + n)
  pass_over {c} {i} n next p e =
      record {
        rest =
            ap₂ crc_over e (sym (drop-drop n i part))
            ∙ over_append c (take n (drop i part)) (drop n (drop i part))
            ∙ ap (crc_over c) (take-append-drop n (drop i part))
            ∙ p.rest;
      }

  pub pass_end : {c i : ℕ} → length part ≤ i → Passing state part c i → c ≡ crc_over state part
  unfolding crc_over
  pass_end {c} {i} h p = sym (ap (crc_over c) (drop_of_length-le part {i = i} h)) ∙ p.rest

-- what is left behind an offset was gone through by itself
pub pass_rest : {state : ℕ} {part : List ℕ} {begun at c i : ℕ} → Passing state part begun at
    → (let rest = take (length part - at) (drop at part) in length rest ≤ i → Passing begun rest c i → c ≡ crc_over state part)
pass_rest {state} {part} {begun} {at} p h q =
    pass_end h q ∙ ap (crc_over begun) (take_all (length part - at) (drop at part) (omega (arith, length-drop at part))) ∙ p.rest

-- the sixteens of a part that are left of it, each of which was passed before
pub record Sixteens (state : ℕ) (part left : List ℕ) (c : ℕ) : Type 0 where
  pub over : crc_over c left ≡ crc_over state part
  pub suffix : left ≡ drop (length part - length left) part
  pub inside : length left ≤ length part
  pub aligned : length left % 16 ≡ length part % 16

module _ {state : ℕ} {part : List ℕ} where
  pub sixteens_start : Sixteens state part part state
  sixteens_start =
      let z : length part - length part ≡ 0 = omega arith in
      record { over = refl; suffix = rw z refl; inside = omega arith; aligned = refl }

  pub sixteens_on : {c next : ℕ} {left : List ℕ} (bytes more : List ℕ) → Sixteens state part left c → left ≡ bytes ++ more → length bytes ≡ 16
      → next ≡ crc_over c bytes
      → Sixteens state part more next
  sixteens_on {c} {next} {left} bytes more p e l n =
      let long : length left ≡ 16 + length more = rw e (length-append bytes more ∙ ap (λ (k : ℕ). k + length more) l) in
      let z : length part - length left + 16 ≡ length part - length more = omega (arith, p.inside) in
      record {
        over = ap (λ (k : ℕ). crc_over k more) n ∙ over_append c bytes more ∙ ap (crc_over c) (sym e) ∙ p.over;
        suffix = sym (rw l at (drop-append_seam bytes more)) ∙ ap (drop 16) (sym e ∙ p.suffix) ∙ drop-drop 16 (length part - length left) part
            ∙ ap (λ (k : ℕ). drop k part) z;
        inside = omega (arith, p.inside);
        aligned = omega (arith, p.aligned);
      }

  pub sixteens_end : {c : ℕ} {left : List ℕ} → Sixteens state part left c → length left < 16 → Passing state part c (length part - length part % 16)
  sixteens_end {c} {left} p h =
      let z : length part - length left ≡ length part - length part % 16 = omega (arith, p.aligned) in
      record { rest = ap (λ (k : ℕ). crc_over c (drop k part)) (sym z) ∙ ap (crc_over c) (sym p.suffix) ∙ p.over }
