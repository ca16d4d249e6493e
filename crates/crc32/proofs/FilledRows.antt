-- The rows of slicing by 16, as they are filled. Each row is made from the one before it by one byte of zero more, and row 0 in the same way
-- from the bytes themselves.
--     before_first, before_later : what an entry is made from
--     rows_start, rows_step : the rows as they are filled, entry by entry
--     entry_found : what an entry is, once all are filled
use mathlib.Core.Path.{◌≡◌, refl, ap, sym, ◌∙◌}
use mathlib.Core.List.{List}
use Prim.Native.Nat.{ℕ, zero, suc, ◌+◌, ◌*◌, ◌-◌, ◌≤◌, ◌<◌}
use native.Mathlib.Omega.{arith}
use borrow.Author.Count.{below_more}
use lib.ListN.{length, get_or, set, length-set}
use lib.Seq.{get_or-set_same, get_or-set_other}
use Rattle.rules.specs.Checksum.{crc_bits, crc_byte}
use Rattle.crc32.proofs.Words.{bits_more}
use Rattle.crc32.specs.Rows.{Entry, Rows}

pub rows_start : {rows : List ℕ} → length rows ≡ 4096 → Rows rows 0
rows_start e = record { long = e; entry = λ j h. absurd (omega arith) }

pub before_first : (k x : ℕ) → k < 256 → x ≡ k → Entry 0 k x
unfolding crc_bits
before_first k x h e = record { is = go }
  where
    go : (r b : ℕ) → b < 256 → r * 256 + b ≡ k → x ≡ crc_bits (8 * (r + 0)) b
    go zero b g q = omega arith
    go (suc r) b g q = absurd (omega arith)

pub before_later : (rows : List ℕ) (k x : ℕ) → Rows rows k → 256 ≤ k → x ≡ get_or rows (k - 256) 0 → Entry 0 k x
before_later rows k x f h e = record { is = go }
  where
    go : (r b : ℕ) → b < 256 → r * 256 + b ≡ k → x ≡ crc_bits (8 * (r + 0)) b
    go zero b g q = absurd (omega arith)
    go (suc r) b g q =
        let z : r + 1 ≡ suc r + 0 = omega arith in
        e ∙ rw z at ((f.entry (k - 256) (omega arith)).is r b g (omega arith))

pub rows_step : (rows : List ℕ) (k x v : ℕ) → k < 4096 → Rows rows k → Entry 0 k x → v ≡ crc_byte x 0 → Rows (set rows k v) (k + 1)
unfolding crc_byte
rows_step rows k x v h f p e =
    record {
      long = length-set rows k v ∙ f.long;
      entry = below_more (λ (j : ℕ). Entry 1 j (get_or (set rows k v) j 0)) k (λ j g. rw (get_or-set_other rows k j v 0 (λ q. omega arith)) (f.entry j g))
          (rw (get_or-set_same rows k v 0 (omega (arith, f.long))) here);
    }
  where
    here : Entry 1 k v
    here = record { is = go }
      where
        go : (r b : ℕ) → b < 256 → r * 256 + b ≡ k → v ≡ crc_bits (8 * (r + 1)) b
        go r b g q =
            let z : 8 + 8 * (r + 0) ≡ 8 * (r + 1) = omega arith in
            e ∙ ap (crc_bits 8) (p.is r b g q) ∙ sym (bits_more 8 (8 * (r + 0)) b) ∙ ap (λ (n : ℕ). crc_bits n b) z

pub entry_found : {rows : List ℕ} → Rows rows 4096 → (r b : ℕ) → r < 16 → b < 256 → get_or rows (r * 256 + b) 0 ≡ crc_bits (8 * (r + 1)) b
entry_found f r b h g = (f.entry (r * 256 + b) (omega arith)).is r b g refl
