-- What a call leaves that writes text into memory that may be too small: the bytes, and the next place.
--     Wrote out at text out' at' : text was written into out from place `at` on; out' and at' are what it left
-- The place stops one byte behind the memory: more is not needed to know that the text did not fit, and no caller owes a bound on it. A run
-- without memory is there to count, and its place stops at 2 ^ 63, which no slice reaches.
use Rattle.std.specs.Prelude.{◌≡◌, List, ℕ, zero, suc, ◌+◌, ◌^◌, min, max, length}
use Rattle.std.proofs.lemmas.List.Edits.{sets}

-- out with text from place `at` on, less what does not fit
unfoldable pub emit : List ℕ → ℕ → List ℕ → List ℕ
emit out at text = sets out at text

-- where the place stops in a memory of so many bytes
unfoldable pub top : ℕ → ℕ
top zero = 2 ^ 63
top (suc n) = min (suc n + 1) (2 ^ 63)

-- the place after n more bytes
unfoldable pub adv : ℕ → ℕ → ℕ → ℕ
adv room at n = max at (min (at + n) (top room))

pub record Wrote (out : List ℕ) (at : ℕ) (text : List ℕ) (out' : List ℕ) (at' : ℕ) : Type 0 where
  pub bytes : out' ≡ emit out at text
  pub count : at' ≡ adv (length out) at (length text)
