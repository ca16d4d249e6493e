-- A byte of two lists, one behind the other: it stands in the first, or in the second.
use Rattle.std.specs.Prelude.{◌≡◌, List, ◌++◌, ℕ, ◌+◌, ◌-◌, ◌≤◌, ◌<◌, length, get_or}
use Rattle.std.proofs.Common.{ap, sym, ◌∙◌, arith, get_or-append-add}
use Rattle.std.proofs.Math.ListN.{get_or-append}

module _ (a b : List ℕ) (i : ℕ) where
  pub in_first : i < length a → get_or a i 0 ≡ get_or (a ++ b) i 0
  in_first h = sym (get_or-append a b 0 i h)

  pub in_second : length a ≤ i → get_or b (i - length a) 0 ≡ get_or (a ++ b) i 0
  in_second h =
      let z : length a + (i - length a) ≡ i = omega arith in
      sym (get_or-append-add a b (i - length a) 0) ∙ ap (λ (j : ℕ). get_or (a ++ b) j 0) z
