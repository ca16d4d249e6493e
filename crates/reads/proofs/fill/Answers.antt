-- What a turn reads is taken from the input behind what was read before, and stands behind it.
use Rattle.std.proofs.Common.{◌≡◌, ℕ, ◌+◌, List, ◌++◌, take, drop, sym, ap, ◌∙◌, subst, arith, take-add}
use Rattle.std.specs.Prelude.{Option}
use Rattle.std.specs.Io.KnownBytes.{Consumes}
use Rattle.std.proofs.KnownBytes.{Consumes-trans}
use Rattle.reads.proofs.fill.Goals as goal

one_more : (a b c : Option (List ℕ)) (n m : ℕ) (xs ys : List ℕ) → Consumes a b (take n xs) → take n ys ≡ take n xs
    → Consumes b c (take m (drop n ys)) → Consumes a c (take (n + m) ys)
one_more a b c n m xs ys p same q =
    let P : List ℕ → Type 0 = λ bs. Consumes a c bs in
    subst P (ap (λ l. l ++ take m (drop n ys)) (sym same) ∙ sym (take-add n m ys)) (Consumes-trans a b c (take n xs) (take m (drop n ys)) p q)

pub loop-count-preserved : goal.loop-count-preserved
loop-count-preserved g c = record {
  inside = omega (arith, c.read_from-more.ensures.inside, c.read_from-more.auto.memory);
  output = c.read_from-more.ensures.output ∙ c.loop-count.invariant.output;
  program = c.read_from-more.ensures.program ∙ c.loop-count.invariant.program;
  bytes = one_more _ _ _ _ _ _ _ c.loop-count.invariant.bytes c.read_from-more.ensures.kept c.read_from-more.ensures.bytes;
}
