-- Facts about tests: joined by `&&` and `||`, and what the outcome of a test in code tells of a test in a rule.
use Rattle.std.specs.Prelude.{◌≡◌, refl, Bool, true, false, ◌&&◌, ◌||◌, not, ℕ, T, eqb}
use Rattle.std.proofs.Common.{sym, ◌∙◌, eq-eqb, ne_eqb}
use Rattle.std.proofs.lemmas.Bool.{not-true, not-false}

pub both : (s t : Bool) → s && t ≡ true → (s ≡ true) × (t ≡ true)
both true t e = (refl, e)
both false t e = (e, cc)

pub or_left : (s t : Bool) → T s → T (s || t)
or_left true t h = tt
or_left false t h = absurd h

pub or_right : (s t : Bool) → T t → T (s || t)
or_right true t h = tt
or_right false t h = h

module _ {r s m n : ℕ} (e : r ≡ m) (f : s ≡ n) where
  -- r and s are m and n, and equal
  pub equal : r ≡ s → eqb m n ≡ true
  equal q = eq-eqb m n (sym e ∙ q ∙ f)

  -- or they are not
  pub other : (r ≡ s → ⊥) → eqb m n ≡ false
  other q = ne_eqb m n (λ d. q (e ∙ d ∙ sym f))

module _ {r t : Bool} (e : r ≡ t) where
  -- the test t came out as r, which holds
  pub holds : not r ≡ false → t ≡ true
  holds q = sym e ∙ not-false r q

  -- or does not
  pub fails : not r ≡ true → t ≡ false
  fails q = sym e ∙ not-true r q
