-- Where the first 2a stands.
use Rattle.std.specs.Prelude.{List, [], ◌∷◌, ℕ, suc, eqb, if◌then◌else◌}

-- how many bytes stand before the first 2a; all of them where there is none
unfoldable pub before_star : List ℕ → ℕ
before_star [] = 0
before_star (x ∷ b) = if eqb x 0x2a then 0 else suc (before_star b)
