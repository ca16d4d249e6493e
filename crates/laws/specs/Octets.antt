-- Lists of which every number is a byte (`Octets`): parts of such a list are such lists, and so is what is joined of them.
use Rattle.std.specs.Prelude.{List, [], ◌∷◌, ◌++◌, ℕ, zero, suc, ◌+◌, ◌<◌, take, drop, replicate}
use Rattle.std.proofs.Common.{arith, get_or-drop}
use Rattle.rules.specs.Bytes.{Octets}

pub octets_drop : (n : ℕ) (b : List ℕ) → Octets b → Octets (drop n b)
octets_drop n b o i = rw (get_or-drop n b i 0) (o (n + i))

pub octets_take : (n : ℕ) (b : List ℕ) → Octets b → Octets (take n b)
octets_take zero b o i = omega arith
octets_take (suc n) [] o i = omega arith
octets_take (suc n) (x ∷ b) o zero = o 0
octets_take (suc n) (x ∷ b) o (suc i) = octets_take n b (λ j. o (suc j)) i

pub octets_append : (b c : List ℕ) → Octets b → Octets c → Octets (b ++ c)
octets_append [] c ob oc i = oc i
octets_append (x ∷ b) c ob oc zero = ob 0
octets_append (x ∷ b) c ob oc (suc i) = octets_append b c (λ j. ob (suc j)) oc i

pub octets_empty : Octets []
octets_empty i = omega arith

pub octets_more : (x : ℕ) (b : List ℕ) → x < 256 → Octets b → Octets (x ∷ b)
octets_more x b h o zero = h
octets_more x b h o (suc i) = o i

pub octets_front : (b c : List ℕ) → Octets (b ++ c) → Octets b
octets_front [] c o i = omega arith
octets_front (x ∷ b) c o zero = o 0
octets_front (x ∷ b) c o (suc i) = octets_front b c (λ j. o (suc j)) i

pub octets_zeros : (n : ℕ) → Octets (replicate n 0)
octets_zeros zero i = omega arith
octets_zeros (suc n) zero = omega arith
octets_zeros (suc n) (suc i) = octets_zeros n i
