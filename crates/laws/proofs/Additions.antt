-- Adding to an index, over any form whose entries are whole bytes, where build f k chunk r ≡ value index:
--     additions_build : n ≤ length (records_of chunk) → n * entry_length f ≤ room → additions f k chunk room n ≡ value (take (n * entry_length f) index)
--     none_left : add f k chunk index room ≡ refusal no_record
-- The idea: the offsets of the listed records rise, so that beyond the last of the first n stands the next of the list, or none (`next_is`).
use Rattle.std.specs.Prelude.{◌≡◌, refl, ℕ, ◌+◌, zero, suc, ◌*◌, ◌^◌, ◌≤◌, ◌<◌, eqb, take, if◌then◌else◌}
use Rattle.std.proofs.Math.Path.{ap}
use Rattle.std.proofs.Common.{sym, ◌∙◌, subst, suc-mul, arith, take-append-drop, take_at, take-suc, length-take-le}
use mathlib.Core.List.Memᴰ
use mathlib.Core.List.{List, [], ◌∷◌, ◌++◌, map, append_assoc, append-nil}
use Rattle.std.proofs.Math.Option.{Option, none, some}
use borrow.Author.Tests.{le-leb, lt-ltb, le-ltb, eq-eqb}
use Rattle.std.proofs.Math.ListN.{length, drop, get_or}
use Rattle.std.proofs.Math.Seq.{split_at}
use Rattle.rules.specs.Answers.{Outcome, value, refused, refusal, no_record}
use Rattle.rules.specs.Records.{size_at, record_number, records_of}
use Rattle.rules.specs.Index.{Form, entry_length, entry_for, entry_bytes, index_of, build, last_offset, first_beyond, next_record, add}
use Rattle.laws.specs.Listed.{whole_sized, at_index, Follow, more as follow, in_order}
use Rattle.laws.proofs.Indexed.{Whole, AllFit, index_of_length, entries_are, is_index_lem, Built, all_fit, built_is}

-- n additions, from empty
abbrev pub additions : Form → ℕ → List ℕ → ℕ → ℕ → Outcome (List ℕ)
additions f k chunk room zero = value []
additions f k chunk room (suc n) = elim (additions f k chunk room n) [ value index ↦ add f k chunk index room | refused m p ↦ refused m p ]

-- the last of these records
abbrev last_of : ℕ → List ℕ → ℕ
last_of s [] = s
last_of s (x ∷ xs) = last_of x xs

module _ (chunk : List ℕ) where
  last_high : {e : ℕ} (s : ℕ) (ss rest : List ℕ) → Follow chunk e (s ∷ ss ++ rest) → s ≤ last_of s ss
  last_high {e = e} s [] rest r = omega arith
  last_high {e = e} s (x ∷ xs) rest (follow g h (follow g₂ h₂ r)) =
      let least = (whole_sized (length chunk) s (drop s chunk) h).least in
      omega (arith, last_high {e = s + size_at chunk s} x xs rest (follow g₂ h₂ r))

  -- beyond the last of some listed records comes the first of the others
  beyond_last : {e : ℕ} (s : ℕ) (ss rest : List ℕ) → Follow chunk e (s ∷ ss ++ rest)
      → first_beyond (some (last_of s ss)) (s ∷ ss ++ rest) ≡ first_beyond none rest
  beyond_last {e = e} s [] [] r = rw (le-ltb s s (omega arith))
  beyond_last {e = e} s [] (t ∷ rest) (follow g h (follow g₂ h₂ r)) =
      let least = (whole_sized (length chunk) s (drop s chunk) h).least in
      rw (le-ltb s s (omega arith), lt-ltb s t (omega arith))
  beyond_last {e = e} s (x ∷ xs) rest (follow g h r) =
      rw (le-ltb (last_of x xs) s (last_high s (x ∷ xs) rest (follow g h r))) (beyond_last {e = s + size_at chunk s} x xs rest r)

module _ (f : Form) (k : ℕ) (chunk : List ℕ) where
  index_append : (ss ts : List ℕ) → index_of f k chunk (ss ++ ts) ≡ index_of f k chunk ss ++ index_of f k chunk ts
  index_append [] ts = refl
  index_append (s ∷ ss) ts =
      let e = entry_bytes f (entry_for k chunk s) in
      ap (e ++◌) (index_append ss ts) ∙ sym (append_assoc e (index_of f k chunk ss) (index_of f k chunk ts))

  last_entry : (o : Option ℕ) (s : ℕ) (ss : List ℕ) → last_offset k o (map (entry_for k chunk) (s ∷ ss)) ≡ some (last_of s ss)
  last_entry o s [] = rw (eq-eqb k k refl)
  last_entry o s (x ∷ xs) = last_entry (if eqb k k then some s else o) x xs

  -- the next record of an index of some listed records is the first of the others
  module _ (w : Whole f) (ss rest : List ℕ) (e : records_of chunk ≡ ss ++ rest) (fits : AllFit f (map (entry_for k chunk) ss)) where
    next_is : next_record f k chunk (index_of f k chunk ss) ≡ first_beyond none rest
    next_is = rw (entries_are f w (map (entry_for k chunk) ss) fits, e) (go ss rest (subst (Follow chunk 512) e (in_order chunk)))
      where
        go : (ss rest : List ℕ) → Follow chunk 512 (ss ++ rest)
            → first_beyond (last_offset k none (map (entry_for k chunk) ss)) (ss ++ rest) ≡ first_beyond none rest
        go [] rest r = refl
        go (s ∷ ss) rest r = rw (last_entry none s ss) (beyond_last chunk s ss rest r)

module _ (f : Form) (w : Whole f) (k : ℕ) (small : k < 2 ^ f.chunk_bits) (chunk : List ℕ) (r : ℕ) (index : List ℕ)
    (afresh : build f k chunk r ≡ value index) where
  abbrev rs : List ℕ
  rs = records_of chunk

  b : Built f k chunk index
  b = built_is f w k small chunk r index afresh

  -- the index of the first n records
  abbrev first : ℕ → List ℕ
  first n = index_of f k chunk (take n rs)

  first_fit : (n : ℕ) → AllFit f (map (entry_for k chunk) (take n rs))
  first_fit n =
      all_fit f w k small chunk (take n rs) (λ s m. b.each_fits s (rw (take-append-drop n rs) at (Memᴰ.append_left (drop n rs) m)))

  first_length : (n : ℕ) → n ≤ length rs → length (first n) ≡ n * entry_length f
  first_length n l = index_of_length f k chunk (take n rs) ∙ ap (◌* entry_length f) (length-take-le n rs l)

  -- the first n entries of the index are those of the first n records
  first_is : (n : ℕ) → n ≤ length rs → take (n * entry_length f) index ≡ first n
  first_is n l =
      let two : index ≡ first n ++ index_of f k chunk (drop n rs) =
      sym b.bytes ∙ ap (index_of f k chunk) (sym (take-append-drop n rs)) ∙ index_append f k chunk (take n rs) (drop n rs) in
      ap (take (n * entry_length f)) two ∙ take_at (first n) (index_of f k chunk (drop n rs)) (n * entry_length f) (first_length n l)

  -- one addition
  adds_one : (room n : ℕ) → n < length rs → suc n * entry_length f ≤ room → add f k chunk (first n) room ≡ value (first (suc n))
  unfolding add
  adds_one room n l h =
      let s = get_or rs n 0 in
      let e = entry_bytes f (entry_for k chunk s) in
      let one : first (suc n) ≡ first n ++ e =
      ap (index_of f k chunk) (take-suc rs n 0 l) ∙ index_append f k chunk (take n rs) (s ∷ []) ∙ ap (first n ++◌) (append-nil e) in
      let long : length (first n ++ e) ≤ room = rw (← one) (omega (arith, first_length (suc n) l)) in
      let number = (b.each_fits s (at_index rs n l)).number in
      rw (
        eq-eqb (length chunk) 65_536 b.full,
        is_index_lem f w (map (entry_for k chunk) (take n rs)) (first_fit n),
        next_is f k chunk w (take n rs) (s ∷ drop (suc n) rs) (split_at rs n 0 l) (first_fit n),
        lt-ltb (record_number chunk s) (2 ^ f.number_bits) number,
        le-leb (length (first n ++ e)) room long,
      )
      (ap value (sym one))

  first_additions : (room n : ℕ) → n ≤ length rs → n * entry_length f ≤ room → additions f k chunk room n ≡ value (first n)
  first_additions room zero l h = refl
  first_additions room (suc n) l h =
      rw (first_additions room n (omega arith) (omega (arith, suc-mul n (entry_length f)))) (adds_one room n l h)

  -- From empty, n additions give the first n entries of the index built afresh.
  pub additions_build : (room n : ℕ) → n ≤ length (records_of chunk) → n * entry_length f ≤ room
      → additions f k chunk room n ≡ value (take (n * entry_length f) index)
  additions_build room n l h = first_additions room n l h ∙ ap value (sym (first_is n l))

  -- To an index of all listed records none is left to add.
  pub none_left : (room : ℕ) → add f k chunk index room ≡ refusal no_record
  unfolding add
  none_left room =
      rw (
        eq-eqb (length chunk) 65_536 b.full,
        b.is,
        ← b.bytes,
        next_is f k chunk w rs [] (sym (append-nil rs)) (all_fit f w k small chunk rs b.each_fits),
      )
