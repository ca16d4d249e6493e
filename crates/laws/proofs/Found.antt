-- Finding in an index: over any form,
--     none_has : number_of (find f index n) ≡ no_record → NoneHas n (entries f index)
--     first_has : find f index n ≡ value p → First n (entries f index) p
--     reads_found : find f index n ≡ value p → entry_at f index p.0 ≡ value p
-- and in one that was built, build f k chunk room ≡ value index:
--     built_entry : List.Memᴰ e (entries f index) → OfRecord chunk e
--     none_listed : s isIn records_of chunk → number_of (find f index n) ≡ no_record → record_number chunk s ≡ n → ⊥
--     leads_to : s isIn records_of chunk → LeadsTo f chunk index (record_number chunk s)
-- The first by induction over the entries (`told`); the others since the entries of an index that was built are those of its records.
use Rattle.std.specs.Prelude.{◌≡◌, Bool, true, false, eqb, take}
use Rattle.std.proofs.Math.Path.{refl, subst}
use Rattle.std.proofs.Common.{ap, sym, ◌∙◌, eqb-true}
use mathlib.Core.List.Memᴰ
use mathlib.Core.List.{List, [], ◌∷◌, Memᴰ}
use Rattle.std.proofs.Math.Option.{some}
use Prim.Native.Nat.{ℕ, zero, suc, ◌^◌, ◌<◌}
use native.Mathlib.Omega.{arith}
use Rattle.std.proofs.lemmas.Bool.{eqb-false}
use Rattle.std.proofs.Math.ListN.{get_elem?}
use Rattle.rules.specs.Answers.{Outcome, value, refused, number_of, no_record, not_an_index}
use Rattle.rules.specs.Records.{record_number, records_of}
use Rattle.rules.specs.Index.{Form, Entry, entry_for, build, entries, is_index, Placed, entry_at, first_with, find}
use Rattle.laws.specs.Search.{◌isIn◌}
use Rattle.laws.proofs.Indexed.{Whole, passed, Built, built_is}
use Rattle.laws.specs.Found.{NoneHas, First, Told, Says, OfRecord, LeadsTo}

module _ (n : ℕ) where
  none_more : (e : Entry) (es : List Entry) → (e.number ≡ n → ⊥) → NoneHas n es → NoneHas n (e ∷ es)
  none_more e es h g d (Memᴰ.head q) z = h (sym (ap (λ (x : Entry). x.number) q) ∙ z)
  none_more e es h g d (Memᴰ.tail m) z = g d m z

  told_more : (i : ℕ) (e : Entry) (es : List Entry) (o : Outcome Placed) → (e.number ≡ n → ⊥) → Told n (suc i) es o → Told n i (e ∷ es) o
  told_more i e es (value p) h (d, at, first) =
      (suc d, omega arith, record { stands = first.stands; has = first.has; before = none_more e (take d es) h first.before })
  told_more i e es (refused m q) h (is, has) = (is, none_more e es h has)

  told : (i : ℕ) (es : List Entry) → Told n i es (first_with n i es)
  told i [] = (refl, λ e m z. elim m [ ])
  told i (e ∷ es) = go (eqb e.number n) refl (told (suc i) es)
    where
      go : (t : Bool) → eqb e.number n ≡ t → Told n (suc i) es (first_with n (suc i) es) → Told n i (e ∷ es) (first_with n i (e ∷ es))
      go true t ih = rw t (0, omega arith, record { stands = refl; has = eqb-true e.number n t; before = λ d m z. elim m [ ] })
      go false t ih = rw t (told_more i e es (first_with n (suc i) es) (eqb-false e.number n t) ih)

module _ (f : Form) (index : List ℕ) (n : ℕ) where
  pub finds : Says n (entries f index) (find f index n)
  unfolding find
  finds = go (is_index f index) refl
    where
      from_start : (o : Outcome Placed) → Told n 0 (entries f index) o → Says n (entries f index) o
      from_start (value (i, e)) (d, at, first) = let z : d ≡ i = omega arith in subst (λ (j : ℕ). First n (entries f index) (j, e)) z first
      from_start (refused m q) (is, has) = λ e. has

      go : (t : Bool) → is_index f index ≡ t → Says n (entries f index) (find f index n)
      go true t = rw t (from_start (first_with n 0 (entries f index)) (told n 0 (entries f index)))
      go false t = rw t (λ e. absurd (omega arith))

  -- "A find that fails means no entry has that number."
  pub none_has : number_of (find f index n) ≡ no_record → NoneHas n (entries f index)
  none_has e = go (find f index n) e finds
    where
      go : (o : Outcome Placed) → number_of o ≡ no_record → Says n (entries f index) o → NoneHas n (entries f index)
      go (value p) e h = absurd (omega arith)
      go (refused m q) e h = h e

  module _ (p : Placed) (e : find f index n ≡ value p) where
    -- One that does not fail gives the first entry that has it,
    pub first_has : First n (entries f index) p
    first_has = subst (Says n (entries f index)) e finds

    -- and reading the entry at that position gives the same.
    pub reads_found : entry_at f index p.0 ≡ value p
    unfolding find entry_at
    reads_found = rw ((passed (is_index f index) not_an_index (first_with n 0 (entries f index)) p e).0, first_has.stands)

-- an entry at a position is one of the entries
at_position : (es : List Entry) (i : ℕ) (e : Entry) → get_elem? es i ≡ some e → Memᴰ e es
at_position [] i e q = let z : ◌≡◌ {A = ℕ} 0 1 = cc in absurd (omega arith)
at_position (d ∷ es) zero e q = let z : e ≡ d = cc in Memᴰ.head z
at_position (d ∷ es) (suc i) e q = Memᴰ.tail (at_position es i e q)

module _ (f : Form) (w : Whole f) (k : ℕ) (small : k < 2 ^ f.chunk_bits) (chunk : List ℕ) (room : ℕ) (index : List ℕ)
    (built : build f k chunk room ≡ value index) where
  b : Built f k chunk index
  b = built_is f w k small chunk room index built

  -- Each entry of an index that was built is that of a listed record.
  pub built_entry : (e : Entry) → Memᴰ e (entries f index) → OfRecord chunk e
  built_entry e m =
      let r = Memᴰ.of_map (entry_for k chunk) (records_of chunk) (rw b.all at m) in
      subst (OfRecord chunk) r.2 (record { listed = r.1; size_is = refl; number_is = refl; refusal_is = refl })

  module _ (s : ℕ) (m : s isIn records_of chunk) where
    among : Memᴰ (entry_for k chunk s) (entries f index)
    among = rw b.all (Memᴰ.map (entry_for k chunk) m)

    -- If a find in it fails, no listed record has that number.
    pub none_listed : (n : ℕ) → number_of (find f index n) ≡ no_record → record_number chunk s ≡ n → ⊥
    none_listed n e = none_has f index n e (entry_for k chunk s) among

    -- The number of a listed record leads to an entry that has it, and from there to a record whose text is refused as the entry says.
    pub leads_to : LeadsTo f chunk index (record_number chunk s)
    unfolding find
    leads_to = go (first_with (record_number chunk s) 0 (entries f index)) refl (told (record_number chunk s) 0 (entries f index))
      where
        n : ℕ
        n = record_number chunk s

        go : (o : Outcome Placed) → first_with n 0 (entries f index) ≡ o → Told n 0 (entries f index) o → LeadsTo f chunk index n
        go (refused r q) e (is, has) = absurd (has (entry_for k chunk s) among refl)
        go (value p) e t =
            let found : find f index n ≡ value p = rw b.is e in
            let first = first_has f index n p found in
            record {
              place = p;
              found = found;
              has = first.has;
              of_record_lem = built_entry p.1 (at_position (entries f index) p.0 p.1 first.stands);
            }
