-- What finding in an index says. The laws over it stand in proofs/Found.
use Rattle.std.specs.Prelude.{◌≡◌, take}
use mathlib.Core.List.{List, Memᴰ}
use Rattle.std.proofs.Math.Option.{some}
use Prim.Native.Nat.{ℕ, ◌+◌}
use Rattle.std.proofs.Math.ListN.{get_elem?}
use Rattle.rules.specs.Answers.{Outcome, value, refused, number_of, no_record}
use Rattle.rules.specs.Records.{size_at, record_number, records_of}
use Rattle.rules.specs.RecordText.{text_of}
use Rattle.rules.specs.Index.{Form, Entry, Placed, find}
use Rattle.laws.specs.Search.{◌isIn◌}

-- no entry has this number
abbrev pub NoneHas : ℕ → List Entry → Type 0
NoneHas n es = (e : Entry) → Memᴰ e es → e.number ≡ n → ⊥

-- the entry stands at its position, has this number, and none before it has
pub record First (n : ℕ) (es : List Entry) (p : Placed) : Type 0 where
  pub stands : get_elem? es p.0 ≡ some p.1
  pub has : p.1.number ≡ n
  pub before : NoneHas n (take p.0 es)

-- what the first with this number, of entries that stand from position i on, says of them
abbrev pub Told : ℕ → ℕ → List Entry → Outcome Placed → Type 0
Told n i es (value p) = (d : ℕ) × (p.0 ≡ i + d) × First n es (d, p.1)
Told n i es (refused m q) = (m ≡ no_record) × NoneHas n es

-- what an answer of `find` says of the entries of the index
abbrev pub Says : ℕ → List Entry → Outcome Placed → Type 0
Says n es (value p) = First n es p
Says n es (refused m q) = m ≡ no_record → NoneHas n es

-- the entry is that of a listed record: what it says of the record at its offset holds
pub record OfRecord (chunk : List ℕ) (e : Entry) : Type 0 where
  pub listed : e.offset isIn records_of chunk
  pub size_is : size_at chunk e.offset ≡ e.size
  pub number_is : record_number chunk e.offset ≡ e.number
  pub refusal_is : number_of (text_of chunk e.offset 65_536) ≡ e.refusal

-- this number is found, in an entry that has it and is that of a listed record
pub record LeadsTo (f : Form) (chunk index : List ℕ) (n : ℕ) : Type 0 where
  pub place : Placed
  pub found : find f index n ≡ value place
  pub has : place.1.number ≡ n
  pub of_record_lem : OfRecord chunk place.1
