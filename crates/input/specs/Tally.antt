-- The five numbers of a listing's streams, as the listing keeps them.
use Rattle.std.specs.Prelude.{[], ◌∷◌}
use Rattle.input.specs.Streams.{Streams, mark}
use Rattle.input.specs.declared.streams.Tally.{Tally}

abbrev pub numbers : Tally → Streams
numbers t = t.taken.first ∷ t.taken.second ∷ t.handed.first ∷ t.handed.second ∷ mark t.undone ∷ []
