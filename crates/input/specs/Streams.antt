-- What a listing asks of the operating system, and the numbers that it keeps of what goes through its streams.
--     Event : a read or a write
--     after : the streams after some events
--     took_all : whether every write was done, by the streams
use Rattle.std.specs.Prelude.{Bool, List, [], ◌∷◌, ℕ, ◌+◌, eqb, replicate, get_or, set, if◌then◌else◌}
use Rattle.fletcher.specs.Sums.{with_number, summed}

-- What is asked of the operating system: a read of the input with a descriptor, with room for n bytes, and the bytes that were taken from it;
-- and a write, with the bytes that were handed to it and whether it was done.
pub data Event : Type 0 where
  read : ℕ → ℕ → List ℕ → Event
  write : List ℕ → Bool → Event

-- The numbers that a listing keeps of its streams: two sums of all bytes that were taken from reads, each with the room it had and then its
-- descriptor; two of all that were handed to writes, each with what it answered; and 1 if some write was not done, else 0.
abbrev pub Streams : Type 0
Streams = List ℕ

-- nothing has been read or written
abbrev pub nothing : Streams
nothing = replicate 5 0

-- numbers of which two, at a place, are sums, when some more bytes and then a number have gone into them
abbrev pub summed_at : List ℕ → ℕ → List ℕ → ℕ → List ℕ
summed_at numbers at bytes last =
    let s = with_number (summed (record { first = get_or numbers at 0; second = get_or numbers (at + 1) 0 }) bytes) last in
    set (set numbers at s.first) (at + 1) s.second

-- what a write answered, as a number
abbrev pub mark : Bool → ℕ
mark done = if done then 1 else 0

-- a write that was not done is noted
abbrev pub noted : Streams → Bool → Streams
noted s done = if done then s else set s 4 1

-- these bytes more were taken from a read of an input with room for n, or handed to a write
abbrev pub after_read : Streams → ℕ → ℕ → List ℕ → Streams
after_read s input n bytes = summed_at (summed_at s 0 bytes n) 0 [] input

abbrev pub after_write : Streams → List ℕ → Bool → Streams
after_write s bytes done = noted (summed_at s 2 bytes (mark done)) done

-- the streams after these events
abbrev pub after : Streams → List Event → Streams
after s [] = s
after s (read input n bytes ∷ es) = after (after_read s input n bytes) es
after s (write bytes done ∷ es) = after (after_write s bytes done) es

-- no write is noted that was not done
abbrev pub took_all : Streams → Bool
took_all s = eqb (get_or s 4 0) 0
