-- `put_sid` meets its contract: size, first byte and count are tested in turn.
use mathlib.Core.Path.{refl}
use borrow.Author.Tests.{le-leb, lt-leb, eq-eqb, ne_eqb}
use Rattle.rules.specs.Values.{sid}
use Rattle.identifiers.proofs.SidText.{put_done}
use Rattle.identifiers.proofs.sid.put_sid.Goals as goal

pub returns-then-n-lt8 : goal.returns-then-n-lt8
returns-then-n-lt8 c = rw (lt-leb 8 _ c.if-n-lt8.true) (record { meaning = refl; answer = refl; bytes = refl })

pub returns-then-n-gt68 : goal.returns-then-n-gt68
returns-then-n-gt68 c = rw (le-leb 8 _ c.if-n-lt8.false, lt-leb _ 68 c.if-n-gt68.true) (record { meaning = refl; answer = refl; bytes = refl })

pub returns-then-n-ne0 : goal.returns-then-n-ne0
returns-then-n-ne0 c = rw (le-leb 8 _ c.if-n-lt8.false, le-leb _ 68 c.if-n-gt68.false, ne_eqb _ 0 c.if-n-ne0.true)
    (record { meaning = refl; answer = refl; bytes = refl })

pub returns-then-src-ne1 : goal.returns-then-src-ne1
unfolding sid
returns-then-src-ne1 c =
    rw (le-leb 8 _ c.if-n-lt8.false, le-leb _ 68 c.if-n-gt68.false, eq-eqb _ 0 c.if-n-ne0.false, ne_eqb _ 1 c.if-src-ne1.true)
    (record { meaning = refl; answer = refl; bytes = refl })

pub returns-then-k-n : goal.returns-then-k-n
unfolding sid
returns-then-k-n c =
    rw (
      le-leb 8 _ c.if-n-lt8.false,
      le-leb _ 68 c.if-n-gt68.false,
      eq-eqb _ 0 c.if-n-ne0.false,
      eq-eqb _ 1 c.if-src-ne1.false,
      ne_eqb
          _ _ c.if-k-n.true,
    ) (record { meaning = refl; answer = refl; bytes = refl })

pub returns : goal.returns
unfolding sid
returns c =
    rw (
      le-leb 8 _ c.if-n-lt8.false,
      le-leb _ 68 c.if-n-gt68.false,
      eq-eqb _ 0 c.if-n-ne0.false,
      eq-eqb _ 1 c.if-src-ne1.false,
      eq-eqb _ _
          c.if-k-n.false,
    )
    (put_done (rw c.if-k-n.false at c.put_parts.ensures))
