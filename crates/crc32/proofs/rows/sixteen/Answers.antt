-- Each word goes through its rows, and what they give is added: `over_sixteen`.
use Rattle.crc32.proofs.Words.{over_sixteen}
use Rattle.crc32.proofs.rows.sixteen.Goals as goal

pub returns : goal.returns
returns c =
    let over = over_sixteen c.args.bytes.now (λ j. (c.type_inv.bytes j).fits) c.args.state c.requires.1 in
    rw (
      c.word-last.ensures,
      c.four.ensures,
      c.word-third.ensures,
      c.four-2.ensures,
      c.word-second.ensures,
      c.four-3.ensures,
      c.word.ensures,
      c.four-4.ensures,
      over,
    )
