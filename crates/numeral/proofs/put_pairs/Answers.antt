-- `put_pairs` meets its contract. Past the end it only counts; else each byte is a pair, and what is left of src is still to be written.
use mathlib.Core.Path.{refl, ◌∙◌, sym, ap}
use Rattle.output.specs.Output.{adv}
use Rattle.output.proofs.Output.{wrote_past}
use Rattle.output.proofs.Loops.{each_step, each_end}
use Rattle.rules.specs.Numerals.{upper_hex, hex_pairs}
use Rattle.numeral.proofs.Pairs.{pairs_length}
use borrow.Author.Rules.{rules}
use Rattle.numeral.proofs.put_pairs.Goals as goal

pub returns-then-out-at : goal.returns-then-out-at
returns-then-out-at c =
    let s = c.args.src.now in
    wrote_past _ _ (hex_pairs s) _ (search rules) (c.skip.ensures ∙ ap (adv _ c.args.at) (sym (pairs_length s)))

pub loop-b-preserved : goal.loop-b-preserved
unfolding hex_pairs
loop-b-preserved c =
    each_step hex_pairs c.args.src.now (upper_hex 2) (λ b bs. refl) c.loop-b.b-index (search rules) c.loop-b.invariant
    c.put_pair-place.ensures

pub returns : goal.returns
unfolding hex_pairs
returns c =
    each_end hex_pairs c.args.src.now refl c.loop-b.b-index (search rules) c.loop-b.invariant
