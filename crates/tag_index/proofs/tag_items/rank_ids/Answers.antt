use native.Mathlib.Omega.{arith}
use lib.Seq.{length-take-le}
use Rattle.tag_index.proofs.tag_items.Ranks.{ranking_end}
use Rattle.tag_index.proofs.tag_items.rank_ids.Goals as goal

pub returns : goal.returns
returns c =
    ranking_end c.requires.ids_listed c.loop-i.invariant
    (omega (arith, c.loop-i-test.false, length-take-le c.args.n c.args.ids.now (omega arith)))
