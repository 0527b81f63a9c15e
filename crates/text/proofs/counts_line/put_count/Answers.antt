-- `text::counts_line::put_count` meets its contract: a 32-bit number has at most ten digits.
use native.Mathlib.Omega.{arith}
use Rattle.text.proofs.LineBounds.{count-labelled}
use Rattle.text.proofs.counts_line.put_count.Goals as goal

pub put_labelled-requires : goal.put_labelled-requires
put_labelled-requires c =
    omega (arith, c.requires, count-labelled c.args.word.now c.args.count c.ranges.count.fits)

pub returns : goal.returns
returns c =
    record {
      put = c.put_labelled.ensures;
      upper_bound = omega (
        arith,
        c.put_labelled.ensures.past,
        count-labelled c.args.word.now c.args.count c.ranges.count.fits,
      );
    }
