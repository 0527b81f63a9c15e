-- `text::put_numbers` meets its contract: two numbers of at most twenty digits.
use native.Mathlib.Omega.{arith}
use Rattle.lists.proofs.Writing.{put_append}
use Rattle.text.specs.Lines.{ascii}
use Rattle.text.proofs.LineBounds.{long_labelled}
use Rattle.text.proofs.put_numbers.Goals as goal

pub put_labelled-n-requires : goal.put_labelled-n-requires
put_labelled-n-requires c =
    omega (arith, c.requires, long_labelled c.args.word.now c.args.first c.ranges.first.fits)

pub put_labelled-m-requires : goal.put_labelled-m-requires
put_labelled-m-requires c =
    omega (
      arith,
      c.requires,
      c.put_labelled-n.ensures.past,
      c.put_labelled-n.auto.text,
      long_labelled c.args.word.now c.args.first c.ranges.first.fits,
      long_labelled (ascii " ") c.args.second c.ranges.second.fits,
    )

pub put_word-requires : goal.put_word-requires
put_word-requires c =
    omega (
      arith,
      c.requires,
      c.put_labelled-n.ensures.past,
      c.put_labelled-n.auto.text,
      c.put_labelled-m.ensures.past,
      c.put_labelled-m.auto.text,
      long_labelled c.args.word.now c.args.first c.ranges.first.fits,
      long_labelled (ascii " ") c.args.second c.ranges.second.fits,
    )

pub returns : goal.returns
returns c =
    record {
      put = put_append c.put_labelled-n.ensures (put_append c.put_labelled-m.ensures c.put_word.ensures);
      upper_bound = omega (
        arith,
        c.put_labelled-n.ensures.past,
        c.put_labelled-m.ensures.past,
        c.put_word.ensures.past,
        long_labelled c.args.word.now c.args.first c.ranges.first.fits,
        long_labelled (ascii " ") c.args.second c.ranges.second.fits,
      );
    }
