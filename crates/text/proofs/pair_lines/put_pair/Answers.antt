-- `text::pair_lines::put_pair` meets its contract: two numbers of at most five digits, with a space between and a line feed behind.
use native.Mathlib.Omega.{arith}
use Rattle.lists.proofs.Writing.{put_append}
use Rattle.text.specs.Lines.{ascii, pair_line}
use Rattle.text.proofs.LineBounds.{short_number, short_labelled}
use Rattle.text.proofs.pair_lines.put_pair.Goals as goal

pub put_number-n-requires : goal.put_number-n-requires
put_number-n-requires c =
    omega (arith, c.requires, short_number c.args.left c.ranges.left.fits)

pub put_labelled-m-requires : goal.put_labelled-m-requires
put_labelled-m-requires c =
    omega (
      arith,
      c.requires,
      c.put_number-n.ensures.past,
      c.put_number-n.auto.text,
      short_number c.args.left c.ranges.left.fits,
      short_labelled (ascii " ") c.args.right c.ranges.right.fits,
    )

pub put_word-requires : goal.put_word-requires
put_word-requires c =
    omega (
      arith,
      c.requires,
      c.put_number-n.ensures.past,
      c.put_number-n.auto.text,
      c.put_labelled-m.ensures.past,
      c.put_labelled-m.auto.text,
      short_number c.args.left c.ranges.left.fits,
      short_labelled (ascii " ") c.args.right c.ranges.right.fits,
    )

pub returns : goal.returns
unfolding pair_line
returns c =
    record {
      put = put_append c.put_number-n.ensures (put_append c.put_labelled-m.ensures c.put_word.ensures);
      upper_bound = omega (
        arith,
        c.put_number-n.ensures.past,
        c.put_labelled-m.ensures.past,
        c.put_word.ensures.past,
        short_number c.args.left c.ranges.left.fits,
        short_labelled (ascii " ") c.args.right c.ranges.right.fits,
      );
    }
