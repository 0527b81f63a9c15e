-- `text::counts_line::put_check_counts` meets its contract: three counts, each behind its word, and a line feed.
use native.Mathlib.Omega.{arith}
use Rattle.lists.proofs.Writing.{put_append}
use Rattle.text.proofs.counts_line.put_check_counts.Goals as goal

pub returns : goal.returns
returns c =
    record {
      put = put_append c.put_count-n.ensures.put
          (put_append c.put_count-m.ensures.put (put_append c.put_count-k.ensures.put c.put_word.ensures));
      upper_bound = omega (arith, c.put_count-n.ensures.upper_bound, c.put_count-m.ensures.upper_bound, c.put_count-k.ensures.upper_bound, c.put_word.ensures.past);
    }
