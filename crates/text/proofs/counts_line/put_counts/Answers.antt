-- `text::counts_line::put_counts` meets its contract: the two halves of the counts.
use Prim.Native.Nat.{ℕ}
use mathlib.Core.Path.{subst}
use mathlib.Core.List.{List}
use native.Mathlib.Omega.{arith}
use Rattle.lists.specs.Writing.{Put}
use Rattle.lists.proofs.Writing.{put_append}
use Rattle.text.proofs.counts_line.CountHalves.{counts_halves}
use Rattle.text.proofs.counts_line.put_counts.Goals as goal

pub returns : goal.returns
returns c =
    record {
      put = subst (λ (line : List ℕ). Put c.args.text.now 0 line c.put_check_counts.result c.put_check_counts.new.text)
          (counts_halves c.args.counts) (put_append c.put_pair_counts-n.ensures.put c.put_check_counts.ensures.put);
      upper_bound = omega (arith, c.put_pair_counts-n.ensures.upper_bound, c.put_check_counts.ensures.upper_bound);
    }
