-- `text::number_lines::put_refused` meets its contract: a line of two numbers.
use native.Mathlib.Omega.{arith}
use Rattle.text.specs.Lines.{refused_line}
use Rattle.text.proofs.number_lines.put_refused.Goals as goal

pub returns : goal.returns
unfolding refused_line
returns c =
    record {
      put = c.put_numbers.ensures.put;
      upper_bound = omega (arith, c.put_numbers.ensures.upper_bound);
    }
