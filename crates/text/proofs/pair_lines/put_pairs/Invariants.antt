-- `text::pair_lines::put_pairs` meets its contract. The invariant: what is written is the lines of the pairs so far, those that are left
-- are of places that have numbers, and there is room for a line each.
use Prim.Native.Nat.{◌*◌}
use Rattle.text.proofs.pair_lines.LineSteps.{LinesLeft}
use Rattle.text.proofs.pair_lines.put_pairs.Given as goal

abbrev pub invariant-loop-left : goal.invariant-loop-left
invariant-loop-left l = LinesLeft l.initial.text l.at l.pairs l.left_numbers l.right_numbers l.text l.n (2 * l.left-index)
