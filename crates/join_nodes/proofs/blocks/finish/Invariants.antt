-- `finish` meets its contract, by the law of part after part: each part is one left set.
use Rattle.join_nodes.proofs.PartLoop.{Continuing}
use Rattle.join_nodes.specs.blocks.Blocks.{AtLimit}
use Rattle.join_nodes.proofs.blocks.finish.Given as goal

abbrev pub invariant-loop-i : goal.invariant-loop-i
invariant-loop-i l =
    Continuing l.lay l.st.budget l.node.depth l.node.hi (λ path w. l.lay.row_starts) (λ q path w i r. AtLimit l.lay l.st q path w l.node.depth i l.node.hi l.node.from l.node.to r)
    l.initial.work l.node.lo l.initial.r l.work l.i l.r
