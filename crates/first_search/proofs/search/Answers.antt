use mathlib.Core.Path.{◌≡◌, sym, ◌∙◌}
use native.Mathlib.Omega.{arith}
use lib.ListN.{get_or}
use Rattle.sets.proofs.Good.{GoodSet}
use Rattle.first_search.proofs.Searching.{searching_end, searching_set, searching_part, searching_stop, searching_next}
use Rattle.first_search.proofs.search.Goals as goal
use Rattle.first_search.proofs.search.Goals.{In-loop-k}

set_here : (p : In-loop-k) → GoodSet p.requires.T p.loop-k.k p.loop-k.start (get_or (p.args.left.now.ends.now) p.loop-k.k 0) p.args.left.now.items.now
set_here p = searching_set p.loop-k.invariant (omega arith) p.requires

pub offset_bounds-items-start : goal.offset_bounds-items-start
offset_bounds-items-start c =
    let set = set_here (goal.at.offset_bounds-items-start c).In-loop-k in omega (arith, set.ordered, set.entries)

pub slice_bounds-is_marked-count : goal.slice_bounds-is_marked-count
slice_bounds-is_marked-count c = (set_here (goal.at.slice_bounds-is_marked-count c).In-loop-k).ordered

pub slice_bounds-is_marked-start : goal.slice_bounds-is_marked-start
slice_bounds-is_marked-start c = (set_here (goal.at.slice_bounds-is_marked-start c).In-loop-k).ordered

pub slice_bounds-is_marked-end : goal.slice_bounds-is_marked-end
slice_bounds-is_marked-end c = (set_here (goal.at.slice_bounds-is_marked-end c).In-loop-k).within

pub is_marked-requires : goal.is_marked-requires
is_marked-requires c =
    searching_part c.loop-k.invariant (omega arith) c.requires

pub returns-then-is_marked : goal.returns-then-is_marked
returns-then-is_marked c =
    searching_stop c.loop-k.invariant (omega arith) (sym c.if-is_marked.true ∙ c.is_marked.ensures)

pub loop-k-preserved : goal.loop-k-preserved
loop-k-preserved c =
    searching_next c.loop-k.invariant (omega arith) (sym c.if-is_marked.false ∙ c.is_marked.ensures)

pub returns : goal.returns
returns c =
    let all : c.len.result ≡ c.loop-k.k = omega arith in
    rw all (searching_end c.loop-k.invariant (omega arith))
