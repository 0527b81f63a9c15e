-- `merge_rows::left::is_earlier` meets its contract: left set j lies between two ends.
use mathlib.Core.Path.{sym, ap, ◌∙◌}
use mathlib.Core.List.{[]}
use native.Mathlib.Omega.{arith}
use lib.ListN.{get_or}
use Rattle.sets.specs.Collections.{between, sets_of}
use Rattle.side_index.specs.inverted.Placing.{start_at}
use Rattle.side_index.proofs.inverted.Collected.{SetAt, set_at}
use Rattle.merge_rows.proofs.left.is_earlier.Goals as goal
use Rattle.merge_rows.proofs.left.is_earlier.Goals.{After-start_of-start}

-- left set j
set_there : (c : After-start_of-start)
    → let a = c.args in
    SetAt c.requires.T a.j (start_at a.sets.now.ends.now a.j) (get_or a.sets.now.ends.now a.j 0)
    (get_or (sets_of a.sets.now.ends.now a.sets.now.items.now) a.j []) a.sets.now.items.now
set_there c =
    let a = c.args in
    set_at c.requires.T a.sets.now.ends.now a.sets.now.items.now c.requires.good a.j (omega (arith, c.requires.place))

pub slice_bounds-same_items-count : goal.slice_bounds-same_items-count
slice_bounds-same_items-count c = omega (arith, c.start_of-start.ensures, (set_there (goal.at.slice_bounds-same_items-count c).After-start_of-start).good.ordered)

pub slice_bounds-same_items-start : goal.slice_bounds-same_items-start
slice_bounds-same_items-start c = omega (arith, c.start_of-start.ensures, (set_there (goal.at.slice_bounds-same_items-start c).After-start_of-start).good.ordered)

pub slice_bounds-same_items-end : goal.slice_bounds-same_items-end
slice_bounds-same_items-end c = (set_there (goal.at.slice_bounds-same_items-end c).After-start_of-start).good.within

pub returns : goal.returns
returns c =
    let a = c.args in
    λ same.
    record {
      before = omega (arith, c.if-k-j.false);
      is =
          (set_there (goal.at.returns c).After-start_of-start).is
          ∙ ap (λ n. between n (get_or a.sets.now.ends.now a.j 0) a.sets.now.items.now) (sym c.start_of-start.ensures)
          ∙ c.same_items.ensures same;
    }
