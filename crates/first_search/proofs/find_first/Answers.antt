-- `first_search::find_first` meets its contract: a failed test refuses; else the marks of the right set decide containment.
use mathlib.Core.Path.{sym, ap, ◌∙◌}
use native.Mathlib.Omega.{arith}
use Rattle.std.specs.Prelude.{Ok}
use Rattle.sets.specs.Collections.{Collection, lent_sets, sets_in}
use Rattle.sets.proofs.Testing.{handed_on}
use Rattle.first_search_spec.proofs.FirstTests.{Searchable, first_passed, first_refused, first_searched}
use Rattle.first_search.proofs.Searching.{right_fits, marked_first}
use Rattle.first_search.proofs.find_first.Goals as goal
use Rattle.first_search.proofs.find_first.Goals.{In_ok-test_first, Start}

-- the left sets of a call
abbrev lefts : Start → Collection
lefts s = lent_sets s.args.left.now

searchable : (p : In_ok-test_first) → Searchable p.args.t (lefts (goal.at.In_ok-test_first p).Start) p.args.right.now
searchable p = first_passed p.args.t (lefts (goal.at.In_ok-test_first p).Start) p.args.right.now (sym p.in_ok-test_first.ensures)

pub insert_part-requires : goal.insert_part-requires
insert_part-requires c =
    let s = searchable (goal.at.insert_part-requires c).In_ok-test_first in
    right_fits c.args.t c.args.right.now _ s.few s.right_good

pub slice_bounds-search-end : goal.slice_bounds-search-end
slice_bounds-search-end c = sym c.insert_part.ensures.size

pub search-requires : goal.search-requires
search-requires c =
    let s = searchable (goal.at.search-requires c).In_ok-test_first in
    record { T = c.args.t; wide = omega (arith, s.few, c.insert_part.ensures.size); good = s.lefts_good }

pub returns-in_err-test_first : goal.returns-in_err-test_first
returns-in_err-test_first c =
    handed_on c.from_residual.result c.from_residual.ensures.1
    ∙ first_refused c.args.t (lefts (goal.at.returns-in_err-test_first c).Start) c.args.right.now (sym c.in_err-test_first.ensures)

pub returns : goal.returns
returns c =
    ap Ok (c.search.ensures ∙ marked_first 64 c.args.right.now c.insert_part.ensures (sets_in (lefts (goal.at.returns c).Start)))
    ∙ first_searched c.args.t (lefts (goal.at.returns c).Start) c.args.right.now (sym c.in_ok-test_first.ensures)
