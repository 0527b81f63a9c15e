-- `check_block` meets its contract: where the budget does not cover the checks none is made; else `gather` makes them all.
use native.Mathlib.Omega.{arith}
use native.Mathlib.Nat.{mul-le-mul}
use Prim.Native.Nat.{◌≤◌}
use mathlib.Core.Path.{◌≡◌, refl, sym}
use borrow.Author.Tests.{not-true, not-false}
use Rattle.lists.specs.Lists.{sum, slice}
use Rattle.std.proofs.lemmas.Option.{none-some}
use Rattle.join_spec.specs.Query.{Query}
use Rattle.join_index.specs.Ranges.{lefts_in}
use Rattle.join_check.specs.Counters.{checks_in, Tallied}
use Rattle.join_check.specs.Checks.{range_count, RangesThere}
use Rattle.kept_rows.specs.declared.Progress.{Progress}
use Rattle.join_nodes.proofs.VisitLaws.{for_some}
use Rattle.join_nodes.proofs.block_checks.check_block.Goals as goal

pub overflow_mul-checks : goal.overflow_mul-checks
overflow_mul-checks c =
    omega (arith, mul-le-mul c.requires.small.lefts c.requires.small.rights)

pub returns-then-not-covers : goal.returns-then-not-covers
returns-then-not-covers c =
    record {
      tallied = λ u made. absurd (none-some u made);
      within = λ u made. absurd (none-some u made);
      beyond = λ spent. c.covers.ensures.beyond (not-true c.covers.result c.if-not-covers.true-raw);
      top = λ u made. absurd (none-some u made);
    }

pub gather-r-requires : goal.gather-r-requires
unfolding sum
gather-r-requires c =
    record {
      some_query = c.requires.some_query;
      from_bound = omega (arith, c.covers.ensures.within (not-false c.covers.result c.if-not-covers.false-raw));
    }

pub returns : goal.returns
returns c =
    let a = c.args in
    record {
      tallied = for_some
          (λ (u : Progress).
          (q : Query) → RangesThere a.lay q a.work.now a.e a.node.now.lo a.node.now.hi a.node.now.from a.node.now.to
          → Tallied (λ is. range_count q is (slice a.node.now.from a.node.now.to a.work.now) (lefts_in a.lay a.work.now a.node.now.lo a.node.now.hi)) a.p.tally u.tally)
          (λ q there. c.gather-r.ensures.tallied q there);
      within = for_some (λ (u : Progress). checks_in u.tally ≤ a.st.budget)
          (omega (arith, c.gather-r.ensures.grown, c.covers.ensures.within (not-false c.covers.result c.if-not-covers.false-raw)));
      beyond = λ spent. absurd (none-some _ (sym spent));
      top = for_some (λ (u : Progress). u.top ≡ a.p.top) refl;
    }
