-- `finish_row` meets its contract: where the budget does not cover the checks none is made; else `record_row` makes them all.
use native.Mathlib.Omega.{arith}
use Prim.Native.Nat.{◌≤◌}
use mathlib.Core.Path.{refl, sym}
use borrow.Author.Tests.{not-true, not-false}
use Rattle.std.proofs.lemmas.Option.{none-some}
use Rattle.lists.specs.Lists.{slice}
use Rattle.join_spec.specs.Query.{Query}
use Rattle.join_check.specs.Counters.{checks_in, Tallied}
use Rattle.join_check.specs.Checks.{row_count}
use Rattle.kept_rows.specs.Kept.{RowsKept}
use Rattle.kept_rows.specs.checked.Recording.{RowRecordable}
use Rattle.kept_rows.specs.declared.Progress.{Progress}
use Rattle.join_nodes.proofs.VisitLaws.{for_some}
use Rattle.join_nodes.proofs.blocks.finish_row.Goals as goal

pub returns-then-not-covers : goal.returns-then-not-covers
returns-then-not-covers c =
    record {
      framed = record { size = refl; frame = refl };
      rows = λ u made. absurd (none-some u made);
      tallied = λ u made. absurd (none-some u made);
      within = λ u made. absurd (none-some u made);
      beyond = λ spent. c.covers.ensures.beyond (not-true c.covers.result c.if-not-covers.true-raw);
    }

pub record_row-r-requires : goal.record_row-r-requires
record_row-r-requires c =
    record {
      some_query = c.requires.some_query;
      from_bound = omega (arith, c.well_formed.1.1.0, c.covers.ensures.within (not-false c.covers.result c.if-not-covers.false-raw));
    }

pub returns : goal.returns
returns c =
    let a = c.args in
    record {
      framed = record { size = c.record_row-r.ensures.size; frame = c.record_row-r.ensures.frame };
      rows = for_some
          (λ (u : Progress).
          (q : Query) → RowRecordable a.lay q a.work.now a.k a.node.now.depth a.node.now.from a.node.now.to a.p.top
          → RowsKept a.lay q c.record_row-r.new.work u.top)
          (λ q there. c.record_row-r.ensures.rows q there);
      tallied = for_some
          (λ (u : Progress).
          (q : Query) → RowRecordable a.lay q a.work.now a.k a.node.now.depth a.node.now.from a.node.now.to a.p.top
          → Tallied (λ is. row_count q is (slice a.node.now.from a.node.now.to a.work.now) a.k) a.p.tally u.tally)
          (λ q there. c.record_row-r.ensures.checked.tallied q there.row);
      within = for_some (λ (u : Progress). checks_in u.tally ≤ a.st.budget)
          (omega (arith, c.record_row-r.ensures.checked.grown, c.covers.ensures.within (not-false c.covers.result c.if-not-covers.false-raw)));
      beyond = λ spent. absurd (none-some _ (sym spent));
    }
