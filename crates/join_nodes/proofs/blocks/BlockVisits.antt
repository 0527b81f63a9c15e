-- What the counters of a block of left sets show: where the rows are its checks, a block of checks answers for its left sets;
-- and pairs by path are counted for those that end at a node.
use Prim.Native.Nat.{ℕ, ◌-◌, ◌*◌}
use mathlib.Core.Path.{◌≡◌, refl, sym, ap₂, ◌∙◌}
use mathlib.Core.List.{List}
use mathlib.Core.Bool.{Bool, true, false, cond}
use native.Mathlib.Omega.{arith}
use lib.ListN.{length}
use Rattle.std.specs.Prelude.{Option}
use Rattle.lists.specs.Lists.{sum, slice}
use Rattle.lists.proofs.Counting.{count_same, count-true}
use Rattle.lists.proofs.Summing.{sum_same}
use Rattle.sets.specs.Signatures.{drops, signature}
use Rattle.sets.specs.Collections.{contained}
use Rattle.join_spec.specs.Query.{Query}
use Rattle.join_spec.specs.Walk.{Outcome, dropped, false_drop, confirmed}
use Rattle.join_spec.specs.Counting.{is_check}
use Rattle.join_spec.specs.Kinds.{is_of}
use Rattle.join_spec.proofs.KindLaws.{kind_met}
use Rattle.join_index.specs.declared.Layout.{Layout}
use Rattle.join_index.specs.Ranges.{lefts_in}
use Rattle.join_check.specs.Checks.{check_at, row_count, range_count, RangesThere}
use Rattle.join_check.specs.declared.Tally.{Tally}
use Rattle.join_check.proofs.Tallying.{tallied_same}
use Rattle.join_nodes.specs.Rows.{row, path_pairs}
use Rattle.join_nodes.specs.Visiting.{Added, Merged, Visited}
use Rattle.kept_rows.specs.declared.Progress.{Progress}
use Rattle.join_nodes.proofs.RowLaws.{MetOnly}
use Rattle.join_nodes.proofs.PathLaws.{sum_const}
use Rattle.join_nodes.specs.block_checks.BlockChecks.{Blocked}

-- a check is one
check_is : (drop holds : Bool) → is_check (cond drop dropped (cond holds confirmed false_drop)) ≡ true
check_is true holds = refl
check_is false true = refl
check_is false false = refl

module _ (q : Query) (list lefts : List ℕ) where
  at_check : (k s : ℕ) → is_check (check_at q k s) ≡ true
  at_check k s = check_is (drops (signature _) (signature _)) (contained _ _)

  pub checks_all : range_count q is_check list lefts ≡ length lefts * length list
  checks_all =
      sum_same (row_count q is_check list) (λ k. length list) lefts
      (λ k. count_same (λ s. is_check (check_at q k s)) (λ s. true) list (λ s. at_check k s) ∙ count-true list)
      ∙ sum_const (length list) lefts

-- a block of checks answers for its left sets where their rows are its checks
pub block_visited : {lay : Layout} {q : Query} {w : List ℕ} {budget d e lo hi from to : ℕ} {p : Progress} {r : Option Progress}
    → RangesThere lay q w e lo hi from to → length (lefts_in lay w lo hi) ≡ hi - lo → length (slice from to w) ≡ to - from
    → ((is : Outcome → Bool) → MetOnly is
    → sum (row is q d) (lefts_in lay w lo hi) ≡ range_count q is (slice from to w) (lefts_in lay w lo hi))
    → Blocked lay w budget e lo hi from to p r → Visited q budget d (lefts_in lay w lo hi) p.tally r
block_visited {lay} {q} {w} {budget} {d} {e} {lo} {hi} {from} {to} {p} {r} there lefts rights rows block =
    record {
      added = λ at made.
          record { tallied = tallied_same (λ kind. sym (rows (is_of kind) (kind_met kind))) (block.tallied at made q there) };
      within = block.within;
      beyond = λ spent.
          omega (
            arith,
            block.beyond spent,
            rows is_check refl,
            checks_all q (slice from to w) (lefts_in lay w lo hi),
            ap₂ (λ (a b : ℕ). a * b) lefts rights,
          );
    }

-- left sets that pair by path with every candidate after the node
pub merged_added : {q : Query} {d m c : ℕ} (lefts : List ℕ) {tally r : Tally}
    → ((is : Outcome → Bool) → MetOnly is → sum (row is q d) lefts ≡ path_pairs m c is) → Merged m c tally r
    → Added q d lefts tally r
merged_added lefts rows merged =
    record { tallied = tallied_same (λ kind. sym (rows (is_of kind) (kind_met kind))) merged.tallied }
