-- The whole walk: the order's first left sets are the empty ones, which meet no right set; the others are the partitions, and what was
-- added for them is every count of the query.
use Prim.Native.Nat.{ℕ, ◌+◌, ◌-◌, ◌≤◌, ◌<◌}
use mathlib.Core.Path.{◌≡◌, refl, sym, ap, ap₂, ◌∙◌}
use mathlib.Core.List.{List, [], ◌∷◌, ◌++◌}
use mathlib.Core.Bool.{Bool, not}
use native.Mathlib.Omega.{arith}
use native.Mathlib.Nat.{mul-le-mul, zero-add}
use borrow.Author.Tests.{not-true}
use lib.Dec.{eqb}
use lib.ListN.{length}
use Rattle.std.specs.Prelude.{Option, Some}
use Rattle.std.proofs.lemmas.Option.{none-some}
use Rattle.lists.specs.Lists.{keep, prefix, range, slice, sum, upto}
use Rattle.lists.proofs.Slices.{frame_less}
use Rattle.lists.proofs.Summing.{sum_same, sum_append, sum_same_where}
use Rattle.sets.specs.Limits.{max_sets}
use Rattle.join_spec.specs.Query.{Query}
use Rattle.join_spec.specs.Walk.{Outcome}
use Rattle.join_spec.specs.Counting.{total, is_check}
use Rattle.join_spec.specs.Kinds.{Kind, is_of, kinds, check_kinds}
use Rattle.join_spec.proofs.KindLaws.{sum-zero, kind_met}
use Rattle.join_index.specs.Grouping.{left_at, key_at, order_from, order_of}
use Rattle.join_index.specs.declared.Layout.{Layout}
use Rattle.join_index.specs.Asking.{Index, RangeThere}
use Rattle.join_index.specs.Ranges.{lefts_in}
use Rattle.join_check.specs.Counters.{counter}
use Rattle.join_check.specs.declared.Tally.{Tally}
use Rattle.kept_rows.specs.Kept.{RowsKept}
use Rattle.kept_rows.specs.Keeping.{Cleared}
use Rattle.kept_rows.proofs.RowLaws.{index_kept}
use Rattle.join_nodes.specs.Rows.{row}
use Rattle.join_nodes.specs.Visiting.{beginners}
use Rattle.kept_rows.specs.declared.Progress.{Progress}
use Rattle.join_nodes.specs.declared.WalkSettings.{WalkSettings}
use Rattle.join_nodes.proofs.RangeLaws.{Cut}
use Rattle.join_nodes.proofs.RowLaws.{MetOnly}
use Rattle.join_nodes.proofs.VisitLaws.{for_some, kept_some, checks_added}
use Rattle.join_nodes.proofs.FrameLaws.{framed_none}
use Rattle.join_nodes.specs.blocks.Blocks.{MergedEnd}
use Rattle.join_nodes.proofs.blocks.GroupSteps.{ended_at, going_on, ended_keys, going_keys, beginners-grouped, ended_cut}
use Rattle.join_walk.specs.partition.Partition.{PartVisited}
use Rattle.join_walk.specs.Partitions.{Partitions, WalkReady, WalkDone}
use Rattle.join_walk.proofs.Totals.{start, total_order, start_empty, start_row}

-- every left set begins with no rank at all
keep_every : (q : Query) (l : List ℕ) → keep (λ k. prefix [] (left_at q k)) l ≡ l
unfolding keep prefix
keep_every q [] = refl
keep_every q (x ∷ xs) = ap (λ (l : List ℕ). x ∷ l) (keep_every q xs)

-- a walk over no left sets
pub walk_none : {lay : Layout} {st : WalkSettings} {q : Query} {w : List ℕ} {lefts : ℕ} → WalkReady lay st q w lefts
    → lefts ≡ 0
    → {none : Tally} {top : ℕ} → ((kind : Kind) → counter kind none ≡ 0) → RowsKept lay q w top
    → WalkDone lay q st.budget w w (Some (record { tally = none; top = top }))
walk_none {lay} {st} {q} {w} ready gone zero kept =
    let nothing : (is : Outcome → Bool) → total is q ≡ 0 = λ is. total_nil is (ready.left_count ∙ gone) in
    record {
      framed = framed_none lay.slots w;
      counted = record {
        counts = for_some (λ (u : Progress). (kind : Kind) → counter kind u.tally ≡ total (is_of kind) q)
            (λ kind. zero kind ∙ sym (nothing (is_of kind)));
        within = λ u made. omega (arith, nothing is_check);
        beyond = λ spent. absurd (none-some _ (sym spent));
      };
      rows = kept_some kept;
    }
  where
    total_nil : (is : Outcome → Bool) → length q.lefts ≡ 0 → total is q ≡ 0
    total_nil is e =
        let none : sum (start is q) (order_from q 0 0) ≡ sum (start is q) (upto 0) =
        unfold order_from in ap (λ (n : ℕ). sum (start is q) (upto n)) e in
        let empty : sum (start is q) (upto 0) ≡ 0 = unfold range sum in refl in
        total_order is q 0 0 ∙ none ∙ empty

module _ {lay : Layout} {st : WalkSettings} {q : Query} {w : List ℕ} {lefts : ℕ}
    (ready : WalkReady lay st q w lefts) (some : 0 < lefts) where
  index : Index lay q w
  index = ready.index

  few : lefts ≤ length q.lefts
  few = omega (arith, ready.left_count)

  pub walk_range : RangeThere lay q w 0 lefts
  walk_range = record { index = index; some = some; within = few }

  abbrev rest : List ℕ
  rest = beginners q [] 1

  order_is : order_of q ≡ ended_at q 0 rest ++ going_on q 0 rest
  order_is =
      let all-depths : q.limit ≡ q.limit - 0 = omega arith in
      ap (λ (n : ℕ). order_from q n 0) all-depths ∙ sym (keep_every q (order_from q (q.limit - 0) 0))
      ∙ beginners-grouped q [] 0 ready.some

  whole : lefts_in lay w 0 lefts ≡ ended_at q 0 rest ++ going_on q 0 rest
  whole =
      let low : lay.left_order + 0 ≡ lay.left_order = omega arith in
      let high : lay.left_order + lefts ≡ lay.left_order + length q.lefts = omega (arith, ready.left_count) in
      ap₂ (λ (a b : ℕ). slice a b w) low high ∙ index.ground.ordered.is ∙ order_is

  module _ {mid : ℕ} (end : MergedEnd lay w 0 0 lefts mid) where
    parted : Cut lay w 0 mid lefts (ended_at q 0 rest) (going_on q 0 rest)
    parted = ended_cut rest walk_range whole end

    -- the query's counts: nothing for the empty left sets, and the rows of the others
    rows_total : (is : Outcome → Bool) → MetOnly is → total is q ≡ sum (row is q 1) (lefts_in lay w mid lefts)
    rows_total is met =
        total_order is q q.limit 0 ∙ ap (sum (start is q)) order_is
        ∙ sum_append (start is q) (ended_at q 0 rest) (going_on q 0 rest)
        ∙ ap₂ (λ (a b : ℕ). a + b)
        (sum_same_where (λ k. eqb (key_at q 0 k) 0) (start is q) (λ k. 0) (ended_at q 0 rest) (ended_keys q 0 rest)
        (λ k e. start_empty is met q k e)
        ∙ sum-zero (ended_at q 0 rest))
        (sum_same_where (λ k. not (eqb (key_at q 0 k) 0)) (start is q) (row is q 1) (going_on q 0 rest) (going_keys q 0 rest)
        (λ k e. start_row is q k (not-true (eqb (key_at q 0 k) 0) e))
        ∙ sym (ap (sum (row is q 1)) parted.back))
        ∙ zero-add (sum (row is q 1) (lefts_in lay w mid lefts))

    module _ {none : Tally} (zero : (kind : Kind) → counter kind none ≡ 0) where
      nothing : (ks : List Kind) → sum (λ kind. counter kind none) ks ≡ 0
      nothing ks = sum_same (λ kind. counter kind none) (λ kind. 0) ks zero ∙ sum-zero ks

      pub walk_partitions : {top : ℕ} → RowsKept lay q w top → Partitions lay st q w mid lefts (record { tally = none; top = top })
      walk_partitions kept =
          record {
            index = index;
            underway = record {
              limit = ready.limit;
              shallow = ready.shallow;
              rule = ready.rule;
              budget = omega (arith, nothing check_kinds);
              bounded =
                  omega (
                    arith,
                    nothing kinds,
                    mul-le-mul {n₁ = lefts - mid} {m₁ = length q.rights} {n₂ = max_sets} {m₂ = max_sets}
                        (omega (arith, few, index.ground.left_few)) index.ground.right_few,
                  );
            };
            rows = kept;
            depth = refl;
            within = ready.some;
            upto = end.high;
            few = few;
            least = 1;
            span = q.T;
            keys = omega arith;
            further = omega arith;
            lefts = parted.back;
          }

      pub walk_done : {w' : List ℕ} {r : Option Progress} → PartVisited lay st q w w' mid lefts none r → WalkDone lay q st.budget w w' r
      walk_done {w'} {r} part =
          let checks = rows_total is_check refl in
          record {
            framed = part.framed;
            counted = record {
              counts = λ u made kind.
                  omega (
                    arith,
                    (part.visited.added u made).tallied.grows kind,
                    zero kind,
                    rows_total (is_of kind) (kind_met kind),
                  );
              within = λ u made.
                  omega (arith, part.visited.within u made, checks_added (part.visited.added u made), nothing check_kinds, checks);
              beyond = λ spent. omega (arith, part.visited.beyond spent, nothing check_kinds, checks);
            };
            rows = part.rows;
          }

-- no row is kept before it
module _ {lay : Layout} {st : WalkSettings} {q : Query} {w w' : List ℕ} {lefts : ℕ} (ready : WalkReady lay st q w lefts)
    (cleared : Cleared lay w lefts w') where
  pub ready_cleared : WalkReady lay st q w' lefts
  ready_cleared =
      record {
        index = index_kept cleared.frame cleared.size ready.index;
        limit = ready.limit;
        shallow = ready.shallow;
        rule = ready.rule;
        some = ready.some;
        left_count = ready.left_count;
      }

  pub rows_cleared : RowsKept lay q w' lay.rows
  rows_cleared = cleared.rows q (record { index = ready.index; left_count = ready.left_count })

  pub done_cleared : {budget : ℕ} {w'' : List ℕ} {r : Option Progress} → WalkDone lay q budget w' w'' r → WalkDone lay q budget w w'' r
  done_cleared {w'' = w''} done =
      record {
        framed = record {
          size = done.framed.size ∙ cleared.size;
          frame =
              done.framed.frame
              ∙ frame_less lay.slots lay.row_starts w w' ready.index.ground.slots_below cleared.frame;
        };
        counted = done.counted;
        rows = done.rows;
      }
