-- A lone left set under the rule Merge that ends within the limit: the walk goes on to its end, so it comes by path with exactly
-- the right sets that contain it, however many ranks of it are still to be merged.
use Prim.Native.Nat.{ℕ, zero, suc, ◌+◌, ◌-◌, ◌*◌, ◌≤◌}
use mathlib.Core.Path.{◌≡◌, refl, sym, ap, subst, ◌∙◌}
use mathlib.Core.List.{List, [], ◌∷◌}
use mathlib.Core.Bool.{Bool}
use native.Mathlib.Omega.{arith}
use native.Mathlib.Nat.{one-mul}
use borrow.Author.Tests.{leb-true}
use lib.Dec.{leb}
use lib.ListN.{length, take, get_or}
use Rattle.std.specs.Prelude.{Some}
use Rattle.lists.specs.Lists.{sum, upto}
use Rattle.lists.proofs.Bools.{by_test}
use Rattle.lists.proofs.Counting.{count_bound}
use Rattle.lists.proofs.Filtering.{length-keep}
use Rattle.lists.proofs.Ranges.{length-range}
use Rattle.sets.specs.Limits.{max_pairs}
use Rattle.join_spec.specs.Query.{Query}
use Rattle.join_spec.specs.Walk.{Outcome, is_candidate}
use Rattle.join_spec.specs.Counting.{is_by_path}
use Rattle.join_spec.specs.declared.Rule.TheVariants.{Merge}
use Rattle.join_index.specs.Grouping.{left_at, right_at, key_at}
use Rattle.join_index.specs.Ground.{Listing}
use Rattle.join_index.specs.declared.Layout.{Layout}
use Rattle.words.specs.Words.{Word}
use Rattle.join_index.specs.Asking.{LeftThere}
use Rattle.join_index.specs.Ranges.{lefts_in}
use Rattle.join_check.specs.declared.Tally.{Tally}
use Rattle.kept_rows.specs.Kept.{contained_at, containing}
use Rattle.kept_rows.specs.checked.Recording.{RowRecordable, RowRecorded}
use Rattle.join_nodes.specs.Rows.{row as counted, path_pairs}
use Rattle.join_nodes.specs.Visiting.{Merged, RangeVisited}
use Rattle.kept_rows.specs.declared.Progress.{Progress}
use Rattle.join_nodes.specs.declared.WalkSettings.{WalkSettings}
use Rattle.join_nodes.proofs.Narrowing.{listing_kept}
use Rattle.join_nodes.proofs.RangeLaws.{range_one}
use Rattle.join_nodes.proofs.Prefixes.{prefix-length}
use Rattle.join_nodes.proofs.VisitLaws.{visited_some, kept_some}
use Rattle.join_nodes.proofs.NodeFacts.{merge_goes}
use Rattle.join_nodes.proofs.RowLaws.{MetOnly, row_merges, row_deeper}
use Rattle.join_nodes.proofs.PathLaws.{paths_all, merged_checks}
use Rattle.join_nodes.specs.blocks.Blocks.{Going}
use Rattle.join_nodes.proofs.blocks.BlockVisits.{merged_added}
use Rattle.join_nodes.proofs.blocks.GoingLaws.{going_range}
use Rattle.join_nodes.proofs.blocks.RowsOf.{row-whole}
use Rattle.join_nodes.proofs.blocks.NodeRows.{row_left, row_begins, row_record}
use Rattle.join_nodes.specs.lone.Lone.{Lone}

-- a left set without a key after e ranks has no more than e
pub key_within : (q : Query) (e k : ℕ) → key_at q e k ≡ 0 → length (left_at q k) ≤ e
unfolding key_at
key_within q e k none =
    by_test (leb (length (left_at q k)) e)
    (λ short. leb-true (length (left_at q k)) e short)
    (λ longer.
    let key : key_at q e k ≡ suc (get_or (left_at q k) e 0) = rw longer refl in
    absurd (omega (arith, key, none)))

-- the right sets that contain a left set are at most all
containing_few : (q : Query) (k : ℕ) → length (containing q k) ≤ length q.rights
containing_few q k =
    omega (
      arith,
      length-keep (contained_at q k) (upto (length q.rights)),
      count_bound (contained_at q k) (upto (length q.rights)),
      length-range 0 (length q.rights),
    )

module _ {lay : Layout} {q : Query} {w : List ℕ} {k : ℕ} (there : LeftThere lay q w k) (merge : q.rule ≡ Merge)
    (short : length (left_at q k) ≤ q.limit) (is : Outcome → Bool) (met : MetOnly is) where
  -- the row of the left set, with m ranks of it left
  row_lone : (m d : ℕ) → m + d ≡ length (left_at q k) → counted is q d k ≡ path_pairs 1 (length (containing q k)) is
  row_lone zero d ends =
      row_merges q d k is met (containing q k) (sym (merge_goes q (take d (left_at q k)) merge)) (omega arith)
      (subst (λ (n : ℕ). Listing (length q.rights) (λ s. is_candidate n (left_at q k) (right_at q s)) (containing q k)) (omega arith)
      (subst
      (λ (l : List ℕ). Listing (length q.rights) (λ s. is_candidate (length (left_at q k)) (left_at q k) (right_at q s)) l)
      (sym (row-whole there))
      (listing_kept (length q.rights) (λ s. is_candidate (length (left_at q k)) (left_at q k) (right_at q s)))))
  row_lone (suc m) d ends =
      row_deeper q d k is (sym (merge_goes q (take d (left_at q k)) merge)) (omega arith) (omega arith)
      ∙ row_lone m (suc d) (omega arith)

-- a lone left set, as it was read
module _ {lay : Layout} {st : WalkSettings} {q : Query} {path w : List ℕ} {d lo from to : ℕ} {p : Progress} {k : ℕ}
    (going : Going lay st q path w d lo (lo + 1) from to p) (lone : Lone lay st w lo (lo + 1) from to p.top)
    (word : Word w (lay.left_order + lo) k) where
  there : LeftThere lay q w k
  there = row_left going lo (omega arith) (omega arith) word.is

  -- checks against the part find its row
  pub lone_record : RowRecordable lay q w k d from to p.top
  lone_record = row_record going lo (omega arith) (omega arith) word.is lone.room

  module _ {none : Tally} {w' : List ℕ} {row : Progress} (recorded : RowRecorded lay w k d from to none p.top w' row) where
    pairs : row.top - p.top ≡ length (containing q k)
    pairs = omega (arith, recorded.past q lone_record)

    -- there is room to count its pairs
    pub lone_room : p.tally.by_path + path_pairs 1 (row.top - p.top) is_by_path ≤ max_pairs
    unfolding sum
    lone_room =
        let single : (lo + 1 - lo) * length q.rights ≡ length q.rights =
        ap (λ (n : ℕ). n * length q.rights) (omega arith) ∙ one-mul (length q.rights) in
        omega (
          arith,
          going.underway.bounded,
          containing_few q k,
          single,
          pairs,
          paths_all 1 (row.top - p.top),
          one-mul (row.top - p.top),
        )

    rows : (is : Outcome → Bool) → MetOnly is
        → sum (counted is q d) (lefts_in lay w lo (lo + 1)) ≡ path_pairs 1 (row.top - p.top) is
    unfolding sum
    rows is met =
        let range-there = going_range going (omega arith) in
        let short : length (left_at q k) ≤ st.limit =
        subst (λ (n : ℕ). length (left_at q n) ≤ st.limit) (sym word.is) (lone.short q range-there) in
        let long = prefix-length path (left_at q k) (row_begins going lo (omega arith) (omega arith) word.is) in
        ap (sum (counted is q d)) (range_one range-there refl ∙ ap (λ (n : ℕ). n ∷ []) (sym word.is))
        ∙ omega (
          arith,
          row_lone there (sym going.underway.rule ∙ lone.merge) (omega (arith, short, going.underway.limit)) is met
              (length (left_at q k) - d) d (omega (arith, long, going.depth)),
          ap (λ (n : ℕ). path_pairs 1 n is) pairs,
        )

    -- and they are its visit
    pub lone_kept : {m : Tally} → Merged 1 (row.top - p.top) p.tally m
        → RangeVisited lay q st.budget lay.row_starts d w w' lo (lo + 1) p.tally
        (Some (record { tally = m; top = row.top }))
    lone_kept merged =
        record {
          framed = record { size = recorded.size; frame = recorded.frame };
          visited =
              visited_some (merged_added (lefts_in lay w lo (lo + 1)) rows merged)
              (omega (arith, merged_checks merged, going.underway.budget));
          rows = kept_some (recorded.rows q lone_record);
        }
