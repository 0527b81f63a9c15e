-- A node where the walk goes on and no candidate is left: whatever the rule decides below it, no left set of it meets a right set, so
-- its visit is over with the counters as they are.
use Prim.Native.Nat.{ℕ, zero, suc, ◌+◌, ◌-◌, ◌≤◌, ◌<◌}
use mathlib.Core.Path.{◌≡◌, sym, subst, ◌∙◌}
use mathlib.Core.List.{List, [], ◌∷◌}
use mathlib.Core.Bool.{Bool, true, ◌&&◌}
use native.Mathlib.Omega.{arith}
use borrow.Author.Tests.{leb-true, leb-false}
use lib.Dec.{leb}
use lib.ListN.{length, take}
use lib.Seq.{take-take}
use Rattle.std.specs.Prelude.{Some}
use Rattle.lists.specs.Lists.{count, memb, subset, prefix, sum, upto}
use Rattle.lists.proofs.Bools.{by_test, and_left, and_right, and_both}
use Rattle.lists.proofs.Throughout.{all_take}
use Rattle.lists.proofs.Counting.{count_le}
use Rattle.lists.proofs.Summing.{sum_same_where}
use Rattle.lists.proofs.Slices.{slice_past}
use Rattle.join_spec.specs.Query.{Query}
use Rattle.join_spec.specs.Node.{seen}
use Rattle.join_spec.specs.Walk.{Outcome, is_candidate, goes}
use Rattle.join_spec.specs.Kinds.{is_of}
use Rattle.join_spec.proofs.KindLaws.{kind_met, sum-zero}
use Rattle.join_index.specs.Grouping.{left_at, right_at}
use Rattle.join_index.specs.Ground.{Listing}
use Rattle.join_index.specs.declared.Layout.{Layout}
use Rattle.join_index.specs.Ranges.{lefts_in}
use Rattle.kept_rows.specs.Keeping.{ListKept}
use Rattle.join_nodes.specs.Rows.{row}
use Rattle.join_nodes.specs.Narrowing.{candidate_list}
use Rattle.join_nodes.specs.Visiting.{RangeVisited}
use Rattle.kept_rows.specs.declared.Progress.{Progress}
use Rattle.words.specs.declared.Part.{Part}
use Rattle.join_nodes.specs.declared.WalkSettings.{WalkSettings}
use Rattle.join_nodes.proofs.Narrowing.{listing_kept}
use Rattle.join_nodes.proofs.Prefixes.{prefix-length}
use Rattle.join_nodes.proofs.RowLaws.{MetOnly, row_stops, row_limit, row_merges, row_deeper}
use Rattle.join_nodes.proofs.PathLaws.{paths_one}
use Rattle.join_nodes.proofs.VisitLaws.{visited_some, kept_some}
use Rattle.join_nodes.proofs.blocks.BlockLaws.{Rooted, listing_left, left_goes}
use Rattle.join_nodes.proofs.blocks.GoingLaws.{going_rooted}
use Rattle.join_nodes.proofs.blocks.NodeRows.{empty_list}
use Rattle.join_nodes.proofs.enter.NodeSteps.{Onward, onward_going}

-- no right set is a candidate after the first d ranks of the left set k
abbrev Unmet : Query → ℕ → ℕ → Type 0
Unmet q d k = Listing (length q.rights) (λ s. is_candidate d (left_at q k) (right_at q s)) []

-- a candidate after one rank more is one before
candidate_before : (d : ℕ) (left right : List ℕ) → is_candidate (suc d) left right ≡ true → is_candidate d left right ≡ true
unfolding is_candidate
candidate_before d [] right is = is
candidate_before d (r ∷ ranks) right is =
    let left = r ∷ ranks in
    and_both (and_left (seen r right) (subset (take (suc d) left) right) is)
    (subst (λ (l : List ℕ). subset l right ≡ true) (take-take d (suc d) left (omega arith))
    (all_take (λ (x : ℕ). memb x right) d (take (suc d) left)
    (and_right (seen r right) (subset (take (suc d) left) right) is)))

module _ (q : Query) (k : ℕ) where
  unmet-further : (d : ℕ) → Unmet q d k → Unmet q (suc d) k
  unfolding count
  unmet-further d none p =
      let fewer : count (λ s. is_candidate (suc d) (left_at q k) (right_at q s) && p s) (upto (length q.rights))
      ≤ count (λ s. is_candidate d (left_at q k) (right_at q s) && p s) (upto (length q.rights)) =
      count_le (λ s. is_candidate (suc d) (left_at q k) (right_at q s) && p s)
      (λ s. is_candidate d (left_at q k) (right_at q s) && p s) (upto (length q.rights))
      (λ s both.
      and_both
      (candidate_before d (left_at q k) (right_at q s) (and_left (is_candidate (suc d) (left_at q k) (right_at q s)) (p s) both))
      (and_right (is_candidate (suc d) (left_at q k) (right_at q s)) (p s) both))
      in
      omega (arith, fewer, none p)

  module _ (is : Outcome → Bool) (met : MetOnly is) where
    -- its row is 0: where it ends, at the limit, and below it
    row_ends : (d : ℕ) → leb (length (left_at q k)) d ≡ true → d ≤ length (left_at q k) → goes q (take d (left_at q k)) ≡ true
        → Unmet q d k → row is q d k ≡ 0
    unfolding count
    row_ends d short long on none =
        row_merges q d k is met [] on (omega (arith, leb-true (length (left_at q k)) d short)) none ∙ sym (paths_one is [])

    row_empty : (n d : ℕ) → n + d ≡ q.limit → d ≤ length (left_at q k) → goes q (take d (left_at q k)) ≡ true → Unmet q d k
        → row is q d k ≡ 0
    unfolding count
    row_empty zero d levels long on none =
        by_test (leb (length (left_at q k)) d)
        (λ short. row_ends d short long on none)
        (λ e. row_limit q d k is met [] on (leb-false (length (left_at q k)) d e) (omega arith) none)
    row_empty (suc n) d levels long on none =
        by_test (leb (length (left_at q k)) d)
        (λ short. row_ends d short long on none)
        (λ e.
        let longer : d < length (left_at q k) = leb-false (length (left_at q k)) d e in
        row_deeper q d k is on longer (omega arith)
        ∙ by_test (goes q (take (suc d) (left_at q k)))
        (λ further. row_empty n (suc d) (omega arith) (omega arith) further (unmet-further d none))
        (λ stops. row_stops q (suc d) k is met [] stops (subst (λ (n : ℕ). Unmet q n k) (omega arith) none)))

-- the rows of left sets that begin with a path after which no candidate is left
rows_empty : {q : Query} {path : List ℕ} {d : ℕ} {lefts : List ℕ} → Rooted q path d lefts → d ≤ q.limit → goes q path ≡ true
    → candidate_list q path d ≡ [] → (is : Outcome → Bool) → MetOnly is → sum (row is q d) lefts ≡ 0
rows_empty {q} {path} {d} {lefts} rooted within on none is met =
    sum_same_where (λ k. prefix path (left_at q k)) (row is q d) (λ k. 0) lefts rooted.begin
    (λ k begins.
    row_empty q k is met (q.limit - d) d (omega arith)
    (omega (arith, prefix-length path (left_at q k) begins, rooted.depth))
    (left_goes rooted k true begins on)
    (listing_left rooted d k [] begins (omega arith)
    (subst (λ (l : List ℕ). Listing (length q.rights) (λ s. is_candidate d path (right_at q s)) l) none
    (listing_kept (length q.rights) (λ s. is_candidate d path (right_at q s))))))
    ∙ sum-zero lefts

-- so the visit of a node where the part is empty is over, and the rows of its left sets are kept
pub empty_kept : {lay : Layout} {st : WalkSettings} {q : Query} {path w w' w'' : List ℕ} {d lo hi from to top : ℕ} {p : Progress}
    {part : Part} → Onward lay st q path w w' d lo hi from to p part p.top → part.to ≤ part.«from»
    → ListKept lay w' lo hi part.«from» part.to p.top w'' top
    → RangeVisited lay q st.budget lay.row_starts d w' w'' lo hi p.tally
    (Some (record { tally = p.tally; top = top }))
empty_kept {lay} {q = q} {path} {w' = w'} {d = d} {lo} {hi} {part = part} so empty kept =
    record {
      framed = record { size = kept.size; frame = kept.frame };
      visited =
          visited_some
          (record { tallied = record { grows = λ kind. omega (arith, nothing (is_of kind) (kind_met kind)) } })
          so.node.underway.budget;
      rows = kept_some (kept.rows q (empty_list (onward_going so) empty));
    }
  where
    nothing : (is : Outcome → Bool) → MetOnly is → sum (row is q d) (lefts_in lay w' lo hi) ≡ 0
    nothing =
        rows_empty (going_rooted (onward_going so)) so.node.at.within (sym so.on)
        (sym so.holds ∙ slice_past part.«from» part.to w' empty)
