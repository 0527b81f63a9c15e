-- The left sets of a node where the walk goes on, and the part with the candidates after its path.
use Prim.Native.Nat.{ℕ, ◌-◌, ◌*◌, ◌+◌, ◌≤◌, ◌<◌}
use mathlib.Core.Path.{◌≡◌, sym, ap, subst}
use mathlib.Core.List.{List}
use native.Mathlib.Omega.{arith}
use native.Mathlib.Nat.{mul-le-mul}
use lib.ListN.{length}
use Rattle.lists.specs.Lists.{sum, slice, upto}
use Rattle.lists.proofs.Counting.{count_bound}
use Rattle.lists.proofs.Filtering.{length-keep}
use Rattle.lists.proofs.Ranges.{length-range}
use Rattle.lists.proofs.Slices.{length-slice}
use Rattle.sets.specs.Limits.{max_pairs}
use Rattle.join_spec.specs.Query.{Query}
use Rattle.join_spec.specs.Walk.{is_candidate}
use Rattle.join_spec.specs.Counting.{is_by_path}
use Rattle.join_index.specs.Grouping.{right_at}
use Rattle.join_index.specs.Ground.{Listing}
use Rattle.join_index.specs.declared.Layout.{Layout}
use Rattle.join_index.specs.Asking.{RangeThere}
use Rattle.join_index.specs.Ranges.{lefts_in}
use Rattle.join_check.specs.Checks.{RangesThere}
use Rattle.join_nodes.specs.Rows.{path_pairs}
use Rattle.join_nodes.specs.Narrowing.{candidate_list}
use Rattle.kept_rows.specs.declared.Progress.{Progress}
use Rattle.join_nodes.specs.declared.WalkSettings.{WalkSettings}
use Rattle.join_nodes.proofs.Narrowing.{listing_kept}
use Rattle.join_nodes.proofs.FrameLaws.{rows_inside}
use Rattle.join_nodes.proofs.PathLaws.{paths_all}
use Rattle.join_nodes.specs.blocks.Blocks.{Going}
use Rattle.join_nodes.proofs.blocks.BlockLaws.{Rooted, ranges_there}

-- the candidates after a path are at most the right sets
candidates_most : (q : Query) (path : List ℕ) (e : ℕ) → length (candidate_list q path e) ≤ length q.rights
candidates_most q path e =
    omega (
      arith,
      length-keep (λ s. is_candidate e path (right_at q s)) (upto (length q.rights)),
      count_bound (λ s. is_candidate e path (right_at q s)) (upto (length q.rights)),
      length-range 0 (length q.rights),
    )

module _ {lay : Layout} {st : WalkSettings} {q : Query} {path w : List ℕ} {d lo hi from to : ℕ} {p : Progress}
    (going : Going lay st q path w d lo hi from to p) where
  pub going_range : lo < hi → RangeThere lay q w lo hi
  going_range some = record { index = going.index; some = some; within = going.few }

  pub going_rooted : Rooted q path d (lefts_in lay w lo hi)
  going_rooted = record { depth = going.depth; deep = going.deep; begin = going.begins }

  inside : to ≤ length w
  inside = omega (arith, going.below, rows_inside going.index)

  pub going_length : length (slice from to w) ≡ to - from
  going_length = length-slice from to w inside

  pub going_few : to - from ≤ length q.rights
  going_few = omega (arith, going_length, ap length going.holds, candidates_most q path d)

  pub going_listing : Listing (length q.rights) (λ s. is_candidate d path (right_at q s)) (slice from to w)
  going_listing =
      subst (λ (l : List ℕ). Listing (length q.rights) (λ s. is_candidate d path (right_at q s)) l) (sym going.holds)
      (listing_kept (length q.rights) (λ s. is_candidate d path (right_at q s)))

  -- they can be checked against the part
  pub going_there : RangesThere lay q w d lo hi from to
  going_there = ranges_there going_rooted going.index inside going.few going_listing (omega arith)

  -- there is room to count the pairs by path of some of them with the part
  pub going_room : (m : ℕ) → m ≤ hi - lo → p.tally.by_path + path_pairs m (to - from) is_by_path ≤ max_pairs
  unfolding sum
  going_room m few =
      let product : m * (to - from) ≤ (hi - lo) * length q.rights = mul-le-mul {n₁ = m} {n₂ = hi - lo} few going_few in
      omega (arith, going.underway.bounded, product, paths_all m (to - from))
