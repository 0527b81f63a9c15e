-- The build as a whole: what its stages left is the ground of the walk.
use Prim.Native.Nat.{ℕ, ◌<◌}
use mathlib.Core.Path.{◌≡◌, sym, subst}
use mathlib.Core.List.{List, []}
use mathlib.Core.Bool.{true}
use native.Mathlib.Omega.{arith}
use lib.Dec.{ltb}
use lib.ListN.{length, get_or}
use Rattle.lists.specs.Lists.{all}
use Rattle.lists.proofs.Throughout.{all_at}
use Rattle.sets.specs.Collections.{sets_in}
use Rattle.inputs.specs.Input.{Input}
use Rattle.sets.proofs.Ordered.{below, items_below}
use Rattle.sets.proofs.Containment.{contained_ranks}
use Rattle.join_spec.specs.Query.{Settings, query_of}
use Rattle.side_index.proofs.SideReads.{side_inverted, side_bound}
use Rattle.join_index.specs.Grouping.{left_at, right_at}
use Rattle.join_index.specs.Ground.{Ground}
use Rattle.join_index.specs.build.Building.{BuildRoom}
use Rattle.join_index.specs.declared.Layout.{Layout}
use Rattle.join_index.proofs.build.BuildPlan.{Planned, counted, items_are, plan_sizes, rows_below, left_long, right_long}
use Rattle.join_index.proofs.build.BuildPlan.{least_below, signed_above, slots_above}
use Rattle.join_index.proofs.build.BuildPlan.{right_end, right_ranks_lem, left_end, left_starts_lem, left_ranks}
use Rattle.join_index.proofs.build.BuildStages.{Built, right_set, left_set}
use Rattle.join_index.proofs.build.BuildLists.{from_left, from_right, size, least_slots, seen_at, seen_first, in_order}

module _ {i : Input} {settings : Settings} {nl nr : ℕ} {lay : Layout} {w a b c d f : List ℕ}
    (built : Built i settings nl nr lay w a b c d f) where
  plan : Planned i settings.ranks nl nr lay w
  plan = built.plan

  abbrev ranks : List ℕ
  ranks = settings.ranks

  abbrev T : ℕ
  T = length ranks

  abbrev lefts : List (List ℕ)
  lefts = sets_in i.left

  abbrev rights : List (List ℕ)
  rights = sets_in i.right

  -- ranks decide containment
  left_items_lem : (k : ℕ) → k < length lefts → all (λ i. ltb i T) (get_or lefts k []) ≡ true
  left_items_lem k h = all_at (below T) [] lefts (items_below T i.left.ends i.left.items plan.room.left_good) k h

  right_items_lem : (s : ℕ) → s < length rights → all (λ i. ltb i T) (get_or rights s []) ≡ true
  right_items_lem s h = all_at (below T) [] rights (items_below T i.right.ends i.right.items plan.room.right_good) s h

  pub ground : Ground lay (query_of (counted i ranks) settings) f
  unfolding left_at right_at
  ground =
      record {
        left =
            λ k h. left_set plan built.right_built built.left_built f (from_left built) lay.slots (least_slots built) k h;
        right =
            λ s h. right_set plan built.right_built f (from_right built) lay.slots
            (omega (arith, least_below plan, least_slots built)) s h;
        left_signature = built.signed.left;
        right_signature = built.signed.right;
        inverted =
            λ r h. side_inverted built.right_built.held (right_end plan) f (from_right built) lay.index lay.slots
            plan.out.index (omega (arith, least_below plan, least_slots built)) r h;
        seen_first = seen_first built;
        ordered = in_order built;
        left_starts_within = omega (arith, left_starts_lem plan, left_ranks plan, left_end plan, least_slots built);
        right_starts_within = omega (arith, plan.out.right_starts, right_ranks_lem plan, least_below plan, least_slots built);
        left_signatures_within = omega (arith, plan.out.slots, left_long plan);
        right_signatures_within = omega (arith, slots_above plan, right_long plan);
        offsets_within = omega (arith, right_end plan, least_below plan, least_slots built);
        least_offsets_within = omega (arith, plan.out.by_least, signed_above plan, slots_above plan);
        seen_within =
            λ asked r h.
            omega (arith, seen_at built r h, built.least_built.few asked r h, signed_above plan, slots_above plan);
        slots_below = omega (arith, plan.out.row_starts);
        slot_within =
            λ r h.
            omega (arith, side_bound built.right_built.held (right_end plan) f (from_right built) r h, plan.out.row_starts);
        row_starts_within = omega (arith, plan.out.row_ends, left_long plan);
        row_ends_within = omega (arith, plan.out.rows, left_long plan);
        rows_above = omega (arith, plan.out.least_offsets, signed_above plan, slots_above plan, plan.out.row_starts, plan.out.row_ends, plan.out.rows);
        rows_within = rows_below plan;
        end_within = omega (arith, plan.out.end.within, size built);
        end_small = plan.out.end.small;
        faithful =
            λ k s hk hs.
            sym
            (contained_ranks T ranks plan.room.permutation (get_or lefts k []) (get_or rights s []) (left_items_lem k hk)
            (right_items_lem s hs));
        left_few = omega (arith, (plan_sizes plan).left_sets, left_long plan);
        right_few = omega (arith, (plan_sizes plan).right_sets, right_long plan);
        items_few = plan.room.items;
      }

-- the same under the count of items that was given
pub ground_items : {i : Input} {w f : List ℕ} {lay : Layout} (settings : Settings) → BuildRoom i settings.ranks w
    → Ground lay (query_of (counted i settings.ranks) settings) f → Ground lay (query_of i settings) f
ground_items {i} {w} {f} {lay} settings room g =
    subst (λ (n : ℕ). Ground lay (query_of (record i { T = n }) settings) f) (items_are room) g
