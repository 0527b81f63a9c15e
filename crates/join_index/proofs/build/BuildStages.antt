-- The stages of the build: each has the room that it needs from the plan and from what the stages before it leave.
use Prim.Native.Nat.{ℕ, suc, ◌+◌, ◌≤◌, ◌<◌}
use mathlib.Core.Path.{◌≡◌, sym}
use mathlib.Core.List.{List, []}
use native.Mathlib.Omega.{arith}
use lib.ListN.{length, get_or, take}
use Rattle.lists.specs.Lists.{upto}
use Rattle.sets.specs.Collections.{sets_in}
use Rattle.sets.specs.Ordered.{ordered}
use Rattle.sets.proofs.Good.{end_within_lem}
use Rattle.inputs.specs.Input.{Input}
use Rattle.join_spec.specs.declared.Rule.{Rule}
use Rattle.join_spec.specs.Query.{Settings}
use Rattle.counting_sort.specs.Holding.{RegionHolds}
use Rattle.signatures.specs.Signing.{BothRoom, BothSigned}
use Rattle.side_index.specs.keys.SetKeys.{start_of}
use Rattle.side_index.specs.Side.{SideRoom, SideBuilt}
use Rattle.side_index.proofs.SideReads.{side_set}
use Rattle.join_index.specs.Grouping.{ordered_by}
use Rattle.join_index.specs.declared.stages.Stage.{Stage}
use Rattle.join_index.specs.stages.Stages.{StageRoom, LeastBuilt, OrderBuilt, held_key}
use Rattle.join_index.specs.declared.Layout.{Layout}
use Rattle.join_index.proofs.Ordering.{ordered_below, ordered_short}
use Rattle.join_index.proofs.stages.HeldSets.{ranges_held}
use Rattle.join_index.proofs.build.BuildPlan.{Planned}
use Rattle.join_index.proofs.build.BuildPlan.{signed_above, slots_above, order_above, least_below, left_above, wide}
use Rattle.join_index.proofs.build.BuildPlan.{right_end, right_ranks_lem, left_end, left_starts_lem, left_ranks, right_long}
use Rattle.join_index.proofs.build.BuildPlan.{left_long, plan_sizes}

-- the right sets by least rank
abbrev pub right_stage : Layout → Input → List ℕ → Stage
right_stage lay i ranks =
    record {
      starts = lay.right_starts;
      ranks = lay.right_ranks;
      sets = length i.right.ends;
      t = length ranks;
      base = lay.least_offsets;
      temp = lay.slots;
    }

-- the left sets in order
abbrev pub left_stage : Layout → Input → List ℕ → Stage
left_stage lay i ranks =
    record {
      starts = lay.left_starts;
      ranks = lay.left_ranks;
      sets = length i.left.ends;
      t = length ranks;
      base = lay.by_least + length i.right.ends;
      temp = lay.slots;
    }

-- what each stage left: a after the right side, b the left side, c the right sets by least rank, d the left sets in order, and f
-- the signatures
pub record Built (i : Input) (settings : Settings) (nl nr : ℕ) (lay : Layout) (w a b c d f : List ℕ) : Type 0 where
  pub plan : Planned i settings.ranks nl nr lay w
  pub right_built : SideBuilt lay.offsets nr settings.ranks (sets_in i.right) w a
  pub left_built : SideBuilt (lay.right_ranks + nr) nl settings.ranks (sets_in i.left) a b
  pub least_built : LeastBuilt settings.rule (right_stage lay i settings.ranks) b c
  pub order_built :
      OrderBuilt (left_stage lay i settings.ranks)
      (ordered_by (held_key c (left_stage lay i settings.ranks)) (length settings.ranks) (upto (length i.left.ends)) settings.limit 0) c d
  pub signed :
      BothSigned lay.right_signatures lay.left_signatures (sets_in i.right) (sets_in i.left) d f

module _ {i : Input} {ranks w : List ℕ} {nl nr : ℕ} {lay : Layout} (p : Planned i ranks nl nr lay w) where
  abbrev T : ℕ
  T = length ranks

  abbrev lefts : List (List ℕ)
  lefts = sets_in i.left

  abbrev rights : List (List ℕ)
  rights = sets_in i.right

  pub right_room : SideRoom lay.offsets nr ranks i.right w
  right_room =
      record {
        good = p.room.right_good;
        permutation = p.room.permutation;
        few = p.room.items;
        entry = sym p.right_entries;
        room = omega (arith, left_above p, least_below p, order_above p, signed_above p, slots_above p, wide p);
      }

  module _ {a : List ℕ} (right-built : SideBuilt lay.offsets nr ranks rights w a) where
    pub left_room : SideRoom (lay.right_ranks + nr) nl ranks i.left a
    left_room =
        record {
          good = p.room.left_good;
          permutation = p.room.permutation;
          few = p.room.items;
          entry = sym p.left_entries;
          room = omega (
            arith,
            left_above p,
            p.out.least_offsets,
            order_above p,
            signed_above p,
            slots_above p,
            wide p,
            right-built.size,
          );
        }

    -- the right sets in any later list that is the same up to the end of their regions
    pub right_set : (v : List ℕ) → take (lay.right_ranks + nr) v ≡ take (lay.right_ranks + nr) a → (high : ℕ)
        → lay.right_ranks + nr ≤ high → (s : ℕ) → s < length rights
        → RegionHolds v high (start_of v lay.right_starts lay.right_ranks s)
        (start_of v lay.right_starts lay.right_ranks (suc s))
        (ordered T ranks (get_or rights s []))
    right_set v kept high more s below =
        side_set right-built.held (right_end p) v kept lay.right_starts lay.right_ranks high p.out.right_starts
        (right_ranks_lem p) more s below

    module _ {b : List ℕ} (left-built : SideBuilt (lay.right_ranks + nr) nl ranks lefts a b) where
      pub left_set : (v : List ℕ) → take lay.least_offsets v ≡ take lay.least_offsets b → (high : ℕ)
          → lay.least_offsets ≤ high → (k : ℕ) → k < length lefts
          → RegionHolds v high (start_of v lay.left_starts lay.left_ranks k)
          (start_of v lay.left_starts lay.left_ranks (suc k))
          (ordered T ranks (get_or lefts k []))
      left_set v kept high more k below =
          side_set left-built.held (left_end p) v kept lay.left_starts lay.left_ranks high (left_starts_lem p)
          (left_ranks p) more k below

      pub least_ranges : (s : ℕ) → s < length i.right.ends
          → RegionHolds b lay.least_offsets (start_of b lay.right_starts lay.right_ranks s)
          (start_of b lay.right_starts lay.right_ranks (suc s)) (ordered T ranks (get_or rights s []))
      least_ranges s below = right_set b left-built.frame lay.least_offsets (least_below p) s (omega (arith, right_long p))

      pub least_room : StageRoom (right_stage lay i ranks) b
      least_room =
          record {
            held =
                ranges_held lay.right_starts lay.right_ranks lay.least_offsets (length i.right.ends) T b
                (λ s. ordered T ranks (get_or rights s [])) least_ranges
                (omega (arith, p.out.right_starts, p.out.right_ranks, least_below p))
                (λ s. ordered_below T ranks (get_or rights s []))
                (λ s. ordered_short T ranks (get_or rights s []))
                (plan_sizes p).right_sets
                p.room.items;
            below = omega (arith, p.out.by_least, signed_above p, slots_above p);
            room = omega (arith, wide p, right-built.size, left-built.size);
          }

      module _ {rule : Rule} {c : List ℕ} (least_built : LeastBuilt rule (right_stage lay i ranks) b c) where
        pub order_ranges : (k : ℕ) → k < length i.left.ends
            → RegionHolds c (lay.by_least + length i.right.ends) (start_of c lay.left_starts lay.left_ranks k)
            (start_of c lay.left_starts lay.left_ranks (suc k)) (ordered T ranks (get_or lefts k []))
        order_ranges k below =
            left_set c least_built.frame (lay.by_least + length i.right.ends) (order_above p) k (omega (arith, left_long p))

        pub order_room : StageRoom (left_stage lay i ranks) c
        order_room =
            record {
              held =
                  ranges_held lay.left_starts lay.left_ranks (lay.by_least + length i.right.ends) (length i.left.ends) T c
                  (λ k. ordered T ranks (get_or lefts k [])) order_ranges
                  (omega (arith, p.out.left_starts, p.out.left_ranks, p.out.least_offsets, order_above p))
                  (λ k. ordered_below T ranks (get_or lefts k []))
                  (λ k. ordered_short T ranks (get_or lefts k []))
                  (plan_sizes p).left_sets
                  p.room.items;
              below = omega (arith, signed_above p, slots_above p);
              room = omega (arith, wide p, right-built.size, left-built.size, least_built.size);
            }

        module _ (limit : ℕ) {d : List ℕ}
            (order_built :
            OrderBuilt (left_stage lay i ranks)
            (ordered_by (held_key c (left_stage lay i ranks)) T (upto (length i.left.ends)) limit 0) c d) where
          pub sign_room :
              BothRoom lay.right_signatures lay.left_signatures i.right i.left d
          sign_room =
              record {
                right_within = end_within_lem T i.right.ends i.right.items p.room.right_good;
                left_within = end_within_lem T i.left.ends i.left.items p.room.left_good;
                above = omega (arith, p.out.left_signatures);
                room =
                    omega
                    (arith, wide p, p.out.slots, right-built.size, left-built.size, least_built.size, order_built.size);
              }
