-- What the stages left stands at the end of the build: the frames of each, the right sets by least rank, and the left sets in
-- order.
use Prim.Native.Nat.{ℕ, zero, suc, ◌+◌, ◌≤◌, ◌<◌}
use mathlib.Core.Path.{◌≡◌, refl, sym, ap, ap₂, ◌∙◌}
use mathlib.Core.List.{List, []}
use mathlib.Core.Bool.{Bool, true, ◌&&◌}
use native.Mathlib.Omega.{arith}
use borrow.Author.Tests.{ltb-true}
use lib.ListN.{length, get_or, take}
use Rattle.lists.specs.Lists.{count, upto, slice}
use Rattle.lists.proofs.Counting.{count_agree}
use Rattle.lists.proofs.Ranges.{memb-upto}
use Rattle.lists.proofs.Slices.{frame_at, frame_less, frame-slice}
use Rattle.sets.specs.Collections.{sets_in}
use Rattle.sets.specs.Ordered.{ordered}
use Rattle.inputs.specs.Input.{Input}
use Rattle.join_spec.specs.Query.{Query, Settings, query_of}
use Rattle.join_spec.specs.Node.{seen}
use Rattle.counting_sort.specs.Groups.{grouped}
use Rattle.counting_sort.specs.Holding.{RegionHolds}
use Rattle.counting_sort.specs.Sorting.{sorted_at}
use Rattle.side_index.specs.keys.SetKeys.{set_at, key_in}
use Rattle.join_index.specs.Grouping.{left_at, right_at, key_at, ordered_by, order_from, order_of}
use Rattle.join_index.specs.Ground.{Listing, seen_count, asks_seen}
use Rattle.join_index.specs.stages.Stages.{held_key}
use Rattle.join_index.specs.declared.Layout.{Layout}
use Rattle.join_index.proofs.Ordering.{key_is}
use Rattle.join_index.proofs.GroupLaws.{upto_place, ordered_agree}
use Rattle.join_index.proofs.stages.HeldSets.{range-set}
use Rattle.join_index.proofs.build.BuildPlan.{Planned, counted, left_long, right_long}
use Rattle.join_index.proofs.build.BuildPlan.{least_below, order_above, signed_above, slots_above}
use Rattle.join_index.proofs.build.BuildStages.{Built, left_stage, least_ranges, order_ranges}

-- the order by the keys of the left sets
order_from_lem : (q : Query) (n d : ℕ) → ordered_by (key_at q) q.T (upto (length q.lefts)) n d ≡ order_from q n d
unfolding ordered_by order_from
order_from_lem q zero d = refl
order_from_lem q (suc n) d = ap (λ (l : List ℕ). grouped (key_at q d) (suc q.T) l) (order_from_lem q n (suc d))

module _ {i : Input} {settings : Settings} {nl nr : ℕ} {lay : Layout} {w a b c d f : List ℕ}
    (built : Built i settings nl nr lay w a b c d f) where
  plan : Planned i settings.ranks nl nr lay w
  plan = built.plan

  abbrev ranks : List ℕ
  ranks = settings.ranks

  abbrev T : ℕ
  T = length ranks

  abbrev lefts : List (List ℕ)
  lefts = sets_in i.left

  abbrev rights : List (List ℕ)
  rights = sets_in i.right

  -- what each stage left stands at the end
  from_order : take lay.right_signatures f ≡ take lay.right_signatures d
  from_order = built.signed.frame

  from_least : take (lay.by_least + length i.right.ends) f ≡ take (lay.by_least + length i.right.ends) c
  from_least =
      frame_less (lay.by_least + length i.right.ends) lay.right_signatures d f
      (omega (arith, signed_above plan)) from_order
      ∙ built.order_built.frame

  pub from_left : take lay.least_offsets f ≡ take lay.least_offsets b
  from_left =
      frame_less lay.least_offsets (lay.by_least + length i.right.ends) c f (order_above plan) from_least
      ∙ built.least_built.frame

  pub from_right : take (lay.right_ranks + nr) f ≡ take (lay.right_ranks + nr) a
  from_right =
      frame_less (lay.right_ranks + nr) lay.least_offsets b f (least_below plan) from_left ∙ built.left_built.frame

  pub size : length f ≡ length w
  size =
      built.signed.size ∙ built.order_built.size ∙ built.least_built.size ∙ built.left_built.size ∙ built.right_built.size

  pub least_slots : lay.least_offsets ≤ lay.slots
  least_slots = omega (arith, order_above plan, signed_above plan, slots_above plan)

  -- the right sets by least rank
  pub seen_at : (r : ℕ) → r < T → get_or f (lay.least_offsets + suc r) 0 ≡ get_or c (lay.least_offsets + suc r) 0
  seen_at r h =
      frame_at 0 (lay.least_offsets + suc r) (lay.by_least + length i.right.ends) c f
      (omega (arith, plan.out.by_least)) from_least

  seen-range : asks_seen settings.rule ≡ true → (r : ℕ) → r < T
      → slice lay.by_least (lay.by_least + seen_count lay f r) f
      ≡ slice (sorted_at lay.least_offsets (T + 1))
      (sorted_at lay.least_offsets (T + 1) + get_or c (lay.least_offsets + suc r) 0) c
  seen-range asked r h =
      ap₂ (λ (s n : ℕ). slice s (s + n) f) plan.out.by_least (seen_at r h)
      ∙ frame-slice (sorted_at lay.least_offsets (T + 1))
      (sorted_at lay.least_offsets (T + 1) + get_or c (lay.least_offsets + suc r) 0)
      (lay.by_least + length i.right.ends) c f (omega (arith, plan.out.by_least, built.least_built.few asked r h)) from_least

  abbrev q : Query
  q = query_of (counted i ranks) settings

  seen_same : (r s : ℕ) → s < length i.right.ends
      → seen r (set_at b lay.right_starts lay.right_ranks s) ≡ seen r (right_at q s)
  unfolding right_at
  seen_same r s h =
      ap (λ (l : List ℕ). seen r l)
      (range-set lay.right_starts lay.right_ranks lay.least_offsets (length i.right.ends) T b
      (λ s. ordered T ranks (get_or rights s [])) (least_ranges plan built.right_built built.left_built) s h)

  pub seen_first : asks_seen settings.rule ≡ true → (r : ℕ) → r < T
      → Listing (length rights) (λ s. seen r (right_at q s))
      (slice lay.by_least (lay.by_least + seen_count lay f r) f)
  seen_first asked r h p =
      ap (λ (l : List ℕ). count p l) (seen-range asked r h)
      ∙ built.least_built.seen_first asked r h p
      ∙ count_agree (λ s. seen r (set_at b lay.right_starts lay.right_ranks s) && p s)
      (λ s. seen r (right_at q s) && p s)
      (upto (length i.right.ends))
      (λ s there.
      ap (λ (t : Bool). t && p s)
      (seen_same r s (ltb-true s (length i.right.ends) (sym (memb-upto (length i.right.ends) s) ∙ there))))
      ∙ ap (λ (n : ℕ). count (λ s. seen r (right_at q s) && p s) (upto n)) (sym (right_long plan))

  -- the left sets in order
  order_keys_lem : (e k : ℕ) → k < length i.left.ends → held_key c (left_stage lay i ranks) e k ≡ key_at q e k
  unfolding left_at
  order_keys_lem e k h =
      ap (λ (l : List ℕ). key_in e l)
      (range-set lay.left_starts lay.left_ranks (lay.by_least + length i.right.ends) (length i.left.ends) T c
      (λ k. ordered T ranks (get_or lefts k [])) (order_ranges plan built.right_built built.left_built built.least_built) k h)
      ∙ sym (key_is q e k)

  order_is : ordered_by (held_key c (left_stage lay i ranks)) T (upto (length i.left.ends)) settings.limit 0 ≡ order_of q
  order_is =
      ordered_agree (held_key c (left_stage lay i ranks)) (key_at q) T
      (upto (length i.left.ends)) settings.limit 0 (λ e k there. order_keys_lem e k (upto_place (length i.left.ends) k there))
      ∙ ap (λ (n : ℕ). ordered_by (key_at q) T (upto n) settings.limit 0) (sym (left_long plan))
      ∙ order_from_lem q settings.limit 0

  order_end : lay.left_order + length lefts ≡ lay.right_signatures
  order_end = omega (arith, plan.out.right_signatures, left_long plan)

  pub in_order : RegionHolds f lay.slots lay.left_order (lay.left_order + length lefts) (order_of q)
  in_order =
      record {
        rise = omega arith;
        within = omega (arith, order_end, slots_above plan);
        is =
            frame-slice lay.left_order (lay.left_order + length lefts) lay.right_signatures d f
            (omega (arith, order_end)) from_order
            ∙ ap₂ (λ (s n : ℕ). slice s (s + n) d) plan.out.order (left_long plan)
            ∙ built.order_built.is
            ∙ order_is;
      }
