-- The left sets of a range that begin with a path whose candidates stand in a part of the work list: each is contained in those of the
-- part that contain it, in all of them where it ends with the path, and in none where there are none. So the part is the row of
-- left sets that end, or the checks of a left set against it find its row.
use Prim.Native.Nat.{ℕ, zero, suc, ◌+◌, ◌-◌, ◌≤◌, ◌<◌}
use mathlib.Core.Path.{◌≡◌, refl, sym, ap, subst, ◌∙◌}
use mathlib.Core.List.{List, [], ◌∷◌}
use mathlib.Core.Bool.{Bool, true}
use native.Mathlib.Omega.{arith}
use borrow.Author.Tests.{eq-eqb, eqb-true}
use lib.Dec.{eqb}
use lib.ListN.{length, get_or}
use Rattle.lists.specs.Lists.{all, keep, prefix, slice}
use Rattle.lists.proofs.Bools.{by_test}
use Rattle.lists.proofs.Slices.{all_slice, get_d_slice, slice_past}
use Rattle.join_spec.specs.Query.{Query}
use Rattle.join_index.specs.Grouping.{left_at, key_at}
use Rattle.join_index.specs.declared.Layout.{Layout}
use Rattle.words.specs.Words.{Word}
use Rattle.join_index.specs.Asking.{LeftThere, RangeThere}
use Rattle.join_index.specs.Ranges.{lefts_in, left_in, lead}
use Rattle.join_check.specs.Checks.{are_candidates}
use Rattle.join_index.proofs.Orders.{order_left, order_within, lead_pass, lead_fail, lead_nil}
use Rattle.kept_rows.specs.Kept.{contained_at, containing}
use Rattle.kept_rows.specs.Keeping.{ListThere}
use Rattle.kept_rows.specs.checked.Recording.{RowRecordable}
use Rattle.kept_rows.specs.declared.Progress.{Progress}
use Rattle.join_nodes.specs.declared.WalkSettings.{WalkSettings}
use Rattle.join_nodes.proofs.Prefixes.{prefix-length}
use Rattle.join_nodes.specs.blocks.Blocks.{Going, MergedEnd, PairsKept, Settles}
use Rattle.join_nodes.proofs.blocks.BlockLaws.{key_ended}
use Rattle.join_nodes.proofs.blocks.GoingLaws.{going_range, going_there}
use Rattle.join_nodes.proofs.blocks.RowsOf.{row_sifted, row_ended}

-- the leading elements of a list pass the test
lead_at : (p : ℕ → Bool) (xs : List ℕ) (i : ℕ) → i < lead p xs → p (get_or xs i 0) ≡ true
lead_at p [] i h = absurd (omega (arith, lead_nil p))
lead_at p (x ∷ xs) zero h = by_test (p x) (λ pass. pass) (λ fail. absurd (omega (arith, lead_fail p x xs fail)))
lead_at p (x ∷ xs) (suc i) h =
    by_test (p x)
    (λ pass. lead_at p xs i (omega (arith, lead_pass p x xs pass)))
    (λ fail. absurd (omega (arith, lead_fail p x xs fail)))

-- the left sets that stand before the end of those that end have no key
merged_key : {lay : Layout} {q : Query} {w : List ℕ} {d lo hi mid : ℕ} → RangeThere lay q w lo hi → MergedEnd lay w d lo hi mid
    → (i : ℕ) → lo ≤ i → i < mid → key_at q d (left_in lay w i) ≡ 0
merged_key {lay} {q} {w} {d} {lo} {hi} {mid} there end i low high =
    eqb-true (key_at q d (left_in lay w i)) 0
    (ap (λ (k : ℕ). eqb (key_at q d k) 0) (sym at)
    ∙ lead_at (λ k. eqb (key_at q d k) 0) (lefts_in lay w lo hi) (i - lo) (omega (arith, end.maximal q there)))
  where
    at : get_or (lefts_in lay w lo hi) (i - lo) 0 ≡ left_in lay w i
    at =
        let place : lay.left_order + lo + (i - lo) ≡ lay.left_order + i = omega arith in
        get_d_slice 0 (lay.left_order + lo) (lay.left_order + hi) (i - lo) w (omega (arith, end.high))
        ∙ ap (λ (n : ℕ). get_or w n 0) place

module _ {lay : Layout} {st : WalkSettings} {q : Query} {path w : List ℕ} {d lo hi from to : ℕ} {p : Progress}
    (going : Going lay st q path w d lo hi from to p) where
  some : 0 < length path
  some = omega (arith, going.depth, going.deep)

  whole : d ≤ length path
  whole = omega (arith, going.depth)

  -- the left set at one of the places, as it was read
  module _ (i : ℕ) (low : lo ≤ i) (high : i < hi) {k : ℕ} (is : k ≡ left_in lay w i) where
    throughout : (t : ℕ → Bool) → all t (lefts_in lay w lo hi) ≡ true → t k ≡ true
    throughout t each =
        ap t is
        ∙ all_slice t (lay.left_order + lo) (lay.left_order + hi) w (omega (arith, order_within going.index, going.few)) each
        (lay.left_order + i) (omega arith) (omega arith)

    pub row_left : LeftThere lay q w k
    row_left = subst (λ (n : ℕ). LeftThere lay q w n) (sym is) (order_left going.index i (omega (arith, going.few)))

    pub row_begins : prefix path (left_at q k) ≡ true
    row_begins = throughout (λ k. prefix path (left_at q k)) going.begins

    -- those of the part that contain it are all that do
    row_complete : containing q k ≡ keep (contained_at q k) (slice from to w)
    row_complete =
        row_sifted row_left path some whole row_begins ∙ ap (keep (contained_at q k)) (sym going.holds)

    -- so checks find its row, where there is room for it
    pub row_record : p.top + (to - from) ≤ lay.end → RowRecordable lay q w k d from to p.top
    row_record room =
        record {
          row = record {
            left = row_left;
            places = (going_there going).places;
            candidates = throughout (are_candidates q d (slice from to w)) (going_there going).candidates;
          };
          rows = going.rows;
          below = going.below;
          room = room;
          complete = row_complete;
        }

    -- the whole part is its row where it ends with the path, and where the part is empty
    row_is_part : key_at q d k ≡ 0 → containing q k ≡ slice from to w
    row_is_part ends =
        row_ended row_left path some whole row_begins
        (key_ended q d k (eq-eqb (key_at q d k) 0 ends)
        (omega (arith, going.depth, prefix-length path (left_at q k) row_begins)))
        ∙ sym going.holds

    row_is_none : to ≤ from → containing q k ≡ slice from to w
    unfolding keep
    row_is_none none =
        row_complete ∙ ap (keep (contained_at q k)) (slice_past from to w none) ∙ sym (slice_past from to w none)

  -- the part as the row of some of the left sets
  part_list : {mid : ℕ} → mid ≤ hi → ((i : ℕ) → lo ≤ i → i < mid → containing q (left_in lay w i) ≡ slice from to w)
      → ListThere lay q w lo mid from to p.top
  part_list high is =
      record {
        index = going.index;
        rows = going.rows;
        within = omega (arith, going.few, high);
        order = going.rise;
        below = going.below;
        is = is;
      }

  -- of all, where it is empty
  pub empty_list : to ≤ from → ListThere lay q w lo hi from to p.top
  empty_list none = part_list (omega arith) (λ i low high. row_is_none i low high refl none)

  -- of those that end with the path
  pub merged_list : {mid : ℕ} → lo < hi → MergedEnd lay w d lo hi mid → ListThere lay q w lo mid from to p.top
  merged_list some end =
      part_list end.high
      (λ i low high.
      row_is_part i low (omega (arith, high, end.high)) refl (merged_key (going_range going some) end i low high))

  -- of one that ends with the path
  pub ended_list : {k : ℕ} → hi ≡ lo + 1 → Word w (lay.left_order + lo) k → key_at q d k ≡ 0
      → ListThere lay q w lo hi from to p.top
  ended_list {k} one word ends =
      part_list (omega arith)
      (λ i low high.
      let here : left_in lay w i ≡ k = ap (left_in lay w) (omega (arith, low, high, one)) ∙ sym word.is in
      row_is_part i low high refl (ap (key_at q d) here ∙ ends))

-- the left sets that end were paired, and their row kept
pub settled : {lay : Layout} {st : WalkSettings} {w w' : List ℕ} {d lo hi mid from to : ℕ} {p r : Progress} → lo < hi
    → MergedEnd lay w d lo hi mid → PairsKept lay w lo mid from to p w' r
    → Settles lay st w d lo hi from to p w' (record { mid = mid; at = r })
settled some end pairs =
    record {
      end = end;
      merged = pairs.merged;
      framed = record { size = pairs.kept.size; frame = pairs.kept.frame };
      rows = λ q path going. pairs.kept.rows q (merged_list going some end);
    }
