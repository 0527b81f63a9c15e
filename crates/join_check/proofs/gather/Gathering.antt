-- Ranges of left sets, checked part by part: the invariant of each loop here is `RangesLeft`, with its start, its steps at either end,
-- and its end. A left set of a range can be checked where the range can, and so can each part of it.
use Prim.Native.Nat.{ℕ, ◌+◌, ◌-◌, ◌*◌, ◌≤◌, ◌<◌}
use mathlib.Core.Path.{◌≡◌, refl, sym, ap, ◌∙◌}
use mathlib.Core.List.{List, [], ◌∷◌}
use mathlib.Core.Bool.{Bool}
use native.Mathlib.Omega.{arith}
use native.Mathlib.Nat.{add-mul, one-mul, zero-mul}
use lib.ListN.{length}
use Rattle.lists.specs.Lists.{sum, slice}
use Rattle.lists.proofs.Throughout.{all_front, all_back}
use Rattle.lists.proofs.Summing.{sum_append}
use Rattle.lists.proofs.Slices.{all_slice}
use Rattle.sets.specs.Limits.{full_words}
use Rattle.join_spec.specs.Query.{Query}
use Rattle.join_spec.specs.Walk.{Outcome}
use Rattle.join_spec.specs.Kinds.{is_of}
use Rattle.join_index.specs.declared.Layout.{Layout}
use Rattle.join_check.specs.declared.Tally.{Tally}
use Rattle.words.specs.Words.{Word}
use Rattle.join_index.specs.Asking.{SomeQuery, RangeThere}
use Rattle.join_index.specs.Ranges.{left_in, lefts_in}
use Rattle.join_check.specs.Checks.{row_count, range_count, are_candidates}
use Rattle.join_check.specs.Counters.{checks_in}
use Rattle.join_check.specs.Checks.{RowThere, RangesThere, RowChecked, RangesChecked}
use Rattle.join_index.proofs.Orders.{order_within, range_left, range_none, range_next, range_split}
use Rattle.join_check.proofs.Tallying.{tallied_same, Leaving, leaving_step, leaving_end}

module _ {lay : Layout} {q : Query} {w : List ℕ} {e lo hi from to : ℕ} (there : RangesThere lay q w e lo hi from to) where
  pub ranges_within : lay.left_order + hi ≤ length w
  ranges_within = omega (arith, order_within there.places.index, there.within)

  pub ranges_range : (i : ℕ) → i < hi → RangeThere lay q w i hi
  ranges_range i more = record { index = there.places.index; some = more; within = there.within }

  -- a left set of the range
  pub ranges_row : {k : ℕ} (i : ℕ) → lo ≤ i → i < hi → Word w (lay.left_order + i) k → RowThere lay q w k e from to
  ranges_row i low high word =
      record {
        left = range_left (ranges_range i high) i high word;
        places = there.places;
        candidates = ap (are_candidates q e (slice from to w)) word.is
            ∙ all_slice (are_candidates q e (slice from to w)) (lay.left_order + lo) (lay.left_order + hi) w ranges_within there.candidates
            (lay.left_order + i)
            (omega arith) (omega arith);
      }

  -- a part of the range
  pub ranges_part : (i j : ℕ) → lo ≤ i → i ≤ j → j ≤ hi → RangesThere lay q w e i j from to
  ranges_part i j low some high =
      let first = range_split lay w lo i hi low (omega arith) ranges_within in
      let then = range_split lay w i j hi some high ranges_within in
      let back = all_back (are_candidates q e (slice from to w)) (lefts_in lay w lo i) (lefts_in lay w i hi) (rw first at there.candidates) in
      record {
        places = there.places;
        within = omega (arith, there.within);
        candidates = all_front (are_candidates q e (slice from to w)) (lefts_in lay w i j) (lefts_in lay w j hi) (rw then at back);
      }

sum_one : {A : Type 0} (f : A → ℕ) (x : A) → f x ≡ sum f (x ∷ [])
unfolding sum
sum_one f x = omega arith

-- one row is a range of one
pub row_ranges : {lay : Layout} {w : List ℕ} {k e i from to : ℕ} {tally r : Tally} → Word w (lay.left_order + i) k
    → RowChecked lay w k e from to tally r → RangesChecked lay w e i (i + 1) from to tally r
row_ranges {lay} {w} {k} {e} {i} {from} {to} word row =
    record {
      grown =
          let single : i + 1 - i ≡ 1 = omega arith in
          let times : (i + 1 - i) * (to - from) ≡ to - from = ap (λ (n : ℕ). n * (to - from)) single ∙ one-mul (to - from) in
          omega (arith, row.grown);
      tallied = λ q there.
          let alone : lefts_in lay w i (i + 1) ≡ left_in lay w i ∷ [] =
          range_next lay w i (i + 1) (omega arith) (ranges_within there)
          ∙ ap (λ (l : List ℕ). left_in lay w i ∷ l) (range_none lay w (i + 1) (i + 1) (omega arith))
          in
          tallied_same
          (λ kind.
          ap (row_count q (is_of kind) (slice from to w)) word.is
          ∙ sum_one (row_count q (is_of kind) (slice from to w)) (left_in lay w i)
          ∙ ap (range_count q (is_of kind) (slice from to w)) (sym alone))
          (row.tallied q (ranges_row there i (omega arith) (omega arith) word));
    }

-- of a range the left sets at the places i up to j are left: they can be checked where the range can, and the counters, with their checks,
-- are what they were with all
pub record RangesLeft (lay : Layout) (w : List ℕ) (e lo hi from to : ℕ) (tally r : Tally) (i j : ℕ) : Type 0 where
  pub there : (q : Query) → RangesThere lay q w e lo hi from to → RangesThere lay q w e i j from to
  pub grown : checks_in r + (j - i) * (to - from) ≡ checks_in tally + (hi - lo) * (to - from)
  pub tallied :
      (q : Query) → RangesThere lay q w e lo hi from to
      → Leaving (λ is. range_count q is (slice from to w) (lefts_in lay w i j))
      (λ is. range_count q is (slice from to w) (lefts_in lay w lo hi)) tally r

module _ {lay : Layout} {w : List ℕ} {e lo hi from to : ℕ} {tally : Tally} where
  module _ {r : Tally} {i j : ℕ} (so : RangesLeft lay w e lo hi from to tally r i j) where
    -- the checks of two parts
    parts : (a b c : ℕ) → a ≤ b → b ≤ c → (c - a) * (to - from) ≡ (b - a) * (to - from) + (c - b) * (to - from)
    parts a b c low high =
        let whole : c - a ≡ b - a + (c - b) = omega arith in
        ap (λ (n : ℕ). n * (to - from)) whole ∙ add-mul (b - a) (c - b) (to - from)

    counts : {q : Query} (a : ℕ) → i ≤ a → a ≤ j → RangesThere lay q w e lo hi from to → (is : Outcome → Bool)
        → range_count q is (slice from to w) (lefts_in lay w i j)
        ≡ range_count q is (slice from to w) (lefts_in lay w i a) + range_count q is (slice from to w) (lefts_in lay w a j)
    counts {q} a low high there is =
        ap (range_count q is (slice from to w)) (range_split lay w i a j low high (ranges_within (so.there q there)))
        ∙ sum_append (row_count q is (slice from to w)) (lefts_in lay w i a) (lefts_in lay w a j)

    -- a part of what is left, as it is asked of its checks: it can be checked, and its checks fit
    module _ (a b : ℕ) (low : i ≤ a) (rise : a ≤ b) (high : b ≤ j) where
      part_there : (q : Query) → RangesThere lay q w e lo hi from to → RangesThere lay q w e a b from to
      part_there q there = ranges_part (so.there q there) a b low rise high

      pub left_room : checks_in tally + (hi - lo) * (to - from) < full_words → checks_in r + (b - a) * (to - from) < full_words
      left_room fits = omega (arith, so.grown, fits, parts i a j low (omega arith), parts a b j rise high)

      pub left_part : SomeQuery (λ q. RangesThere lay q w e lo hi from to) → checks_in tally + (hi - lo) * (to - from) < full_words
          → SomeQuery (λ q. RangesThere lay q w e a b from to) × (checks_in r + (b - a) * (to - from) < full_words)
      left_part some fits =
          (record { query = some.query; holds = part_there some.query some.holds }, left_room fits)

    -- the first ones were checked
    pub left_front : {a : ℕ} {u : Tally} → i ≤ a → a ≤ j → RangesChecked lay w e i a from to r u
        → RangesLeft lay w e lo hi from to tally u a j
    left_front {a} low high more =
        record {
          there = part_there a j low high (omega arith);
          grown = omega (arith, parts i a j low high, so.grown, more.grown);
          tallied = λ q there.
              leaving_step (so.tallied q there) {later = λ is. range_count q is (slice from to w) (lefts_in lay w a j)}
              (more.tallied q (part_there i a (omega arith) low high q there)) (counts a low high there);
        }

    -- the last ones were checked
    pub left_back : {b : ℕ} {u : Tally} → i ≤ b → b ≤ j → RangesChecked lay w e b j from to r u
        → RangesLeft lay w e lo hi from to tally u i b
    left_back {b} low high more =
        record {
          there = part_there i b (omega arith) low high;
          grown = omega (arith, parts i b j low high, so.grown, more.grown);
          tallied = λ q there.
              leaving_step (so.tallied q there) {later = λ is. range_count q is (slice from to w) (lefts_in lay w i b)}
              (more.tallied q (part_there b j low high (omega arith) q there)) (λ is. omega (arith, counts b low high there is));
        }

    -- all that were left were checked
    pub left_end : {u : Tally} → RangesChecked lay w e i j from to r u → RangesChecked lay w e lo hi from to tally u
    left_end more =
        record {
          grown = omega (arith, so.grown, more.grown);
          tallied = λ q there.
              leaving_end
              (leaving_step (so.tallied q there) {later = λ is. 0} (more.tallied q (so.there q there)) (λ is. omega arith))
              (λ is. refl);
        }

    -- none is left
    pub left_none : j ≤ i → RangesChecked lay w e lo hi from to tally r
    unfolding sum
    left_none past =
        record {
          grown =
              let none : j - i ≡ 0 = omega arith in
              let gone : (j - i) * (to - from) ≡ 0 = ap (λ (n : ℕ). n * (to - from)) none ∙ zero-mul (to - from) in
              omega (arith, so.grown);
          tallied = λ q there.
              leaving_end (so.tallied q there) (λ is. ap (range_count q is (slice from to w)) (range_none lay w i j past));
        }
