-- Where a range with one key ends. The invariant of `range_end`: the left sets before place j have the key of the first, so that the
-- leading ones with it are those and the leading ones from j on.
use Prim.Native.Nat.{ℕ, ◌+◌, ◌≤◌, ◌<◌}
use mathlib.Core.Path.{◌≡◌, refl, sym, ◌∙◌}
use mathlib.Core.List.{List}
use mathlib.Core.Bool.{Bool}
use native.Mathlib.Omega.{arith}
use borrow.Author.Tests.{eq-eqb, ne_eqb}
use lib.Dec.{eqb}
use Rattle.words.specs.Words.{Word}
use Rattle.join_spec.specs.Query.{Query}
use Rattle.join_index.specs.Grouping.{key_at}
use Rattle.join_index.specs.declared.Layout.{Layout}
use Rattle.join_index.specs.Asking.{LeftThere, RangeThere}
use Rattle.join_index.specs.Ranges.{lead, left_in, lefts_in, RangeEnd}
use Rattle.join_index.proofs.Orders.{range_key, range_pass, range_fail, range_past}

-- whether a left set has the key of the first at depth d
abbrev same_key : Layout → Query → List ℕ → ℕ → ℕ → ℕ → Bool
same_key lay q w d i k = eqb (key_at q d k) (key_at q d (left_in lay w i))

pub record Reaching (lay : Layout) (w : List ℕ) (d i hi j : ℕ) : Type 0 where
  pub more : i < j
  pub within : j ≤ hi
  pub same :
      (q : Query) → RangeThere lay q w i hi
      → j + lead (same_key lay q w d i) (lefts_in lay w j hi) ≡ i + lead (same_key lay q w d i) (lefts_in lay w i hi)

module _ {lay : Layout} {w : List ℕ} {d i hi : ℕ} where
  pub reaching_start : i < hi → Reaching lay w d i hi (i + 1)
  reaching_start some =
      record {
        more = omega arith;
        within = omega (arith, some);
        same = λ q there.
            sym (range_pass there (same_key lay q w d i) i some
            (eq-eqb (key_at q d (left_in lay w i)) (key_at q d (left_in lay w i)) refl));
      }

  module _ {j : ℕ} (so : Reaching lay w d i hi j) where
    -- the first left set and the one at place j, as they were read, with their keys
    module _ {first key k other : ℕ} (at_first : Word w (lay.left_order + i) first)
        (first_read : (q : Query) → LeftThere lay q w first → key ≡ key_at q d first) (more : j < hi)
        (word : Word w (lay.left_order + j) k) (read : (q : Query) → LeftThere lay q w k → other ≡ key_at q d k) where
      pub reaching_stop : (other ≡ key → ⊥) → RangeEnd lay w d i hi j
      reaching_stop differ =
          record {
            more = so.more;
            within = so.within;
            maximal = λ q there.
                sym (range_fail there (same_key lay q w d i) j more
                (ne_eqb (key_at q d (left_in lay w j)) (key_at q d (left_in lay w i))
                (λ e. differ (range_key there d j more word read ∙ e ∙ sym (range_key there d i there.some at_first first_read)))))
                ∙ so.same q there;
          }

      pub reaching_step : other ≡ key → Reaching lay w d i hi (j + 1)
      reaching_step alike =
          record {
            more = omega (arith, so.more);
            within = omega (arith, more);
            same = λ q there.
                sym (range_pass there (same_key lay q w d i) j more
                (eq-eqb (key_at q d (left_in lay w j)) (key_at q d (left_in lay w i))
                (sym (range_key there d j more word read) ∙ alike ∙ range_key there d i there.some at_first first_read)))
                ∙ so.same q there;
          }

    pub reaching_end : hi ≤ j → RangeEnd lay w d i hi j
    reaching_end past =
        record {
          more = so.more;
          within = so.within;
          maximal = λ q there. sym (range_past there (same_key lay q w d i) j past) ∙ so.same q there;
        }
