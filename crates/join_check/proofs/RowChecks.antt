-- The checks of one left set, place by place: the counters, with the checks of the places still to come, are what they were with
-- all; start, step and end. What a check finds of two sets is containment.
use Prim.Native.Nat.{ℕ, ◌+◌, ◌-◌, ◌≤◌, ◌<◌}
use mathlib.Core.Path.{◌≡◌, refl, sym, ap, ◌∙◌}
use mathlib.Core.List.{List}
use mathlib.Core.Bool.{Bool, true, false, cond}
use native.Mathlib.Omega.{arith}
use Rattle.lists.specs.Lists.{one, slice}
use Rattle.lists.proofs.Bools.{by_test, true-false, refuted}
use Rattle.sets.specs.Collections.{contained}
use Rattle.sets.specs.Signatures.{signature, drops}
use Rattle.sets.proofs.Signatures.{contained_not_dropped}
use Rattle.join_spec.specs.Query.{Query}
use Rattle.join_spec.specs.Walk.{Outcome, false_drop, confirmed, check}
use Rattle.join_spec.specs.Counting.{is_confirmed}
use Rattle.join_index.specs.declared.Layout.{Layout}
use Rattle.join_check.specs.declared.Tally.{Tally}
use Rattle.join_check.specs.declared.Probe.{Probe}
use Rattle.words.specs.Words.{Word}
use Rattle.join_check.specs.Checks.{check_at, row_count, RowThere, RowChecked}
use Rattle.join_check.specs.Counters.{checks_in}
use Rattle.join_check.specs.Probes.{Probed, OneChecked}
use Rattle.join_index.proofs.Places.{place_right, count_past, count_next}
use Rattle.join_check.proofs.Tallying.{Leaving, leaving_start, leaving_step, leaving_end, probe_check}

-- a check confirms exactly what is contained, since a right set that contains a left set has all bits of its signature
pub check-confirmed : (left right : List ℕ) → is_confirmed (check left right) ≡ contained left right
check-confirmed left right =
    by_test (drops (signature left) (signature right))
    (λ e. rw e (sym (refuted (contained left right) (λ yes. true-false e (contained_not_dropped left right yes)))))
    (λ e. rw e (told (contained left right)))
  where
    told : (b : Bool) → is_confirmed (cond b confirmed false_drop) ≡ b
    told true = refl
    told false = refl

pub record RowChecking (lay : Layout) (w : List ℕ) (k e from to : ℕ) (tally r : Tally) (i : ℕ) : Type 0 where
  pub low : from ≤ i
  pub grown : checks_in r + (to - i) ≡ checks_in tally + (to - from)
  pub tallied :
      (q : Query) → RowThere lay q w k e from to
      → Leaving (λ is. row_count q is (slice i to w) k) (λ is. row_count q is (slice from to w) k) tally r

module _ {lay : Layout} {w : List ℕ} {k e from to : ℕ} {tally : Tally} where
  pub row_start : RowChecking lay w k e from to tally tally from
  row_start =
      record {
        low = omega arith;
        grown = refl;
        tallied = λ q there. leaving_start (λ is. row_count q is (slice from to w) k) tally;
      }

  module _ {r : Tally} {i : ℕ} (so : RowChecking lay w k e from to tally r i) where
    pub row_step : {p : Probe} {s : ℕ} {u : Tally} → i < to → Probed lay w k e p → Word w i s → OneChecked lay w p s r u
        → RowChecking lay w k e from to tally u (i + 1)
    row_step {s = s} more probed word one_more =
        record {
          low = omega (arith, so.low);
          grown = omega (arith, so.grown, one_more.grown);
          tallied = λ q there.
              leaving_step (so.tallied q there) {later = λ is. row_count q is (slice (i + 1) to w) k}
              (one_more.tallied q (place_right there.places i s so.low more word))
              (λ is.
              count_next (λ (x : ℕ). is (check_at q k x)) w i to more there.places.within
              ∙ ap (λ (n : ℕ). n + row_count q is (slice (i + 1) to w) k)
              (ap (λ (x : ℕ). one (is (check_at q k x))) (sym word.is)
              ∙ ap (λ (o : Outcome). one (is o)) (sym
              (probe_check there (probed.is q there.left) i s so.low more word))));
        }

    pub row_end : to ≤ i → RowChecked lay w k e from to tally r
    row_end past =
        record {
          grown = omega (arith, so.grown);
          tallied = λ q there.
              leaving_end (so.tallied q there) (λ is. count_past (λ (s : ℕ). is (check_at q k s)) w i to past);
        }
