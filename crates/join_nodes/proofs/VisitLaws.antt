-- Adding rows to the counters: part after part, the checks together, and the bound that keeps every counter small. And how the
-- answers of two visits, one after the other, make one.
use Prim.Native.Nat.{ℕ, ◌+◌, ◌*◌, ◌≤◌}
use mathlib.Core.Path.{◌≡◌, sym, ap, subst, ◌∙◌}
use mathlib.Core.List.{List, [], ◌++◌}
use mathlib.Core.Bool.{Bool}
use native.Mathlib.Omega.{arith}
use native.Mathlib.Nat.{add-mul}
use lib.ListN.{length}
use Rattle.std.specs.Prelude.{Option, Some, None}
use Rattle.std.proofs.lemmas.Option.{none-some, same_Some}
use Rattle.lists.specs.Lists.{sum, upto}
use Rattle.lists.proofs.Summing.{sum_append}
use Rattle.lists.proofs.Ranges.{length-range}
use Rattle.join_spec.specs.Query.{Query}
use Rattle.join_spec.specs.Walk.{Outcome}
use Rattle.join_spec.specs.Counting.{is_check}
use Rattle.join_spec.specs.Kinds.{is_of, kinds, check_kinds}
use Rattle.join_spec.proofs.KindLaws.{count_checks, count_within, sum_within, sum_checks as sum-by-kind}
use Rattle.join_check.specs.Counters.{checks_in}
use Rattle.join_check.proofs.Tallying.{tallied_same, tallied_sum}
use Rattle.join_check.specs.declared.Tally.{Tally}
use Rattle.join_nodes.specs.Rows.{row, outcome_from}
use Rattle.kept_rows.specs.Kept.{RowsKept}
use Rattle.join_index.specs.declared.Layout.{Layout}
use Rattle.join_nodes.specs.Visiting.{Underway, Added, Visited}
use Rattle.kept_rows.specs.declared.Progress.{Progress}
use Rattle.join_nodes.specs.declared.WalkSettings.{WalkSettings}

module _ (q : Query) (d : ℕ) where
  -- the checks of rows kind by kind
  pub sum_checks : (l : List ℕ) → sum (row is_check q d) l ≡ sum (λ kind. sum (row (is_of kind) q d) l) check_kinds
  unfolding row
  sum_checks l =
      sum-by-kind (λ k is. row is q d k) l (λ k. count_checks (outcome_from q d k) (upto (length q.rights)))

  pub rows_bound : (l : List ℕ) → sum (λ kind. sum (row (is_of kind) q d) l) kinds ≤ length l * length q.rights
  unfolding row
  rows_bound l =
      sum_within (λ k is. row is q d k) l (length q.rights)
      (λ k. omega (arith, count_within (outcome_from q d k) (upto (length q.rights)), length-range 0 (length q.rights)))

-- a visit that passed the budget has not come to an end
pub never : {A B : Type 0} {r : Option A} {x : A} → r ≡ None → r ≡ Some x → B
never {x = x} spent made = absurd (none-some x (sym spent ∙ made))

-- what holds of the one value that there is
pub for_some : {A : Type 0} (P : A → Type 0) {x : A} → P x → (y : A) → Some x ≡ Some y → P y
for_some P {x} holds y made = subst P (same_Some x y made) holds

-- no left sets, nothing added
pub added_none : (q : Query) (d : ℕ) {l : List ℕ} {tally : Tally} → l ≡ [] → Added q d l tally tally
unfolding sum
added_none q d none =
    record { tallied = record { grows = λ kind. omega (arith, ap (sum (row (is_of kind) q d)) none) } }

-- a visit that came to p
pub visited_some : {q : Query} {budget d : ℕ} {lefts : List ℕ} {tally : Tally} {p : Progress} → Added q d lefts tally p.tally
    → checks_in p.tally ≤ budget → Visited q budget d lefts tally (Some p)
visited_some {q} {budget} {d} {lefts} {tally} {p} add covered =
    record {
      added = for_some (λ (u : Progress). Added q d lefts tally u.tally) add;
      within = for_some (λ (u : Progress). checks_in u.tally ≤ budget) covered;
      beyond = λ spent. absurd (none-some p (sym spent));
    }

pub kept_some : {lay : Layout} {q : Query} {w : List ℕ} {p : Progress} → RowsKept lay q w p.top → (at : Progress)
    → Some p ≡ Some at → RowsKept lay q w at.top
kept_some {lay} {q} {w} kept = for_some (λ (u : Progress). RowsKept lay q w u.top) kept

module _ {q : Query} {d : ℕ} where
  -- the checks of the counters grow by the checks of the rows
  pub checks_added : {l : List ℕ} {tally r : Tally} → Added q d l tally r → checks_in r ≡ checks_in tally + sum (row is_check q d) l
  checks_added {l} add = omega (arith, sum_checks q d l, tallied_sum check_kinds add.tallied)

  added_append : {a b : List ℕ} {tally r u : Tally} → Added q d a tally r → Added q d b r u → Added q d (a ++ b) tally u
  added_append {a} {b} first second =
      record {
        tallied = record {
          grows = λ kind.
              omega (arith, sum_append (row (is_of kind) q d) a b, first.tallied.grows kind, second.tallied.grows kind);
        };
      }

  added_before : {a b : List ℕ} {tally r u : Tally} → Added q d b tally r → Added q d a r u → Added q d (a ++ b) tally u
  added_before {a} {b} first second =
      record {
        tallied = record {
          grows = λ kind.
              omega (arith, sum_append (row (is_of kind) q d) a b, first.tallied.grows kind, second.tallied.grows kind);
        };
      }

  -- one visit after another that was within the budget
  pub visited_then : {budget : ℕ} {a b : List ℕ} {tally r : Tally} {u : Option Progress}
      → Added q d a tally r → Visited q budget d b r u → Visited q budget d (a ++ b) tally u
  visited_then {budget} {a} {b} {tally} {r} {u} first second =
      record {
        added = λ at made. added_append first (second.added at made);
        within = second.within;
        beyond = λ spent. omega (arith, second.beyond spent, checks_added first, sum_append (row is_check q d) a b);
      }

  -- a visit of left sets that stand before those that were visited already
  pub visited_before : {budget : ℕ} {a b : List ℕ} {tally r : Tally} {u : Option Progress}
      → Added q d b tally r → Visited q budget d a r u → Visited q budget d (a ++ b) tally u
  visited_before {budget} {a} {b} {tally} {r} {u} first second =
      record {
        added = λ at made. added_before first (second.added at made);
        within = second.within;
        beyond = λ spent. omega (arith, second.beyond spent, checks_added first, sum_append (row is_check q d) a b);
      }

  -- a visit that passed the budget, with more left sets behind it
  pub visited_early : {budget : ℕ} {a : List ℕ} (b : List ℕ) {tally : Tally} {u : Option Progress} → u ≡ None
      → Visited q budget d a tally u → Visited q budget d (a ++ b) tally u
  visited_early {budget} {a} b {tally} {u} spent first =
      record {
        added = λ at made. never spent made;
        within = λ at made. never spent made;
        beyond = λ again. omega (arith, first.beyond spent, sum_append (row is_check q d) a b);
      }

  -- or before it
  pub visited_late : {budget : ℕ} (a : List ℕ) {b : List ℕ} {tally : Tally} {u : Option Progress} → u ≡ None
      → Visited q budget d b tally u → Visited q budget d (a ++ b) tally u
  visited_late {budget} a {b} {tally} {u} spent first =
      record {
        added = λ at made. never spent made;
        within = λ at made. never spent made;
        beyond = λ again. omega (arith, first.beyond spent, sum_append (row is_check q d) a b);
      }

  -- rows that agree make the same answer
  pub visited_rows : {e budget : ℕ} (l : List ℕ) {tally : Tally} {u : Option Progress}
      → ((is : Outcome → Bool) → sum (row is q e) l ≡ sum (row is q d) l) → Visited q budget e l tally u
      → Visited q budget d l tally u
  visited_rows l same done =
      record {
        added = λ at made. record { tallied = tallied_same (λ kind. same (is_of kind)) (done.added at made).tallied };
        within = done.within;
        beyond = λ spent. omega (arith, done.beyond spent, same is_check);
      }

  -- what remains to be counted after some rows were added
  pub underway_next : {st : WalkSettings} {tally r : Tally} {l : List ℕ} {n m : ℕ} → Underway st q tally n → Added q d l tally r
      → n ≡ length l + m → checks_in r ≤ st.budget → Underway st q r m
  underway_next {st} {tally} {r} {l} {n} {m} before add split low =
      record {
        limit = before.limit;
        shallow = before.shallow;
        rule = before.rule;
        budget = low;
        bounded =
            omega (
              arith,
              before.bounded,
              rows_bound q d l,
              tallied_sum kinds add.tallied,
              ap (λ (k : ℕ). k * length q.rights) split ∙ add-mul (length l) m (length q.rights),
            );
      }
