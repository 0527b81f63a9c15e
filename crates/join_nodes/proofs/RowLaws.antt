-- What a left set's row is at a node of depth d. If the walk does not go on: checked against the candidates before the node. Else: by
-- path with the candidates after it if the set ends there, checked against them at the limit, and below the limit the same row one
-- level deeper. Candidates come as a list of right places in any order.
use Prim.Native.Nat.{ℕ, zero, suc, ◌-◌, ◌<◌}
use mathlib.Core.Path.{◌≡◌, refl, sym, ◌∙◌}
use mathlib.Core.List.{List}
use mathlib.Core.Bool.{Bool, true, false, cond, ◌&&◌}
use native.Mathlib.Omega.{arith}
use borrow.Author.Tests.{eq-eqb, ne_eqb}
use lib.Dec.{eqb}
use lib.ListN.{length, take}
use Rattle.lists.specs.Lists.{count, upto}
use Rattle.lists.proofs.Counting.{count_same}
use Rattle.join_spec.specs.Query.{Query}
use Rattle.join_spec.specs.Walk.{Outcome, not_met, by_path, merged, checked_after, ending_from, is_candidate, goes}
use Rattle.join_index.specs.Grouping.{left_at, right_at}
use Rattle.join_index.specs.Ground.{Listing}
use Rattle.join_check.specs.Checks.{check_at}
use Rattle.join_nodes.specs.Rows.{outcome_from, row, path_pairs}
use Rattle.join_nodes.proofs.PathLaws.{paths_one}

-- a kind of outcome that a pair which is not met does not have
abbrev pub MetOnly : (Outcome → Bool) → Type 0
MetOnly is = is not_met ≡ false

-- the test of an outcome under a condition
is_cond : (is : Outcome → Bool) → MetOnly is → (b : Bool) (o : Outcome) → is (cond b o not_met) ≡ (b && is o)
is_cond is met true o = refl
is_cond is met false o = met

module _ (q : Query) (d k : ℕ) where
  -- the ending where the walk does not go on
  pub ending_stops : goes q (take d (left_at q k)) ≡ false
      → ending_from (goes q) (q.limit - d) d (left_at q k) ≡ checked_after (d - 1)
  unfolding ending_from
  ending_stops stop = at (q.limit - d)
    where
      at : (n : ℕ) → ending_from (goes q) n d (left_at q k) ≡ checked_after (d - 1)
      at zero = rw stop
      at (suc n) = rw stop

  -- where it goes on and the left set ends
  pub ending_merges : goes q (take d (left_at q k)) ≡ true → length (left_at q k) ≡ d
      → ending_from (goes q) (q.limit - d) d (left_at q k) ≡ merged
  unfolding ending_from
  ending_merges on ends = at (q.limit - d)
    where
      at : (n : ℕ) → ending_from (goes q) n d (left_at q k) ≡ merged
      at zero = rw (on, eq-eqb d (length (left_at q k)) (sym ends))
      at (suc n) = rw (on, eq-eqb d (length (left_at q k)) (sym ends))

  -- where it goes on at the limit and the left set is longer
  pub ending_limit : goes q (take d (left_at q k)) ≡ true → d < length (left_at q k) → q.limit ≡ d
      → ending_from (goes q) (q.limit - d) d (left_at q k) ≡ checked_after d
  unfolding ending_from
  ending_limit on longer last =
      let none : q.limit - d ≡ 0 = omega arith in
      let other : eqb d (length (left_at q k)) ≡ false = ne_eqb d (length (left_at q k)) (λ e. omega arith) in
      rw (none, on, other)

  -- where it goes on below the limit and the left set is longer
  pub ending_deeper : goes q (take d (left_at q k)) ≡ true → d < length (left_at q k) → d < q.limit
      → ending_from (goes q) (q.limit - d) d (left_at q k) ≡ ending_from (goes q) (q.limit - suc d) (suc d) (left_at q k)
  unfolding ending_from
  ending_deeper on longer below =
      let more : q.limit - d ≡ suc (q.limit - suc d) = omega arith in
      let other : eqb d (length (left_at q k)) ≡ false = ne_eqb d (length (left_at q k)) (λ e. omega arith) in
      rw (more, on, other)

  module _ (is : Outcome → Bool) (met : MetOnly is) where
    -- a row after so many merged ranks, over any list of the candidates
    row_after : (e : ℕ) (list : List ℕ) → ending_from (goes q) (q.limit - d) d (left_at q k) ≡ checked_after e
        → Listing (length q.rights) (λ s. is_candidate e (left_at q k) (right_at q s)) list
        → row is q d k ≡ count (λ s. is (check_at q k s)) list
    unfolding row outcome_from
    row_after e list ends listing =
        count_same (λ s. is (outcome_from q d k s)) (λ s. is_candidate e (left_at q k) (right_at q s) && is (check_at q k s))
        (upto (length q.rights))
        (λ s. rw ends (is_cond is met (is_candidate e (left_at q k) (right_at q s)) (check_at q k s)))
        ∙ sym (listing (λ s. is (check_at q k s)))

    -- not going on: checked against the candidates before the node
    pub row_stops : (list : List ℕ) → goes q (take d (left_at q k)) ≡ false
        → Listing (length q.rights) (λ s. is_candidate (d - 1) (left_at q k) (right_at q s)) list
        → row is q d k ≡ count (λ s. is (check_at q k s)) list
    row_stops list stop listing = row_after (d - 1) list (ending_stops stop) listing

    -- going on at the limit: a longer left set is checked against the candidates after the node
    pub row_limit : (list : List ℕ) → goes q (take d (left_at q k)) ≡ true → d < length (left_at q k) → q.limit ≡ d
        → Listing (length q.rights) (λ s. is_candidate d (left_at q k) (right_at q s)) list
        → row is q d k ≡ count (λ s. is (check_at q k s)) list
    row_limit list on longer last listing = row_after d list (ending_limit on longer last) listing

    -- going on, and the left set ends: every candidate after the node comes by path
    pub row_merges : (list : List ℕ) → goes q (take d (left_at q k)) ≡ true → length (left_at q k) ≡ d
        → Listing (length q.rights) (λ s. is_candidate d (left_at q k) (right_at q s)) list
        → row is q d k ≡ path_pairs 1 (length list) is
    unfolding row outcome_from
    row_merges list on ends listing =
        count_same (λ s. is (outcome_from q d k s)) (λ s. is_candidate d (left_at q k) (right_at q s) && is by_path)
        (upto (length q.rights))
        (λ s. rw (ending_merges on ends, ends) (is_cond is met (is_candidate d (left_at q k) (right_at q s)) by_path))
        ∙ sym (listing (λ s. is by_path)) ∙ paths_one is list

  -- going on below the limit: a longer left set has the row of the next depth
  pub row_deeper : (is : Outcome → Bool) → goes q (take d (left_at q k)) ≡ true → d < length (left_at q k) → d < q.limit
      → row is q d k ≡ row is q (suc d) k
  unfolding row outcome_from
  row_deeper is on longer below =
      count_same (λ s. is (outcome_from q d k s)) (λ s. is (outcome_from q (suc d) k s)) (upto (length q.rights))
      (λ s. rw (ending_deeper on longer below))
