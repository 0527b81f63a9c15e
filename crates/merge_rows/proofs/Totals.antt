-- All left sets together: one more left set, its counters, and the end.
use Prim.Native.Nat.{ℕ, suc, ◌+◌, ◌*◌, ◌<◌, ◌≤◌}
use mathlib.Core.Path.{◌≡◌, sym, ap, ap₂, subst, ◌∙◌}
use mathlib.Core.List.{List, [], ◌∷◌, ◌++◌, append-nil, append_assoc}
use mathlib.Core.Bool.{Bool, true, ◌||◌}
use native.Mathlib.Nat.{add-zero}
use native.Mathlib.Numerals.{add-one}
use native.Mathlib.Omega.{arith}
use borrow.Author.Tests.{ltb-true, ltb-false}
use lib.Dec.{ltb}
use lib.ListN.{length, take, drop, get_or, length-append, length-take, take-append-drop}
use lib.Seq.{take-suc, take-take, take-length, take_at, drop_at}
use Rattle.lists.specs.Lists.{all, count, sum, slice}
use Rattle.lists.proofs.Bools.{by_test, and_left, and_right, or_right}
use Rattle.lists.proofs.Counting.{count_same_where, count_le, count_bound}
use Rattle.lists.proofs.Slices.{changed_at_low}
use Rattle.lists.proofs.Summing.{sum_append, sum-take-suc, sum_bound}
use Rattle.lists.proofs.Throughout.{all_take}
use Rattle.sets.specs.Collections.{contained}
use Rattle.sets.specs.Ordered.{is_permutation}
use Rattle.sets.proofs.Ordered.{below}
use Rattle.join_spec.specs.PairList.{row_from, pairs_from, count_pairs, pair_list}
use Rattle.join_spec.specs.Query.{Query}
use Rattle.join_spec.specs.Walk.{Outcome, outcome}
use Rattle.join_spec.specs.Counting.{total, is_by_path, is_confirmed, is_dropped, is_false}
use Rattle.join_spec.proofs.Outcomes.{contained_met}
use Rattle.join_spec.proofs.PairListLaws.{length-pair_list}
use Rattle.merge_rows.specs.declared.Met.{Met}
use Rattle.merge_rows.specs.ShortLists.{pairs_with}
use Rattle.merge_rows.specs.Yields.{Yield}
use Rattle.merge_rows.specs.Meeting.{counters_at, counters_dropped, counters_falses, CountersHeld, CountersStored}
use Rattle.merge_rows.specs.Merging.{one_total, total_to, pairs_to, MetAfter, CountersKept, LeftAdded}
use Rattle.merge_rows.proofs.ShortWriting.{length_pairs}
use Rattle.merge_rows.proofs.LeftOutcomes.{LeftIs}

-- the pairs of some left sets and of those after them
rows_append : (l : ℕ) (a b rights : List (List ℕ))
    → pairs_from contained l (a ++ b) rights ≡ pairs_from contained l a rights ++ pairs_from contained (l + length a) b rights
unfolding pairs_from
rows_append l [] b rights = ap (λ (n : ℕ). pairs_from contained n b rights) (sym (add-zero l))
rows_append l (left ∷ a) b rights =
    let next : suc l + length a ≡ l + suc (length a) = omega arith in
    ap (λ (r : List ℕ). row_from (contained left) l 0 rights ++ r)
    (rows_append (suc l) a b rights
    ∙ ap (λ (n : ℕ). pairs_from contained (suc l) a rights ++ pairs_from contained n b rights) next)
    ∙ sym (append_assoc (row_from (contained left) l 0 rights) (pairs_from contained (suc l) a rights)
    (pairs_from contained (l + suc (length a)) b rights))

length_first : (n : ℕ) (l : List (List ℕ)) → n ≤ length l → length (take n l) ≡ n
length_first n l within = omega (arith, length-take n l)

module _ (q : Query) (k : ℕ) (below : k < length q.lefts) where
  pub total_next : (is : Outcome → Bool) → total_to is q (k + 1) ≡ total_to is q k + one_total is q (get_or q.lefts k [])
  unfolding total_to
  total_next is =
      let f : List ℕ → ℕ = λ left. count (λ right. is (outcome q left right)) q.rights in
      ap (λ (n : ℕ). sum f (take n q.lefts)) (add-one k) ∙ sum-take-suc f [] q.lefts k below

  pub pairs_next : pairs_to q (k + 1) ≡ pairs_to q k ++ row_from (contained (get_or q.lefts k [])) k 0 q.rights
  unfolding pairs_to pairs_from
  pairs_next =
      ap (λ (l : List (List ℕ)). pairs_from contained 0 l q.rights)
      (ap (λ (n : ℕ). take n q.lefts) (add-one k) ∙ take-suc q.lefts k [] below)
      ∙ rows_append 0 (take k q.lefts) (get_or q.lefts k [] ∷ []) q.rights
      ∙ ap (λ (n : ℕ). pairs_from contained 0 (take k q.lefts) q.rights ++ pairs_from contained n (get_or q.lefts k [] ∷ []) q.rights)
      (omega (arith, length_first k q.lefts (omega arith)))
      ∙ ap (λ (r : List ℕ). pairs_from contained 0 (take k q.lefts) q.rights ++ r) (one_row (get_or q.lefts k []))
    where
      one_row : (left : List ℕ) → pairs_from contained k (left ∷ []) q.rights ≡ row_from (contained left) k 0 q.rights
      one_row left = append-nil (row_from (contained left) k 0 q.rights)

  -- one more left set
  pub met_next : {m m' : Met} {was is : List ℕ} → MetAfter q k m → LeftAdded q k (get_or q.lefts k []) m m' was is
      → MetAfter q (k + 1) m'
  met_next after added =
      record {
        at =
            omega (
              arith,
              added.listed.past,
              after.at,
              ap length pairs_next,
              length-append (pairs_to q k) (row_from (contained (get_or q.lefts k [])) k 0 q.rights),
            );
        confirmed = omega (arith, added.confirmed, after.confirmed, total_next is_confirmed);
        dropped = omega (arith, added.dropped, after.dropped, total_next is_dropped);
        falses = omega (arith, added.falses, after.falses, total_next is_false);
      }

-- the words of one more left set
pub counters_next : {q : Query} {counters k : ℕ} {m : Met} {w w' : List ℕ} → ((j : ℕ) → j < k → CountersKept q counters j w) → MetAfter q k m
    → CountersStored counters k m w w' → CountersKept q counters k w'
counters_next {q} {counters} {k} {m} {w} {w'} kept after stored =
    record {
      at = λ j within.
          by_test (ltb j k)
          (λ t.
          let low = ltb-true j k t in
          changed_at_low (counters + 3 * j) (omega arith) stored.changed ∙ (kept j low).at j (omega arith))
          (λ f.
          let same : j ≡ k = omega (arith, ltb-false j k f) in
          ap (counters_at counters w') same ∙ stored.at ∙ after.at ∙ ap (λ (n : ℕ). length (pairs_to q n)) (sym same));
      dropped = λ j within.
          by_test (ltb j k)
          (λ t.
          let low = ltb-true j k t in
          changed_at_low (counters + 3 * j + 1) (omega arith) stored.changed ∙ (kept j low).dropped j (omega arith))
          (λ f.
          let same : j ≡ k = omega (arith, ltb-false j k f) in
          ap (counters_dropped counters w') same ∙ stored.dropped ∙ after.dropped ∙ ap (total_to is_dropped q) (sym same));
      falses = λ j within.
          by_test (ltb j k)
          (λ t.
          let low = ltb-true j k t in
          changed_at_low (counters + 3 * j + 2) (omega arith) stored.changed ∙ (kept j low).falses j (omega arith))
          (λ f.
          let same : j ≡ k = omega (arith, ltb-false j k f) in
          ap (counters_falses counters w') same ∙ stored.falses ∙ after.falses ∙ ap (total_to is_false q) (sym same));
    }

-- the pairs of the first left sets stand before those of the others
pairs_first : (q : Query) (j k : ℕ) → j ≤ k → k ≤ length q.lefts
    → pairs_to q k ≡ pairs_to q j ++ pairs_from contained j (drop j (take k q.lefts)) q.rights
unfolding pairs_to
pairs_first q j k before within =
    ap (λ (l : List (List ℕ)). pairs_from contained 0 l q.rights) (sym (take-append-drop j (take k q.lefts)))
    ∙ rows_append 0 (take j (take k q.lefts)) (drop j (take k q.lefts)) q.rights
    ∙ ap₂ (λ (l : List (List ℕ)) (n : ℕ). pairs_from contained 0 l q.rights ++ pairs_from contained n (drop j (take k q.lefts)) q.rights)
    (take-take j k q.lefts before)
    (omega (arith, ap length (take-take j k q.lefts before), length_first j q.lefts (omega arith)))

-- an earlier left set's words and pairs are its yield
pub counters_held : {q : Query} {counters k : ℕ} {m : Met} {w pairs : List ℕ} → CountersKept q counters k w → MetAfter q k m
    → (m.at ≤ length pairs → take m.at pairs ≡ pairs_to q k)
    → (j : ℕ) → j < k → k ≤ length q.lefts → {y : Yield} {sure : ℕ} → LeftIs q (get_or q.lefts j []) y sure
    → CountersHeld counters j w m.at pairs y
unfolding slice
counters_held {q} {counters} {k} {m} {w} {pairs} kept after listed j before within {y} {sure} is =
    record {
      after = omega (arith, here, next, longer);
      dropped =
          omega (
            arith,
            kept.dropped j (omega arith),
            kept.dropped (j + 1) (omega arith),
            total_next q j (omega arith) is_dropped,
            is.dropped,
          );
      falses =
          omega (
            arith,
            kept.falses j (omega arith),
            kept.falses (j + 1) (omega arith),
            total_next q j (omega arith) is_false,
            is.falses,
          );
      before = omega (arith, next, after.at, ap length later, length-append (pairs_to q (j + 1)) rest);
      listed = λ fits. own fits;
    }
  where
    rest : List ℕ
    rest = pairs_from contained (j + 1) (drop (j + 1) (take k q.lefts)) q.rights

    row : pairs_to q (j + 1) ≡ pairs_to q j ++ pairs_with j y.places
    row = pairs_next q j (omega arith) ∙ ap (λ (l : List ℕ). pairs_to q j ++ l) (is.row j)

    longer : length (pairs_to q (j + 1)) ≡ length (pairs_to q j) + 2 * length y.places
    longer = omega (arith, ap length row, length-append (pairs_to q j) (pairs_with j y.places), length_pairs j y.places)

    later : pairs_to q k ≡ pairs_to q (j + 1) ++ rest
    later = pairs_first q (j + 1) k (omega arith) within

    here : counters_at counters w j ≡ length (pairs_to q j)
    here = kept.at j (omega arith)

    next : counters_at counters w (j + 1) ≡ length (pairs_to q (j + 1))
    next = kept.at (j + 1) (omega arith)

    own : m.at ≤ length pairs → slice (counters_at counters w j) (counters_at counters w (j + 1)) pairs ≡ pairs_with j y.places
    own fits =
        ap (drop (counters_at counters w j))
        (sym (take-take (counters_at counters w (j + 1)) m.at pairs (omega (arith, next, after.at, ap length later, length-append (pairs_to q (j + 1)) rest)))
        ∙ ap (take (counters_at counters w (j + 1))) (listed fits ∙ later)
        ∙ take_at (pairs_to q (j + 1)) rest (counters_at counters w (j + 1)) (sym next)
        ∙ row)
        ∙ drop_at (pairs_to q j) (pairs_with j y.places) (counters_at counters w j) (sym here)

-- sums over some left sets are at most those over all, and those over all are the definition's
pub total-upto : (is : Outcome → Bool) (q : Query) (n : ℕ) → total_to is q n ≤ total is q
unfolding total_to total
total-upto is q n =
    let f : List ℕ → ℕ = λ left. count (λ right. is (outcome q left right)) q.rights in
    omega (arith, sum_append f (take n q.lefts) (drop n q.lefts), ap (sum f) (take-append-drop n q.lefts))

pub total_all : (is : Outcome → Bool) (q : Query) → total_to is q (length q.lefts) ≡ total is q
unfolding total_to total
total_all is q =
    ap (sum (λ left. count (λ right. is (outcome q left right)) q.rights)) (take-length q.lefts)

pub pairs_all : (q : Query) → pairs_to q (length q.lefts) ≡ pair_list q.lefts q.rights
unfolding pairs_to
pairs_all q = ap (λ (l : List (List ℕ)). pair_list l q.rights) (take-length q.lefts)

-- so many left sets have at most so many pairs that pass a test
module _ (q : Query) (n : ℕ) (within : n ≤ length q.lefts) where
  tests_few : (test : List ℕ → List ℕ → Bool) → count_pairs test (take n q.lefts) q.rights ≤ n * length q.rights
  tests_few test =
      subst (λ (m : ℕ). count_pairs test (take n q.lefts) q.rights ≤ m * length q.rights) (length_first n q.lefts within)
      (sum_bound (λ left. count (test left) q.rights) (length q.rights) (take n q.lefts) (λ left. count_bound (test left) q.rights))

  pub total_few : (is : Outcome → Bool) → total_to is q n ≤ n * length q.rights
  unfolding total_to
  total_few is = tests_few (λ left right. is (outcome q left right))

  pub pairs_few : length (pairs_to q n) ≤ 2 * (n * length q.rights)
  unfolding pairs_to
  pairs_few = omega (arith, length-pair_list (take n q.lefts) q.rights, tests_few contained)

-- confirmed checks are pairs
module _ (q : Query) (permutation : is_permutation q.T q.ranks ≡ true) (rightsBelow : all (below q.T) q.rights ≡ true) where
  confirmed_one : (left : List ℕ) → below q.T left ≡ true → one_total is_confirmed q left ≤ count (contained left) q.rights
  confirmed_one left leftBelow =
      omega (
        arith,
        count_same_where (below q.T) (contained left)
            (λ (right : List ℕ). is_by_path (outcome q left right) || is_confirmed (outcome q left right)) q.rights rightsBelow
            (λ right rightBelow. contained_met q left right permutation leftBelow rightBelow),
        count_le (λ (right : List ℕ). is_confirmed (outcome q left right))
            (λ (right : List ℕ). is_by_path (outcome q left right) || is_confirmed (outcome q left right)) q.rights
            (λ right is. or_right (is_by_path (outcome q left right)) (is_confirmed (outcome q left right)) is),
      )

  confirmed-some : (lefts : List (List ℕ)) → all (below q.T) lefts ≡ true
      → sum (one_total is_confirmed q) lefts ≤ sum (λ left. count (contained left) q.rights) lefts
  unfolding sum all
  confirmed-some [] leftsBelow = omega arith
  confirmed-some (left ∷ lefts) leftsBelow =
      omega (
        arith,
        confirmed_one left (and_left (below q.T left) (all (below q.T) lefts) leftsBelow),
        confirmed-some lefts (and_right (below q.T left) (all (below q.T) lefts) leftsBelow),
      )

  pub confirmed_pairs : all (below q.T) q.lefts ≡ true → (n : ℕ) → 2 * total_to is_confirmed q n ≤ length (pairs_to q n)
  unfolding total_to pairs_to
  confirmed_pairs leftsBelow n =
      omega (
        arith,
        length-pair_list (take n q.lefts) q.rights,
        confirmed-some (take n q.lefts) (all_take (below q.T) n q.lefts leftsBelow),
      )
