-- The path as a set: the items whose ranks are among the first of the set in rank order; told by counting, and by a border rank.
use Prim.Native.Nat.{ℕ}
use mathlib.Core.Path.{◌≡◌, sym, ap, subst, ◌∙◌}
use mathlib.Core.List.{List, map}
use mathlib.Core.Bool.{Bool, true, false, ◌&&◌, ◌||◌, and-true, or-false}
use native.Mathlib.Omega.{arith}
use borrow.Author.Tests.{eqb-true, ltb-true, lt-ltb, leb-true, leb-false}
use lib.Dec.{eqb, ltb, leb}
use lib.ListN.{length, take, get_or}
use Rattle.lists.specs.Lists.{count, keep, any, memb, subset, upto}
use Rattle.lists.proofs.Bools.{by_test, same_test, and_left, and_right, and_both}
use Rattle.lists.proofs.Counting.{count_same, count_map, count_le}
use Rattle.lists.proofs.Filtering.{memb-keep}
use Rattle.lists.proofs.Membership.{memb-map}
use Rattle.lists.proofs.Throughout.{any_elim, subset_elim, subset_intro}
use Rattle.sets.specs.Collections.{good_items}
use Rattle.sets.specs.Ordered.{is_permutation, ordered}
use Rattle.sets.proofs.Ordered.{ordered-rising, memb-ordered, rank_there, item_there}
use Rattle.bit_sets.specs.BitSets.{member}
use Rattle.merge_rows.specs.FirstRanks.{ranks_below, on_path, path_of}
use Rattle.merge_rows.specs.FirstRanks.{Ranked, RanksMarked, NthMember, Border}
use Rattle.merge_rows.proofs.RankCounts.{memb-take, rising_first, good_below, good_item, count-ordered}
use Rattle.merge_rows.proofs.RankCounts.{ranks_distinct, count_among, count_more}

module _ (T : ℕ) (ranks : List ℕ) (permutation : is_permutation T ranks ≡ true) where
  -- an item of a set is on its path where its rank is among the first
  on_path_lem : (limit : ℕ) (set : List ℕ) → good_items T set ≡ true → (x : ℕ) → memb x set ≡ true
      → memb (get_or ranks x 0) (take limit (ordered T ranks set)) ≡ on_path limit ranks set x
  on_path_lem limit set good x there =
      rising_first limit (ordered T ranks set) (get_or ranks x 0) (ordered-rising T ranks set)
      (rank_there T ranks permutation set x (good_item T set good x there) there)
      ∙ ap (λ (n : ℕ). ltb n limit) (count-ordered T ranks permutation set good (λ r. ltb r (get_or ranks x 0)))

  -- a right set has the first ranks of a left set where it holds its path
  pub subset_path : (limit : ℕ) (left right : List ℕ) → good_items T left ≡ true → good_items T right ≡ true
      → subset (take limit (ordered T ranks left)) (ordered T ranks right) ≡ subset (path_of limit ranks left) right
  unfolding path_of
  subset_path limit left right good goodRight =
      same_test (subset first (ordered T ranks right)) (subset path right)
      (λ s. subset_intro path right (λ x m.
      let both = sym (memb-keep (on_path limit ranks left) left x) ∙ m in
      let there = and_left (memb x left) (on_path limit ranks left x) both in
      let among = on_path_lem limit left good x there ∙ and_right (memb x left) (on_path limit ranks left x) both in
      item_there T ranks permutation right (good_below T right goodRight) x (good_item T left good x there)
      (subset_elim first (ordered T ranks right) s (get_or ranks x 0) among)))
      (λ s. subset_intro first (ordered T ranks right) (λ r m.
      any_elim (λ (x : ℕ). eqb (get_or ranks x 0) r) left
      (and_right (ltb r T) _ (sym (memb-ordered T ranks left r) ∙ memb-take r limit (ordered T ranks left) m))
      (λ x there e.
      let same = eqb-true (get_or ranks x 0) r e in
      let among = sym (on_path_lem limit left good x there) ∙ ap (λ (k : ℕ). memb k first) same ∙ m in
      let held = subset_elim path right s x (memb-keep (on_path limit ranks left) left x ∙ and_both there among) in
      subst (λ (k : ℕ). memb k (ordered T ranks right) ≡ true) same
      (rank_there T ranks permutation right x (good_item T left good x there) held))))
    where
      first : List ℕ
      first = take limit (ordered T ranks left)

      path : List ℕ
      path = keep (on_path limit ranks left) left

module _ {ranks set : List ℕ} (ranked : Ranked ranks set) where
  module _ {was is : List ℕ} (marked : RanksMarked ranks set was is) (none : (r : ℕ) → member was r ≡ false) where
    marks_are : (r : ℕ) → member is r ≡ memb r (map (λ x. get_or ranks x 0) set)
    marks_are r =
        marked.holds r ∙ ap (λ (b : Bool). memb r (map (λ x. get_or ranks x 0) set) || b) (none r)
        ∙ or-false (memb r (map (λ x. get_or ranks x 0) set))

    -- as many ranks are marked below r as items have one below r
    pub marked_below : (r : ℕ) → count (member is) (upto r) ≡ ranks_below ranks set r
    marked_below r =
        count_same (member is) (λ j. memb j (map (λ x. get_or ranks x 0) set) && true) (upto r)
        (λ j. marks_are j ∙ sym (and-true (memb j (map (λ x. get_or ranks x 0) set))))
        ∙ count_among (λ j. true) r (map (λ x. get_or ranks x 0) set)
        (ranks_distinct (length ranks) ranks ranked.permutation set ranked.good)
        ∙ count_map (λ x. get_or ranks x 0) (λ k. ltb k r && true) set
        ∙ count_same (λ x. ltb (get_or ranks x 0) r && true) (λ x. ltb (get_or ranks x 0) r) set (λ x. and-true (ltb (get_or ranks x 0) r))

    pub nth_border : {limit r : ℕ} → NthMember is limit r → Border limit ranks set r
    nth_border {limit} {r} nth =
        record {
          some = some;
          upto =
              λ x there. any_elim (λ (y : ℕ). eqb (get_or ranks y 0) r) set some (λ y here e. at x y here (eqb-true (get_or ranks y 0) r e));
        }
      where
        some : any (λ y. eqb (get_or ranks y 0) r) set ≡ true
        some = sym (memb-map (λ y. get_or ranks y 0) r set) ∙ sym (marks_are r) ∙ nth.is

        at : (x y : ℕ) → memb y set ≡ true → get_or ranks y 0 ≡ r → leb (get_or ranks x 0) r ≡ on_path limit ranks set x
        at x y here e =
            let before = marked_below r in
            same_test (leb (get_or ranks x 0) r) (on_path limit ranks set x)
            (λ low.
            let few =
            count_le (λ z. ltb (get_or ranks z 0) (get_or ranks x 0)) (λ z. ltb (get_or ranks z 0) r) set
            (λ z t.
            lt-ltb (get_or ranks z 0) r
            (omega (arith, ltb-true (get_or ranks z 0) (get_or ranks x 0) t, leb-true (get_or ranks x 0) r low)))
            in
            lt-ltb (ranks_below ranks set (get_or ranks x 0)) limit (omega (arith, nth.before)))
            (λ on.
            by_test (leb (get_or ranks x 0) r) (λ t. t)
            (λ f.
            let above = leb-false (get_or ranks x 0) r f in
            let more = count_more (λ z. get_or ranks z 0) set y (get_or ranks x 0) here (omega arith) in
            let same : ranks_below ranks set (get_or ranks y 0) ≡ ranks_below ranks set r = ap (ranks_below ranks set) e in
            absurd (omega (arith, nth.before, ltb-true (ranks_below ranks set (get_or ranks x 0)) limit on))))
