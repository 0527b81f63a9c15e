-- The path by the two least keys: rank and item in one number, so that the order of keys is that of the ranks and the item is read off
-- a key. One is the path under the limit 1, both are under the limit 2.
use Prim.Native.Nat.{ℕ, ◌+◌, ◌-◌, ◌%◌, ◌<◌, ◌≤◌}
use mathlib.Core.Path.{◌≡◌, sym, ap, subst, ◌∙◌}
use mathlib.Core.List.{List, [], ◌∷◌}
use mathlib.Core.Bool.{true, false}
use native.Mathlib.Omega.{arith}
use borrow.Author.Tests.{eqb-true, eq-eqb, ltb-true, ltb-false, lt-ltb, le-ltb, leb-true, leb-false, le-leb, lt-leb}
use lib.Dec.{eqb, ltb, leb}
use lib.ListN.{length, get_or}
use Rattle.lists.specs.Lists.{any, memb}
use Rattle.lists.proofs.Bools.{by_test, true-false, same_test, and_left, and_right, and_both}
use Rattle.lists.proofs.Counting.{count_agree, count-true}
use Rattle.lists.proofs.Filtering.{memb-keep}
use Rattle.lists.proofs.Membership.{memb_head, memb_tail, memb_cons, memb_nil}
use Rattle.lists.proofs.Throughout.{any_intro, any_elim}
use Rattle.sets.specs.Limits.{half_words, full_words}
use Rattle.merge_rows.specs.declared.paths.Two.{Two}
use Rattle.merge_rows.specs.FirstRanks.{ranks_below, on_path, path_of, key_of, keys_below}
use Rattle.merge_rows.specs.FirstRanks.{Ranked, FewerBelow, LeastTwo}
use Rattle.merge_rows.proofs.RankCounts.{good_item}
use Rattle.merge_rows.proofs.RankCounts.{rank_low, rank_same, count_more}

-- r is the key of an item
record Key (ranks set : List ℕ) (r : ℕ) : Type 0 where
  item : ℕ
  there : memb item set ≡ true
  is : key_of ranks item ≡ r

module _ {ranks set : List ℕ} (ranked : Ranked ranks set) where
  item_small : (x : ℕ) → memb x set ≡ true → x < 4096
  item_small x there = omega (arith, good_item (length ranks) set ranked.good x there, ranked.few)

  key_small : (x : ℕ) → memb x set ≡ true → key_of ranks x + 2 < full_words
  key_small x there =
      omega (
        arith,
        item_small x there,
        rank_low (length ranks) ranks ranked.permutation set ranked.good x there,
        ranked.few,
      )

  key_item : (x : ℕ) → memb x set ≡ true → key_of ranks x % half_words ≡ x
  key_item x there = let small = item_small x there in omega arith

  -- keys are in the order of ranks
  key_order : (x y : ℕ) → memb x set ≡ true → memb y set ≡ true
      → ltb (key_of ranks y) (key_of ranks x) ≡ ltb (get_or ranks y 0) (get_or ranks x 0)
  key_order x y mx my =
      let low = item_small x mx in
      let small = item_small y my in
      same_test (ltb (key_of ranks y) (key_of ranks x)) (ltb (get_or ranks y 0) (get_or ranks x 0))
      (λ e.
      let less = ltb-true (key_of ranks y) (key_of ranks x) e in
      by_test (ltb (get_or ranks y 0) (get_or ranks x 0)) (λ t. t)
      (λ f.
      let past = ltb-false (get_or ranks y 0) (get_or ranks x 0) f in
      let rank : get_or ranks y 0 ≡ get_or ranks x 0 = omega arith in
      let same = rank_same (length ranks) ranks ranked.permutation set ranked.good y x my mx rank in
      absurd (omega arith)))
      (λ e. lt-ltb (key_of ranks y) (key_of ranks x) (omega (arith, ltb-true (get_or ranks y 0) (get_or ranks x 0) e)))

  keys_ranks : (x : ℕ) → memb x set ≡ true → keys_below ranks set (key_of ranks x) ≡ ranks_below ranks set (get_or ranks x 0)
  keys_ranks x there =
      count_agree (λ y. ltb (key_of ranks y) (key_of ranks x)) (λ y. ltb (get_or ranks y 0) (get_or ranks x 0)) set
      (λ y m. key_order x y there m)

  module _ {m r : ℕ} (fewer : FewerBelow ranks set m r) where
    -- so an item is on the path where its key is at most r
    fewer_path : (x : ℕ) → memb x set ≡ true → leb (key_of ranks x) r ≡ on_path m ranks set x
    fewer_path x there =
        let small = key_small x there in
        fewer.upto (key_of ranks x) (omega arith) ∙ ap (λ (n : ℕ). ltb n m) (keys_ranks x there)

    module _ (enough : m ≤ length set) where
      fewer_small : r + 1 < full_words
      fewer_small =
          let last = full_words - 1 in
          let all-below : keys_below ranks set last ≡ length set =
          count_agree (λ x. ltb (key_of ranks x) last) (λ x. true) set
          (λ x there. lt-ltb (key_of ranks x) last (omega (arith, key_small x there)))
          ∙ count-true set
          in
          let past : leb last r ≡ false = fewer.upto last (omega arith) ∙ le-ltb (keys_below ranks set last) m (omega arith) in
          omega (arith, leb-false last r past)

      fewer_below : keys_below ranks set r < m
      fewer_below =
          let small = fewer_small in
          ltb-true (keys_below ranks set r) m (sym (fewer.upto r (omega arith)) ∙ le-leb r r (omega arith))

      fewer_past : m ≤ keys_below ranks set (r + 1)
      fewer_past =
          ltb-false (keys_below ranks set (r + 1)) m (sym (fewer.upto (r + 1) fewer_small) ∙ lt-leb (r + 1) r (omega arith))

      -- r is a key itself
      fewer_key : Key ranks set r
      fewer_key =
          by_test (any (λ x. eqb (key_of ranks x) r) set)
          (λ some.
          any_elim (λ (x : ℕ). eqb (key_of ranks x) r) set some
          (λ x there e. record { item = x; there = there; is = eqb-true (key_of ranks x) r e }))
          (λ none.
          let same : keys_below ranks set r ≡ keys_below ranks set (r + 1) =
          count_agree (λ x. ltb (key_of ranks x) r) (λ x. ltb (key_of ranks x) (r + 1)) set
          (λ x there.
          same_test (ltb (key_of ranks x) r) (ltb (key_of ranks x) (r + 1))
          (λ e. lt-ltb (key_of ranks x) (r + 1) (omega (arith, ltb-true (key_of ranks x) r e)))
          (λ e.
          let other : (key_of ranks x ≡ r → ⊥) =
          λ is. true-false (any_intro (λ (x : ℕ). eqb (key_of ranks x) r) set x there (eq-eqb (key_of ranks x) r is)) none
          in
          lt-ltb (key_of ranks x) r (omega (arith, ltb-true (key_of ranks x) (r + 1) e, other))))
          in
          absurd (omega (arith, fewer_below, fewer_past)))

      -- a lower key has fewer below it
      fewer_lower : (x : ℕ) → memb x set ≡ true → key_of ranks x < r → keys_below ranks set (key_of ranks x) + 1 < m
      fewer_lower x there less = omega (arith, count_more (key_of ranks) set x r there less, fewer_below)

  -- an item with this key is on the path where it has few enough below it
  key_on : {r : ℕ} (m x : ℕ) (k : Key ranks set r) → on_path m ranks set k.item ≡ true → x ≡ r % half_words
      → memb x (path_of m ranks set) ≡ true
  unfolding path_of
  key_on m x k on here =
      let same : x ≡ k.item = here ∙ ap (λ (y : ℕ). y % half_words) (sym k.is) ∙ key_item k.item k.there in
      subst (λ (y : ℕ). memb y (path_of m ranks set) ≡ true) (sym same)
      (memb-keep (on_path m ranks set) set k.item ∙ and_both k.there on)

  last_on : {m r : ℕ} → FewerBelow ranks set m r → (k : Key ranks set r) → on_path m ranks set k.item ≡ true
  last_on {m} {r} fewer k =
      sym (fewer_path fewer k.item k.there) ∙ le-leb (key_of ranks k.item) r (omega (arith, k.is))

  -- what is on the path has a key up to the last
  on_key : {m r : ℕ} {P : Type 0} (x : ℕ) → FewerBelow ranks set m r → memb x (path_of m ranks set) ≡ true
      → (memb x set ≡ true → key_of ranks x ≤ r → P) → P
  unfolding path_of
  on_key {m} {r} x fewer on use-it =
      let both = sym (memb-keep (on_path m ranks set) set x) ∙ on in
      let there = and_left (memb x set) (on_path m ranks set x) both in
      use-it there (leb-true (key_of ranks x) r (fewer_path fewer x there ∙ and_right (memb x set) (on_path m ranks set x) both))

  key_here : (x r : ℕ) → memb x set ≡ true → key_of ranks x ≡ r → x ≡ r % half_words
  key_here x r there same = sym (key_item x there) ∙ ap (λ (k : ℕ). k % half_words) same

  -- no key is below the first
  first_least : (x r : ℕ) → FewerBelow ranks set 1 r → 1 ≤ length set → memb x set ≡ true → key_of ranks x ≤ r → key_of ranks x ≡ r
  first_least x r fewer more there low =
      by_test (ltb (key_of ranks x) r)
      (λ e. absurd (omega (arith, fewer_lower fewer more x there (ltb-true (key_of ranks x) r e))))
      (λ e. omega (arith, ltb-false (key_of ranks x) r e))

  -- and at most the first is below the second
  second_least : (x : ℕ) (r : Two) → LeastTwo ranks set r → 2 ≤ length set → memb x set ≡ true → key_of ranks x < r.second
      → key_of ranks x ≡ r.first
  second_least x r least more there less =
      let under = fewer_lower least.second more x there less in
      let small = key_small x there in
      let upto-first : leb (key_of ranks x) r.first ≡ true =
      least.first.upto (key_of ranks x) (omega arith) ∙ lt-ltb (keys_below ranks set (key_of ranks x)) 1 (omega arith)
      in
      first_least x r.first least.first (omega arith) there (leb-true (key_of ranks x) r.first upto-first)

  module _ (r : Two) (least : LeastTwo ranks set r) where
    pub one_path : 1 < length set → (x : ℕ) → memb x (r.first % half_words ∷ []) ≡ memb x (path_of 1 ranks set)
    one_path more x =
        let k = fewer_key least.first (omega arith) in
        same_test (memb x (r.first % half_words ∷ [])) (memb x (path_of 1 ranks set))
        (λ m. memb_cons x (r.first % half_words) [] m (key_on 1 x k (last_on least.first k)) (memb_nil x))
        (λ m.
        on_key x least.first m
        (λ there low.
        let same = first_least x r.first least.first (omega arith) there low in
        subst (λ (y : ℕ). memb x (y ∷ []) ≡ true) (key_here x r.first there same) (memb_head x [])))

    pub two_path : 2 < length set
        → (x : ℕ) → memb x (r.first % half_words ∷ r.second % half_words ∷ []) ≡ memb x (path_of 2 ranks set)
    two_path more x =
        let k = fewer_key least.first (omega arith) in
        let l = fewer_key least.second (omega arith) in
        let few = ranks_below ranks set (get_or ranks k.item 0) in
        same_test (memb x (a ∷ b ∷ [])) (memb x (path_of 2 ranks set))
        (λ m.
        memb_cons x a (b ∷ []) m
        (key_on 2 x k (lt-ltb few 2 (omega (arith, ltb-true few 1 (last_on least.first k)))))
        (λ n. memb_cons x b [] n (key_on 2 x l (last_on least.second l)) (memb_nil x)))
        (λ m.
        on_key x least.second m
        (λ there low.
        by_test (ltb (key_of ranks x) r.second)
        (λ e.
        let same = second_least x r least (omega arith) there (ltb-true (key_of ranks x) r.second e) in
        subst (λ (y : ℕ). memb x (y ∷ b ∷ []) ≡ true) (key_here x r.first there same) (memb_head x (b ∷ [])))
        (λ e.
        let same : key_of ranks x ≡ r.second = omega (arith, ltb-false (key_of ranks x) r.second e) in
        memb_tail x a (b ∷ [])
        (subst (λ (y : ℕ). memb x (y ∷ []) ≡ true) (key_here x r.second there same) (memb_head x [])))))
      where
        a : ℕ
        a = r.first % half_words

        b : ℕ
        b = r.second % half_words
