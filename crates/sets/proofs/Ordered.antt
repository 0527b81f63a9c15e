-- Sets in rank order. Under a rank table that is a permutation, `ordered` keeps what a set is: its members, whether it is empty, and
-- which sets have every item of it. All sets here have items below T.
use Prim.Native.Nat.{ℕ, ◌<◌}
use mathlib.Core.Path.{◌≡◌, refl, sym, ap, subst, ◌∙◌}
use mathlib.Core.List.{List, []}
use mathlib.Core.Bool.{Bool, true, ◌&&◌}
use lib.Dec.{eqb, ltb, leb}
use lib.ListN.{length, get_or}
use borrow.Author.Tests.{eqb-true, eq-eqb, ltb-true, lt-ltb}
use Rattle.std.specs.Prelude.{None}
use Rattle.lists.specs.Lists.{all, any, memb, subset, upto, rising}
use Rattle.lists.proofs.Bools.{and_left, and_right, and_both, same_test}
use Rattle.lists.proofs.Throughout.{all_elim, any_intro, any_elim, subset_elim, subset_intro, all_weaken}
use Rattle.lists.proofs.Membership.{memb_at, memb-some}
use Rattle.lists.proofs.Filtering.{keep_none, memb-keep}
use Rattle.lists.proofs.Ranges.{memb-upto}
use Rattle.lists.proofs.Rising.{rising-keep, rising-range}
use Rattle.sets.specs.Limits.{max_set_length}
use Rattle.sets.specs.Collections.{sets_of, good_items, first_bad}
use Rattle.sets.specs.Ordered.{is_permutation, ordered}
use Rattle.sets.proofs.Good.{all_good}
use Rattle.sets.proofs.Permutation.{permutation_below, permutation_injective}

-- whether every item of a set is below T
abbrev pub below : ℕ → List ℕ → Bool
below T set = all (λ i. ltb i T) set

-- the items of a collection without a bad set are below T
pub items_below : (T : ℕ) (ends items : List ℕ) → first_bad T ends items ≡ None → all (below T) (sets_of ends items) ≡ true
items_below T ends items good =
    all_weaken (good_items T) (below T) (sets_of ends items)
    (λ set passes.
    and_left (below T set) (rising set) (and_right (leb (length set) max_set_length) (below T set && rising set) passes))
    (all_good T ends items good)

-- no table or set at all is asked for: the ranks of a set rise, and are those below T that an item has
pub ordered-rising : (T : ℕ) (ranks set : List ℕ) → rising (ordered T ranks set) ≡ true
unfolding ordered
ordered-rising T ranks set = rising-keep _ (upto T) (rising-range 0 T)

pub memb-ordered : (T : ℕ) (ranks set : List ℕ) (r : ℕ)
    → memb r (ordered T ranks set) ≡ (ltb r T && any (λ i. eqb (get_or ranks i 0) r) set)
unfolding ordered
memb-ordered T ranks set r =
    memb-keep (λ r. any (λ i. eqb (get_or ranks i 0) r) set) (upto T) r
    ∙ ap (λ (b : Bool). b && any (λ i. eqb (get_or ranks i 0) r) set) (memb-upto T r)

-- a set has an item where it has a rank, and the empty one has none
pub ordered_back : (T : ℕ) (ranks set : List ℕ) → 0 < length (ordered T ranks set) → 0 < length set
ordered_back T ranks set some =
    let r = get_or (ordered T ranks set) 0 0 in
    any_elim (λ (i : ℕ). eqb (get_or ranks i 0) r) set
    (and_right (ltb r T) _ (sym (memb-ordered T ranks set r) ∙ memb_at (ordered T ranks set) 0 0 some))
    (λ i there e. memb-some i set there)

pub ordered_nil : (T : ℕ) (ranks : List ℕ) → ordered T ranks [] ≡ []
unfolding ordered any
ordered_nil T ranks = keep_none (λ r. any (λ i. eqb (get_or ranks i 0) r) []) (upto T) (λ r. refl)

module _ (T : ℕ) (ranks : List ℕ) (permutation : is_permutation T ranks ≡ true) where
  -- an item below T is in a set exactly when its rank is among the set's ranks
  pub rank_there : (set : List ℕ) (i : ℕ) → i < T → memb i set ≡ true → memb (get_or ranks i 0) (ordered T ranks set) ≡ true
  rank_there set i h m =
      memb-ordered T ranks set (get_or ranks i 0)
      ∙ and_both
      (lt-ltb (get_or ranks i 0) T (permutation_below T ranks permutation i h))
      (any_intro (λ (j : ℕ). eqb (get_or ranks j 0) (get_or ranks i 0)) set i m (eq-eqb (get_or ranks i 0) (get_or ranks i 0) refl))

  pub item_there : (set : List ℕ) → below T set ≡ true → (i : ℕ) → i < T → memb (get_or ranks i 0) (ordered T ranks set) ≡ true
      → memb i set ≡ true
  item_there set b i h m =
      any_elim (λ (j : ℕ). eqb (get_or ranks j 0) (get_or ranks i 0)) set
      (and_right (ltb (get_or ranks i 0) T) _ (sym (memb-ordered T ranks set (get_or ranks i 0)) ∙ m))
      (λ j there e.
      let low : j < T = ltb-true j T (all_elim (λ (k : ℕ). ltb k T) set b j there) in
      let alike = permutation_injective T ranks permutation j i low h (eqb-true (get_or ranks j 0) (get_or ranks i 0) e) in
      subst (λ (k : ℕ). memb k set ≡ true) alike there)

  -- so a set has a rank where it has an item, as the other way round
  pub ordered-some : (set : List ℕ) → below T set ≡ true → 0 < length set → 0 < length (ordered T ranks set)
  ordered-some set b some =
      let there = memb_at set 0 0 some in
      let low = ltb-true (get_or set 0 0) T (all_elim (λ (k : ℕ). ltb k T) set b (get_or set 0 0) there) in
      memb-some (get_or ranks (get_or set 0 0) 0) (ordered T ranks set) (rank_there set (get_or set 0 0) low there)

  -- that every item of one set is in another may be decided on ranks
  pub subset-ordered : (a b : List ℕ) → below T a ≡ true → below T b ≡ true
      → subset (ordered T ranks a) (ordered T ranks b) ≡ subset a b
  subset-ordered a b la lb =
      same_test (subset (ordered T ranks a) (ordered T ranks b)) (subset a b)
      (λ s. subset_intro a b (λ i m.
      let low : i < T = ltb-true i T (all_elim (λ (k : ℕ). ltb k T) a la i m) in
      item_there b lb i low (subset_elim (ordered T ranks a) (ordered T ranks b) s (get_or ranks i 0) (rank_there a i low m))))
      (λ s. subset_intro (ordered T ranks a) (ordered T ranks b) (λ r m.
      any_elim (λ (i : ℕ). eqb (get_or ranks i 0) r) a (and_right (ltb r T) _ (sym (memb-ordered T ranks a r) ∙ m))
      (λ i there e.
      let low : i < T = ltb-true i T (all_elim (λ (k : ℕ). ltb k T) a la i there) in
      subst (λ (k : ℕ). memb k (ordered T ranks b) ≡ true) (eqb-true (get_or ranks i 0) r e)
      (rank_there b i low (subset_elim a b s i there)))))
