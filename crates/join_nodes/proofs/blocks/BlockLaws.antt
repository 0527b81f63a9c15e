-- Rows of the left sets of a node, added up: where the walk does not go on they are the checks against a list of candidates; of
-- those that end at a node where it goes on they are the candidates after it, by path.
use Prim.Native.Nat.{ℕ, suc, ◌+◌, ◌-◌, ◌≤◌, ◌<◌}
use mathlib.Core.Path.{◌≡◌, refl, sym, ap, subst, ◌∙◌}
use mathlib.Core.List.{List, [], ◌∷◌}
use mathlib.Core.Bool.{Bool, true, false, not, cond, ◌&&◌, and-not_self, and-false}
use native.Mathlib.Omega.{arith}
use borrow.Author.Tests.{leb-true, leb-false}
use lib.Dec.{eqb, leb, ltb, eqb-suc-zero}
use lib.ListN.{length, take, get_or}
use Rattle.lists.specs.Lists.{all, count, prefix, sum, upto, slice}
use Rattle.lists.proofs.Bools.{by_test, and_left, and_right, and_both, true-false}
use Rattle.lists.proofs.Throughout.{all_weaken}
use Rattle.lists.proofs.Counting.{count_none, count_same_where}
use Rattle.lists.proofs.Summing.{sum_same_where}
use Rattle.lists.proofs.Ranges.{all_upto}
use Rattle.join_spec.specs.Query.{Query}
use Rattle.join_spec.specs.Walk.{Outcome, is_candidate, goes}
use Rattle.join_index.specs.Grouping.{left_at, right_at, key_at}
use Rattle.join_index.specs.Ground.{Listing}
use Rattle.join_index.specs.declared.Layout.{Layout}
use Rattle.join_index.specs.Asking.{Index}
use Rattle.join_index.specs.Ranges.{lefts_in}
use Rattle.join_check.specs.Checks.{row_count, range_count, are_candidates, RangesThere}
use Rattle.join_nodes.specs.Rows.{row, path_pairs}
use Rattle.join_nodes.proofs.Prefixes.{prefix-take, prefix-length}
use Rattle.join_nodes.proofs.Narrowing.{candidate_path, listing_same}
use Rattle.join_nodes.proofs.RowLaws.{MetOnly, row_stops, row_merges}
use Rattle.join_nodes.proofs.PathLaws.{paths_many}

-- every left set of a list begins with the path
abbrev pub Begin : Query → List ℕ → List ℕ → Type 0
Begin q path lefts = all (λ k. prefix path (left_at q k)) lefts ≡ true

-- none fails where all pass, and the other way round
all_none : (p : ℕ → Bool) (l : List ℕ) → count (λ s. not (p s)) l ≡ 0 → all p l ≡ true
unfolding all count
all_none p [] e = refl
all_none p (x ∷ xs) e = by_test (p x)
    (λ pass. and_both pass (all_none p xs (omega (arith, e))))
    (λ fail. let one_more : count (λ s. not (p s)) (x ∷ xs) ≡ 1 + count (λ s. not (p s)) xs = rw fail refl in absurd
    (omega (arith, one_more, e)))

-- a listing holds only places that pass its test, all below n
pub listing_all : (n : ℕ) (test : ℕ → Bool) (list : List ℕ) → Listing n test list → all test list ≡ true
listing_all n test list listing =
    all_none test list
    (listing (λ s. not (test s)) ∙ count_none (λ s. test s && not (test s)) (upto n) (λ s. and-not_self (test s)))

pub listing_below : (n : ℕ) (test : ℕ → Bool) (list : List ℕ) → Listing n test list → all (λ s. ltb s n) list ≡ true
listing_below n test list listing =
    all_none (λ s. ltb s n) list
    (listing (λ s. not (ltb s n))
    ∙ count_same_where (λ s. ltb s n) (λ s. test s && not (ltb s n)) (λ s. false) (upto n) (all_upto n)
    (λ s below. rw below (and-false (test s)))
    ∙ count_none (λ s. false) (upto n) (λ s. refl))

pub all_and : (t u : ℕ → Bool) (l : List ℕ) → all t l ≡ true → all u l ≡ true → all (λ x. t x && u x) l ≡ true
unfolding all
all_and t u [] a b = refl
all_and t u (x ∷ xs) a b =
    and_both (and_both (and_left (t x) (all t xs) a) (and_left (u x) (all u xs) b))
    (all_and t u xs (and_right (t x) (all t xs) a) (and_right (u x) (all u xs) b))

-- a left set with key 0 after d of its ranks has no more
pub key_ended : (q : Query) (d k : ℕ) → eqb (key_at q d k) 0 ≡ true → d ≤ length (left_at q k) → length (left_at q k) ≡ d
unfolding key_at
key_ended q d k none long =
    by_test (leb (length (left_at q k)) d)
    (λ e. let short : length (left_at q k) ≤ d = leb-true (length (left_at q k)) d e in omega arith)
    (λ e. true-false none (ap (λ (b : Bool). eqb (cond b 0 (suc (get_or (left_at q k) d 0))) 0) e
    ∙ eqb-suc-zero (get_or (left_at q k) d 0)))

-- and one with another key has
pub key_longer : (q : Query) (d k : ℕ) → eqb (key_at q d k) 0 ≡ false → d < length (left_at q k)
unfolding key_at
key_longer q d k some =
    by_test (leb (length (left_at q k)) d)
    (λ e. true-false (ap (λ (b : Bool). eqb (cond b 0 (suc (get_or (left_at q k) d 0))) 0) e) some)
    (λ e. leb-false (length (left_at q k)) d e)

-- the left sets of a list begin with a path of d ranks, which are some
pub record Rooted (q : Query) (path : List ℕ) (d : ℕ) (lefts : List ℕ) : Type 0 where
  pub depth : length path ≡ d
  pub deep : 0 < d
  pub begin : Begin q path lefts

module _ {q : Query} {path : List ℕ} {d : ℕ} {lefts : List ℕ} (rooted : Rooted q path d lefts) where
  some : 0 < length path
  some = omega (arith, rooted.depth, rooted.deep)

  -- the candidates of the path are those of a left set that begins with it
  pub listing_left : (e k : ℕ) (list : List ℕ) → prefix path (left_at q k) ≡ true → e ≤ d
      → Listing (length q.rights) (λ s. is_candidate e path (right_at q s)) list
      → Listing (length q.rights) (λ s. is_candidate e (left_at q k) (right_at q s)) list
  listing_left e k list begins short listing =
      listing_same (length q.rights) (λ s. is_candidate e path (right_at q s))
      (λ s. is_candidate e (left_at q k) (right_at q s)) list
      (λ s. sym (candidate_path e path (left_at q k) (right_at q s) some begins (omega (arith, rooted.depth, short)))) listing

  pub left_goes : (k : ℕ) (b : Bool) → prefix path (left_at q k) ≡ true → goes q path ≡ b → goes q (take d (left_at q k)) ≡ b
  left_goes k b begins is =
      subst (λ (n : ℕ). goes q (take n (left_at q k)) ≡ b) rooted.depth
      (sym (ap (goes q) (prefix-take path (left_at q k) begins)) ∙ is)

  -- so the path's candidates are those of each left set
  pub rooted_candidates : (e : ℕ) (list : List ℕ) → e ≤ d
      → Listing (length q.rights) (λ s. is_candidate e path (right_at q s)) list → all (are_candidates q e list) lefts ≡ true
  rooted_candidates e list short listing =
      all_weaken (λ k. prefix path (left_at q k)) (are_candidates q e list) lefts
      (λ k begins.
      listing_all (length q.rights) (λ s. is_candidate e (left_at q k) (right_at q s)) list
      (listing_left e k list begins short listing))
      rooted.begin

  module _ (list : List ℕ) (is : Outcome → Bool) (met : MetOnly is) where
    -- rows where the walk does not go on
    pub rows_stop : goes q path ≡ false → Listing (length q.rights) (λ s. is_candidate (d - 1) path (right_at q s)) list
        → sum (row is q d) lefts ≡ range_count q is list lefts
    rows_stop stop listing =
        sum_same_where (λ k. prefix path (left_at q k)) (row is q d) (row_count q is list) lefts rooted.begin
        (λ k begins.
        row_stops q d k is met list (left_goes k false begins stop)
        (listing_left (d - 1) k list begins (omega arith) listing))

    -- rows of left sets that end where the walk goes on
    pub rows_merge : goes q path ≡ true → all (λ k. eqb (key_at q d k) 0) lefts ≡ true
        → Listing (length q.rights) (λ s. is_candidate d path (right_at q s)) list
        → sum (row is q d) lefts ≡ path_pairs (length lefts) (length list) is
    rows_merge on ended listing =
        sum_same_where (λ k. prefix path (left_at q k) && eqb (key_at q d k) 0) (row is q d) (λ k. path_pairs 1 (length list) is)
        lefts (all_and _ _ lefts rooted.begin ended)
        (λ k both.
        let begins = and_left (prefix path (left_at q k)) (eqb (key_at q d k) 0) both in
        let none = and_right (prefix path (left_at q k)) (eqb (key_at q d k) 0) both in
        row_merges q d k is met list (left_goes k true begins on)
        (key_ended q d k none (omega (arith, prefix-length path (left_at q k) begins, rooted.depth)))
        (listing_left d k list begins (omega arith) listing))
        ∙ paths_many is (length list) lefts

-- the left sets can be checked after e ranks of the path
pub ranges_there : {lay : Layout} {q : Query} {path w : List ℕ} {d e lo hi from to : ℕ} → Rooted q path d (lefts_in lay w lo hi)
    → Index lay q w → to ≤ length w → hi ≤ length q.lefts
    → Listing (length q.rights) (λ s. is_candidate e path (right_at q s)) (slice from to w) → e ≤ d
    → RangesThere lay q w e lo hi from to
ranges_there {lay} {q} {path} {w} {d} {e} {lo} {hi} {from} {to} rooted index inside few listing short =
    record {
      places = record {
        index = index;
        within = inside;
        below = listing_below (length q.rights) (λ s. is_candidate e path (right_at q s)) (slice from to w) listing;
      };
      within = few;
      candidates = rooted_candidates rooted e (slice from to w) short listing;
    }
