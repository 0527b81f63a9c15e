-- The three numbers of a node, as the walk finds them: m is the length of its range of left sets, c that of its list of
-- candidates, and t a count over the inverted list of its last rank. And the candidates after a node: those before it that hold
-- its last rank.
use Prim.Native.Nat.{ℕ, zero, suc, ◌+◌, ◌-◌, ◌<◌}
use mathlib.Core.Path.{◌≡◌, refl, sym, ap, subst, ◌∙◌}
use mathlib.Core.List.{List, [], ◌∷◌, map}
use mathlib.Core.Bool.{Bool, ◌&&◌, and_comm}
use native.Mathlib.Omega.{arith}
use borrow.Author.Tests.{le-leb, lt-ltb}
use lib.Dec.{leb, ltb}
use lib.ListN.{length}
use Rattle.lists.specs.Lists.{count, keep, memb, subset, prefix, upto}
use Rattle.lists.proofs.Bools.{and_both}
use Rattle.lists.proofs.Counting.{count_same, count_map}
use Rattle.lists.proofs.Filtering.{length-keep, count-keep}
use Rattle.lists.proofs.Ranges.{count_places}
use Rattle.join_spec.specs.Query.{Query, in_order}
use Rattle.join_spec.specs.Node.{seen, first_of, last_of, front_of, beginning, candidates, holders, goes_on, goes_on_at}
use Rattle.join_spec.specs.Walk.{is_candidate, goes}
use Rattle.join_index.specs.Grouping.{left_at, right_at, key_at, order_from}
use Rattle.join_index.specs.Ground.{inverted_list}
use Rattle.join_index.proofs.Ordering.{key_at_below}
use Rattle.join_nodes.proofs.Groups.{count_groups}

-- the order holds every left place once
pub count_order : (q : Query) (p : ℕ → Bool) (n d : ℕ) → count p (order_from q n d) ≡ count p (upto (length q.lefts))
unfolding order_from
count_order q p zero d = refl
count_order q p (suc n) d =
    count_groups (key_at q d) p 0 (suc q.T) (order_from q n (suc d))
    ∙ count_same (λ a. leb 0 (key_at q d a) && ltb (key_at q d a) (0 + suc q.T) && p a) p (order_from q n (suc d))
    (λ a. ap (λ (b : Bool). b && p a)
    (and_both (le-leb 0 (key_at q d a) (omega arith)) (lt-ltb (key_at q d a) (0 + suc q.T) (omega (arith, key_at_below q d a)))))
    ∙ count_order q p n (suc d)

-- a count over the sets of a side, in rank order, by place
lefts_by_place : (q : Query) (p : List ℕ → Bool)
    → count p (map (in_order q) q.lefts) ≡ count (λ k. p (left_at q k)) (upto (length q.lefts))
unfolding left_at
lefts_by_place q p = count_map (in_order q) p q.lefts ∙ count_places [] (λ s. p (in_order q s)) q.lefts

rights_by_place : (q : Query) (p : List ℕ → Bool)
    → count p (map (in_order q) q.rights) ≡ count (λ s. p (right_at q s)) (upto (length q.rights))
unfolding right_at
rights_by_place q p = count_map (in_order q) p q.rights ∙ count_places [] (λ s. p (in_order q s)) q.rights

-- m
pub beginning_is : (q : Query) (path : List ℕ) (n d : ℕ)
    → beginning (map (in_order q) q.lefts) path ≡ length (keep (λ k. prefix path (left_at q k)) (order_from q n d))
beginning_is q path n d =
    lefts_by_place q (prefix path) ∙ sym (count_order q (λ k. prefix path (left_at q k)) n d)
    ∙ sym (length-keep (λ k. prefix path (left_at q k)) (order_from q n d))

-- c
pub candidates_is : (q : Query) (path : List ℕ) {d : ℕ} → length path ≡ d → 0 < d
    → candidates (map (in_order q) q.rights) path
    ≡ count (λ s. is_candidate (d - 1) path (right_at q s)) (upto (length q.rights))
unfolding is_candidate
candidates_is q [] depth deep = absurd (omega arith)
candidates_is q (r ∷ rest) depth deep =
    subst
    (λ (e : ℕ). candidates (map (in_order q) q.rights) (r ∷ rest)
    ≡ count (λ s. is_candidate (e - 1) (r ∷ rest) (right_at q s)) (upto (length q.rights))) depth
    (rights_by_place q (λ right. seen (first_of (r ∷ rest)) right && subset (front_of (r ∷ rest)) right))

-- t
pub holders_is : (q : Query) (path : List ℕ)
    → holders (map (in_order q) q.rights) path ≡ count (λ s. seen (first_of path) (right_at q s)) (inverted_list q (last_of path))
holders_is q path =
    rights_by_place q (λ right. seen (first_of path) right && memb (last_of path) right)
    ∙ count_same (λ s. seen (first_of path) (right_at q s) && memb (last_of path) (right_at q s))
    (λ s. memb (last_of path) (right_at q s) && seen (first_of path) (right_at q s)) (upto (length q.rights))
    (λ s. and_comm (seen (first_of path) (right_at q s)) (memb (last_of path) (right_at q s)))
    ∙ sym (count-keep (λ s. memb (last_of path) (right_at q s)) (λ s. seen (first_of path) (right_at q s))
    (upto (length q.rights)))

-- the decision at a node from the three numbers
pub goes_is : (q : Query) (path : List ℕ) (c t m : ℕ)
    → candidates (map (in_order q) q.rights) path ≡ c → holders (map (in_order q) q.rights) path ≡ t
    → beginning (map (in_order q) q.lefts) path ≡ m → goes q path ≡ goes_on q.rule c t m
unfolding goes goes_on_at
goes_is q path c t m ec et em = rw (ec, et, em)
