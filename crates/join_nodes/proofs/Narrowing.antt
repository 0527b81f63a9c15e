-- The candidates along a path: which right sets they are depends on the path alone; one rank more keeps those that hold it; and
-- after the first rank they are that rank's inverted list.
use Prim.Native.Nat.{ℕ, suc, ◌-◌, ◌≤◌, ◌<◌}
use mathlib.Core.Path.{◌≡◌, refl, sym, ap, ap₂, subst, ◌∙◌}
use mathlib.Core.List.{List, [], ◌∷◌, ◌++◌}
use mathlib.Core.Bool.{Bool, true, ◌&&◌, and-true, and_assoc}
use native.Mathlib.Omega.{arith}
use borrow.Author.Tests.{eqb-true}
use lib.Dec.{eqb, ltb}
use lib.ListN.{length, take}
use lib.Seq.{take-take, take-suc}
use Rattle.lists.specs.Lists.{all, count, keep, memb, subset, prefix, upto, slice}
use Rattle.lists.proofs.Bools.{and_left}
use Rattle.lists.proofs.Counting.{count_same, count-true, count_bound}
use Rattle.lists.proofs.Filtering.{keep_same, memb-keep, count-keep, keep-keep, keep_same_where}
use Rattle.lists.proofs.Ranges.{all_upto, memb-upto, length-range}
use Rattle.lists.proofs.Slices.{length-slice}
use Rattle.join_spec.specs.Query.{Query}
use Rattle.join_spec.specs.Node.{seen, last_of}
use Rattle.join_spec.specs.Walk.{is_candidate}
use Rattle.join_spec.proofs.Outcomes.{candidate_held}
use Rattle.join_index.specs.Grouping.{right_at}
use Rattle.join_index.specs.Ground.{Listing, inverted_list}
use Rattle.join_index.proofs.Ordering.{right_rising}
use Rattle.join_nodes.specs.Narrowing.{candidate_list}
use Rattle.join_nodes.proofs.Prefixes.{prefix-take}

-- a left set that begins with a path has the path's candidates
pub candidate_path : (e : ℕ) (path xs right : List ℕ) → 0 < length path → prefix path xs ≡ true → e ≤ length path
    → is_candidate e xs right ≡ is_candidate e path right
unfolding prefix is_candidate
candidate_path e [] xs right some begins short = absurd (omega arith)
candidate_path e (p ∷ ps) [] right some begins short = let z : ◌≡◌ {A = ℕ} 0 1 = cc in absurd (omega arith)
candidate_path e (p ∷ ps) (x ∷ xs) right some begins short =
    ap₂ (λ (a : ℕ) (l : List ℕ). seen a right && subset l right)
    (sym (eqb-true p x (and_left (eqb p x) (prefix ps xs) begins)))
    (sym (ap (take e) (prefix-take (p ∷ ps) (x ∷ xs) begins) ∙ take-take e (length (p ∷ ps)) (x ∷ xs) short))

pub subset_append : (xs ys right : List ℕ) → subset (xs ++ ys) right ≡ (subset xs right && subset ys right)
unfolding all
subset_append [] ys right = refl
subset_append (x ∷ xs) ys right =
    ap (λ (b : Bool). memb x right && b) (subset_append xs ys right)
    ∙ sym (and_assoc (memb x right) (subset xs right) (subset ys right))

-- one rank more
pub candidate_last : (path right : List ℕ) → 0 < length path
    → is_candidate (length path) path right ≡ (is_candidate (length path - 1) path right && memb (last_of path) right)
unfolding is_candidate all
candidate_last [] right some = absurd (omega arith)
candidate_last (p ∷ ps) right some =
    let path = p ∷ ps in
    let d = length path - 1 in
    let one_more : suc d ≡ length path = omega arith in
    let whole : take (length path) path ≡ take d path ++ (last_of path ∷ []) =
    sym (ap (λ (n : ℕ). take n path) one_more) ∙ take-suc path d 0 (omega arith) in
    ap (λ (l : List ℕ). seen p right && subset l right) whole
    ∙ ap (λ (b : Bool). seen p right && b)
    (subset_append (take d path) (last_of path ∷ []) right
    ∙ ap (λ (b : Bool). subset (take d path) right && b) (and-true (memb (last_of path) right)))
    ∙ sym (and_assoc (seen p right) (subset (take d path) right) (memb (last_of path) right))

-- the places that pass a test are a listing of it
pub listing_kept : (n : ℕ) (test : ℕ → Bool) → Listing n test (keep test (upto n))
listing_kept n test p = count-keep test p (upto n)

pub listing_same : (n : ℕ) (test other : ℕ → Bool) (list : List ℕ) → ((s : ℕ) → test s ≡ other s)
    → Listing n test list → Listing n other list
listing_same n test other list same listing p =
    listing p ∙ count_same (λ s. test s && p s) (λ s. other s && p s) (upto n) (λ s. ap (λ (b : Bool). b && p s) (same s))

-- the length of a listing
pub listing-length : (n : ℕ) (test : ℕ → Bool) (list : List ℕ) → Listing n test list → length list ≡ count test (upto n)
listing-length n test list listing =
    sym (count-true list) ∙ listing (λ s. true) ∙ count_same (λ s. test s && true) test (upto n) (λ s. and-true (test s))

-- a listing has at most n places
pub listing_few : (n : ℕ) (test : ℕ → Bool) (from to : ℕ) (w : List ℕ) → to ≤ length w → Listing n test (slice from to w)
    → to - from ≤ n
listing_few n test from to w within listing =
    omega (
      arith,
      listing-length n test (slice from to w) listing,
      length-slice from to w within,
      count_bound test (upto n),
      length-range 0 n,
    )

-- after the first rank the candidates are its inverted list
pub narrow_first : (q : Query) (r : ℕ)
    → inverted_list q r ≡ keep (λ s. is_candidate 1 (r ∷ []) (right_at q s)) (upto (length q.rights))
unfolding all
narrow_first q r =
    keep_same (λ s. memb r (right_at q s)) (λ s. is_candidate 1 (r ∷ []) (right_at q s)) (upto (length q.rights))
    (λ s. sym (candidate_held 0 r [] (right_at q s) (right_rising q s) ∙ and-true (memb r (right_at q s))))

-- after a further rank they are those before that are in its inverted list
pub narrow_further : (q : Query) (path : List ℕ) {d : ℕ} → length path ≡ d → 0 < d
    → keep (λ s. memb s (inverted_list q (last_of path))) (candidate_list q path (d - 1)) ≡ candidate_list q path d
narrow_further q path depth deep =
    subst (λ (e : ℕ). keep (λ s. memb s (inverted_list q last)) (candidate_list q path (e - 1)) ≡ candidate_list q path e) depth
    (keep-keep before (λ s. memb s (inverted_list q last)) (upto n)
    ∙ keep_same_where (λ s. ltb s n) (λ s. before s && memb s (inverted_list q last))
    (λ s. is_candidate (length path) path (right_at q s)) (upto n) (all_upto n)
    (λ s there.
    ap (λ (b : Bool). before s && b)
    (memb-keep (λ s. memb last (right_at q s)) (upto n) s
    ∙ ap (λ (b : Bool). b && memb last (right_at q s)) (memb-upto n s ∙ there))
    ∙ sym (candidate_last path (right_at q s) (omega (arith, depth, deep)))))
  where
    n : ℕ
    n = length q.rights

    last : ℕ
    last = last_of path

    before : ℕ → Bool
    before s = is_candidate (length path - 1) path (right_at q s)
