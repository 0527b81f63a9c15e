-- Prefixes and keys: a left set begins with a path and a further rank exactly when it begins with the path and its key there is
-- one more than that rank.
use Prim.Native.Nat.{ℕ, suc, ◌≤◌, zero-le}
use mathlib.Core.Path.{◌≡◌, refl, sym, ap, ap₂, ◌∙◌}
use mathlib.Core.List.{List, [], ◌∷◌, ◌++◌}
use mathlib.Core.Bool.{Bool, true, cond, ◌&&◌, and-true, and_assoc}
use native.Mathlib.Omega.{arith}
use borrow.Author.Tests.{eqb-true}
use lib.Dec.{eqb, leb, leb-suc-suc, leb-suc-zero, eqb-suc-suc, eqb-zero-suc}
use lib.ListN.{length, take, get_or}
use Rattle.lists.specs.Lists.{prefix, keep}
use Rattle.lists.proofs.Bools.{and_left, and_right, eqb_comm}
use Rattle.lists.proofs.Filtering.{keep_same, keep-keep}
use Rattle.join_spec.specs.Query.{Query}
use Rattle.join_index.specs.Grouping.{left_at, key_at}

-- what a path that a set begins with is
pub prefix-take : (path xs : List ℕ) → prefix path xs ≡ true → path ≡ take (length path) xs
unfolding prefix
prefix-take [] xs e = refl
prefix-take (p ∷ ps) [] e = let z : ◌≡◌ {A = ℕ} 0 1 = cc in absurd (omega arith)
prefix-take (p ∷ ps) (x ∷ xs) e =
    ap₂ (λ (a : ℕ) (l : List ℕ). a ∷ l) (eqb-true p x (and_left (eqb p x) (prefix ps xs) e))
    (prefix-take ps xs (and_right (eqb p x) (prefix ps xs) e))

pub prefix-length : (path xs : List ℕ) → prefix path xs ≡ true → length path ≤ length xs
unfolding prefix
prefix-length [] xs e = zero-le
prefix-length (p ∷ ps) [] e = let z : ◌≡◌ {A = ℕ} 0 1 = cc in absurd (omega arith)
prefix-length (p ∷ ps) (x ∷ xs) e =
    let shorter : length ps ≤ length xs = prefix-length ps xs (and_right (eqb p x) (prefix ps xs) e) in omega arith

-- the key of a list at a depth, as of a left set
abbrev next_key : List ℕ → ℕ → ℕ
next_key xs d = cond (leb (length xs) d) 0 (suc (get_or xs d 0))

prefix-further : (path : List ℕ) (r : ℕ) (xs : List ℕ)
    → prefix (path ++ (r ∷ [])) xs ≡ (prefix path xs && eqb (next_key xs (length path)) (suc r))
unfolding prefix
prefix-further [] r [] = sym (eqb-zero-suc r)
prefix-further [] r (x ∷ xs) =
    and-true (eqb r x) ∙ eqb_comm r x ∙ sym (eqb-suc-suc x r)
    ∙ sym (ap (λ (b : Bool). eqb (cond b 0 (suc x)) (suc r)) (leb-suc-zero (length xs)))
prefix-further (p ∷ ps) r [] = refl
prefix-further (p ∷ ps) r (x ∷ xs) =
    ap (λ (b : Bool). eqb p x && b) (prefix-further ps r xs)
    ∙ sym (and_assoc (eqb p x) (prefix ps xs) (eqb (next_key xs (length ps)) (suc r)))
    ∙ sym (ap (λ (b : Bool). eqb p x && prefix ps xs && eqb (cond b 0 (suc (get_or xs (length ps) 0))) (suc r))
    (leb-suc-suc (length xs) (length ps)))

-- the left sets of a range with a further rank r are those that begin with the path and r
pub keep-further : (q : Query) (path : List ℕ) (r : ℕ) (l : List ℕ)
    → keep (λ k. eqb (key_at q (length path) k) (suc r)) (keep (λ k. prefix path (left_at q k)) l)
    ≡ keep (λ k. prefix (path ++ (r ∷ [])) (left_at q k)) l
unfolding key_at
keep-further q path r l =
    keep-keep (λ k. prefix path (left_at q k)) (λ k. eqb (key_at q (length path) k) (suc r)) l
    ∙ keep_same (λ k. prefix path (left_at q k) && eqb (key_at q (length path) k) (suc r))
    (λ k. prefix (path ++ (r ∷ [])) (left_at q k)) l
    (λ k. sym (prefix-further path r (left_at q k)))
