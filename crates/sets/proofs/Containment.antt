-- Containment of one set in another: what it says of the items, that an empty set is contained in none, and that it may be decided
-- on ranks. What a pair is may come to ask for more; these laws are what the crates above use.
use Prim.Native.Nat.{ℕ, ◌<◌}
use mathlib.Core.Path.{◌≡◌, refl, sym, ap₂, ◌∙◌}
use mathlib.Core.List.{List, []}
use mathlib.Core.Bool.{Bool, true, false, ◌&&◌}
use borrow.Author.Tests.{ltb-true, lt-ltb}
use lib.ListN.{length}
use Rattle.lists.specs.Lists.{memb, subset}
use Rattle.lists.proofs.Bools.{and_left, same_test}
use Rattle.lists.proofs.Throughout.{subset_elim}
use Rattle.sets.specs.Collections.{has_item, contained}
use Rattle.sets.specs.Ordered.{is_permutation, ordered}
use Rattle.sets.proofs.Ordered.{below, ordered-some, ordered_back, subset-ordered}

-- an empty left set is contained in no right set
pub contained_none : (right : List ℕ) → contained [] right ≡ false
unfolding contained
contained_none right = refl

pub contained-some : (left right : List ℕ) → contained left right ≡ true → 0 < length left
unfolding contained
contained-some left right held = ltb-true 0 (length left) (and_left (has_item left) (subset left right) held)

-- any other is contained where every item of it is in the right one
pub contained-subset : (left right : List ℕ) → 0 < length left → contained left right ≡ subset left right
unfolding contained
contained-subset left right some = rw (lt-ltb 0 (length left) some)

pub contained_elim : (left right : List ℕ) → contained left right ≡ true → (i : ℕ) → memb i left ≡ true → memb i right ≡ true
contained_elim left right held =
    subset_elim left right (sym (contained-subset left right (contained-some left right held)) ∙ held)

-- contained alike: both left sets have an item or neither has, and every item is there in both or in neither
pub contained_alike : (a b c d : List ℕ) → (0 < length a → 0 < length c) → (0 < length c → 0 < length a)
    → subset a b ≡ subset c d → contained a b ≡ contained c d
unfolding contained
contained_alike a b c d there back same =
    ap₂ (λ (x y : Bool). x && y)
    (same_test (has_item a) (has_item c)
    (λ some. lt-ltb 0 (length c) (there (ltb-true 0 (length a) some)))
    (λ some. lt-ltb 0 (length a) (back (ltb-true 0 (length c) some))))
    same

-- of sets of items below T it may be decided on their ranks
pub contained_ranks : (T : ℕ) (ranks : List ℕ) → is_permutation T ranks ≡ true → (left right : List ℕ)
    → below T left ≡ true → below T right ≡ true
    → contained (ordered T ranks left) (ordered T ranks right) ≡ contained left right
contained_ranks T ranks permutation left right leftBelow rightBelow =
    contained_alike (ordered T ranks left) (ordered T ranks right) left right
    (ordered_back T ranks left) (ordered-some T ranks permutation left leftBelow)
    (subset-ordered T ranks permutation left right leftBelow rightBelow)
