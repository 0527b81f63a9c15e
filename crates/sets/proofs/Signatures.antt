-- A signature never drops a contained pair: every bit of the left set's signature is in the right set's. A word a is covered by
-- a word b when `bit_and a b ≡ a`; a union of covered words is covered, and a covering word may grow.
use Prim.Native.Nat.{ℕ, ◌/◌, ◌%◌, ◌^◌, min, max}
use mathlib.Core.Path.{◌≡◌, refl, sym, ap, subst, ◌∙◌}
use mathlib.Core.List.{List, [], ◌∷◌}
use mathlib.Core.Bool.{true, false, not}
use native.Mathlib.Omega.{arith}
use lib.Arith.{bin_ind}
use lib.Bits.{bit_and, bit_or, and_step, or_step, and_self, or_comm}
use borrow.Author.Tests.{eq-eqb}
use Rattle.lists.specs.Lists.{memb}
use Rattle.lists.proofs.Membership.{memb_head, memb_tail, memb_cons, memb_nil}
use Rattle.sets.specs.Collections.{contained}
use Rattle.sets.specs.Signatures.{position, signature_from, signature, drops}
use Rattle.sets.proofs.Containment.{contained_elim}

-- the digits of a covered word
covered_digits : (a b : ℕ) → bit_and a b ≡ a → (bit_and (a / 2) (b / 2) ≡ a / 2) × (min (a % 2) (b % 2) ≡ a % 2)
covered_digits a b h = (omega (arith, and_step a b), omega (arith, and_step a b))

or_digits : (a b : ℕ) → (bit_or a b / 2 ≡ bit_or (a / 2) (b / 2)) × (bit_or a b % 2 ≡ max (a % 2) (b % 2))
or_digits a b = (omega (arith, or_step a b), omega (arith, or_step a b))

pub covered_or : (a b c : ℕ) → bit_and a c ≡ a → bit_and b c ≡ b → bit_and (bit_or a b) c ≡ bit_or a b
covered_or a =
    bin_ind (λ (n : ℕ). (b c : ℕ) → bit_and n c ≡ n → bit_and b c ≡ b → bit_and (bit_or n b) c ≡ bit_or n b)
    (λ b c p q. q)
    (λ n ih b c p q.
    let high : bit_and (bit_or n b / 2) (c / 2) ≡ bit_or n b / 2 =
    ap (λ (w : ℕ). bit_and w (c / 2)) (or_digits n b).0 ∙ ih (b / 2) (c / 2) (covered_digits n c p).0 (covered_digits b c q).0
    ∙ sym (or_digits n b).0 in
    let low : min (bit_or n b % 2) (c % 2) ≡ bit_or n b % 2 =
    omega (arith, (or_digits n b).1, (covered_digits n c p).1, (covered_digits b c q).1) in
    omega (arith, and_step (bit_or n b) c))
    a

pub covers_or : (a b c : ℕ) → bit_and a b ≡ a → bit_and a (bit_or b c) ≡ a
covers_or a =
    bin_ind (λ (n : ℕ). (b c : ℕ) → bit_and n b ≡ n → bit_and n (bit_or b c) ≡ n)
    (λ b c p. refl)
    (λ n ih b c p.
    let high : bit_and (n / 2) (bit_or b c / 2) ≡ n / 2 =
    ap (λ (w : ℕ). bit_and (n / 2) w) (or_digits b c).0 ∙ ih (b / 2) (c / 2) (covered_digits n b p).0 in
    let low : min (n % 2) (bit_or b c % 2) ≡ n % 2 = omega (arith, (or_digits b c).1, (covered_digits n b p).1) in
    omega (arith, and_step n (bit_or b c)))
    a

-- a word covers what its parts cover
covers_or_right : (a b : ℕ) → bit_and a (bit_or b a) ≡ a
covers_or_right a b = ap (λ (w : ℕ). bit_and a w) (or_comm b a) ∙ covers_or a a b (and_self a)

-- the signature of a set covers the word it began with, and the bit of every item
pub signature_covers_start : (a m : ℕ) (set : List ℕ) → bit_and a m ≡ a → bit_and a (signature_from m set) ≡ a
unfolding signature_from
signature_covers_start a m [] h = h
signature_covers_start a m (k ∷ ks) h = signature_covers_start a (bit_or m (2 ^ position k)) ks (covers_or a m (2 ^ position k) h)

pub signature_covers_item : (m : ℕ) (set : List ℕ) (k : ℕ) → memb k set ≡ true
    → bit_and (2 ^ position k) (signature_from m set) ≡ 2 ^ position k
unfolding signature_from
signature_covers_item m [] k there = memb_nil k there
signature_covers_item m (x ∷ xs) k there =
    memb_cons k x xs there
    (λ e.
    signature_covers_start (2 ^ position k) (bit_or m (2 ^ position x)) xs
    (subst (λ (i : ℕ). bit_and (2 ^ position k) (bit_or m (2 ^ position i)) ≡ 2 ^ position k) e
    (covers_or_right (2 ^ position k) m)))
    (λ t. signature_covers_item (bit_or m (2 ^ position x)) xs k t)

-- a word that covers the start and the bit of every item covers the signature
pub signature_covered : (m : ℕ) (set : List ℕ) (c : ℕ) → bit_and m c ≡ m
    → ((k : ℕ) → memb k set ≡ true → bit_and (2 ^ position k) c ≡ 2 ^ position k)
    → bit_and (signature_from m set) c ≡ signature_from m set
unfolding signature_from
signature_covered m [] c start items = start
signature_covered m (x ∷ xs) c start items =
    signature_covered (bit_or m (2 ^ position x)) xs c (covered_or m (2 ^ position x) c start (items x (memb_head x xs)))
    (λ k t. items k (memb_tail k x xs t))

-- a contained pair is never dropped
pub contained_not_dropped : (left right : List ℕ) → contained left right ≡ true → drops (signature left) (signature right) ≡ false
contained_not_dropped left right h =
    ap not
    (eq-eqb (bit_and (signature left) (signature right)) (signature left)
    (signature_covered 0 left (signature right) refl
    (λ k there. signature_covers_item 0 right k (contained_elim left right h k there))))
