-- The search by halving in a rising list: its invariant with start, steps and end; and what it tells of a word that is looked for.
use Prim.Native.Nat.{ℕ, ◌+◌, ◌≤◌, ◌<◌}
use mathlib.Core.Path.{◌≡◌, sym, ap, subst, ◌∙◌}
use mathlib.Core.List.{List}
use mathlib.Core.Bool.{true, false}
use native.Mathlib.Omega.{arith}
use borrow.Author.Tests.{ltb-true, ltb-false, eq-eqb, ne_eqb}
use lib.Dec.{eqb, ltb}
use lib.ListN.{length, get_or}
use Rattle.lists.specs.Lists.{memb, rising}
use Rattle.lists.proofs.Bools.{by_test, true-false}
use Rattle.lists.proofs.Membership.{memb_at, memb_place}
use Rattle.lists.proofs.Rising.{rising_below}
use Rattle.words.specs.found.Halving.{Parted}

-- x goes between the places lo and hi
pub record Halving (x : ℕ) (part : List ℕ) (lo hi : ℕ) : Type 0 where
  pub ordered : lo ≤ hi
  pub high : hi ≤ length part
  pub under : (i : ℕ) → i < lo → get_or part i 0 < x
  pub over : (i : ℕ) → hi ≤ i → i < length part → x ≤ get_or part i 0

pub halving_start : (x : ℕ) (part : List ℕ) → Halving x part 0 (length part)
halving_start x part =
    record {
      ordered = omega arith;
      high = omega arith;
      under = λ i upto. absurd (omega arith);
      over = λ i from upto. absurd (omega arith);
    }

module _ {x lo hi mid : ℕ} {part : List ℕ} (rises : rising part ≡ true) (h : Halving x part lo hi) (after : lo ≤ mid)
    (before : mid < hi) where
  pub halving_up : get_or part mid 0 < x → Halving x part (mid + 1) hi
  halving_up less =
      record {
        ordered = omega arith;
        high = h.high;
        under = λ i upto.
            by_test (ltb i mid)
            (λ t.
            let lower = rising_below part rises i mid (ltb-true i mid t) (omega (arith, h.high)) in
            omega (arith, lower, less))
            (λ f. same i (omega (arith, ltb-false i mid f, upto)));
        over = h.over;
      }
    where
      same : (i : ℕ) → i ≡ mid → get_or part i 0 < x
      same i e = rw e less

  pub halving_down : x ≤ get_or part mid 0 → Halving x part lo mid
  halving_down most =
      record {
        ordered = after;
        high = omega (arith, h.high);
        under = h.under;
        over = λ i from upto.
            by_test (ltb mid i)
            (λ t.
            let higher = rising_below part rises mid i (ltb-true mid i t) upto in
            omega (arith, higher, most))
            (λ f. same i (omega (arith, ltb-false mid i f, from)));
      }
    where
      same : (i : ℕ) → i ≡ mid → x ≤ get_or part i 0
      same i e = rw e most

pub halving_end : {x lo hi : ℕ} {part : List ℕ} → Halving x part lo hi → hi ≤ lo → Parted x part lo
halving_end h past =
    record {
      high = omega (arith, h.high, h.ordered);
      under = h.under;
      over = λ i from upto. h.over i (omega (arith, past, from)) upto;
    }

-- x is among the words just where it stands at the place that was found
module _ {x r : ℕ} {part : List ℕ} where
  pub among_none : Parted x part r → length part ≤ r → false ≡ memb x part
  among_none found past =
      by_test (memb x part)
      (λ t.
      let at = memb_place x part t in
      absurd (omega (arith, found.under at.at (omega (arith, at.below, past)), at.here)))
      (λ f. sym f)

  module _ (rises : rising part ≡ true) (found : Parted x part r) where
    -- a place that has x is that one
    place_is : (p : ℕ) → p < length part → get_or part p 0 ≡ x → p ≡ r
    place_is p inside here =
        by_test (ltb p r)
        (λ t. absurd (omega (arith, found.under p (ltb-true p r t), here)))
        (λ f.
        by_test (ltb r p)
        (λ t.
        let before = rising_below part rises r p (ltb-true r p t) inside in
        absurd (omega (arith, before, here, found.over r (omega arith) (omega (arith, ltb-true r p t, inside)))))
        (λ g. omega (arith, ltb-false p r f, ltb-false r p g)))

    pub among_at : r < length part → eqb (get_or part r 0) x ≡ memb x part
    among_at inside =
        by_test (memb x part)
        (λ t.
        let at = memb_place x part t in
        let here : get_or part r 0 ≡ x = ap (λ (i : ℕ). get_or part i 0) (sym (place_is at.at at.below at.here)) ∙ at.here in
        eq-eqb (get_or part r 0) x here ∙ sym t)
        (λ f. ne_eqb (get_or part r 0) x (λ e. missing e f) ∙ sym f)
      where
        missing : get_or part r 0 ≡ x → memb x part ≡ false → ⊥
        missing e f =
            true-false (subst (λ (y : ℕ). memb y part ≡ true) e (memb_at part r 0 inside)) f
