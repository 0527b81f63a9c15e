use Prim.Native.Nat.{ℕ, ◌+◌, ◌*◌, ◌<◌, ◌≤◌}
use mathlib.Core.Path.{◌≡◌, sym, ap, ◌∙◌}
use mathlib.Core.List.{List}
use mathlib.Core.Bool.{Bool, ◌&&◌, and-true, and_assoc}
use native.Mathlib.Numerals.{add-one}
use native.Mathlib.Omega.{arith}
use lib.Bits.{bit_and}
use lib.ListN.{length, get_or, drop, drop_of_length-le}
use lib.Seq.{drop-cons}
use Rattle.lists.specs.Lists.{all}
use Rattle.bit_sets.specs.BitSets.{bit_at}
use Rattle.bit_sets.proofs.Lowest.{bit_and_lem}
use Rattle.signatures.specs.Signing.{double}
use Rattle.merge_rows.specs.Words.{digit}
use Rattle.merge_rows.proofs.shared.shared.Invariants.{shared_from}
use Rattle.merge_rows.proofs.shared.shared.Goals as goal
use Rattle.merge_rows.proofs.shared.shared.Goals.{In-loop-item}

module _ (w : List ℕ) (from : ℕ) (list : List ℕ) (e rest j : ℕ) where
  step : e < length list
      → shared_from w from list (e + 1) (bit_and rest (double w (2 * (from + get_or list e 0)))) j ≡ shared_from w from list e rest j
  unfolding all
  step below =
      let here = digit w (from + get_or list e 0) j in
      let later = all (λ x. digit w (from + x) j) (drop (e + 1) list) in
      ap (λ (b : Bool). b && later) (bit_and_lem rest (double w (2 * (from + get_or list e 0))) j) ∙ and_assoc (bit_at rest j) here later
      ∙ sym (rw (drop-cons list e 0 below, add-one e))

  end : length list ≤ e → bit_at rest j ≡ shared_from w from list e rest j
  unfolding all
  end past = sym (rw (drop_of_length-le list {i = e} past, and-true (bit_at rest j)))

pub loop-item-preserved : goal.loop-item-preserved
loop-item-preserved c =
    let a = c.args in
    let l = c.loop-item in
    λ j.
    ap (λ (d : ℕ). shared_from a.work.now a.from a.list.now (l.item-index + 1) (bit_and l.rest d) j) c.double_at-rest.ensures
    ∙ step a.work.now a.from a.list.now l.item-index l.rest j (omega arith) ∙ l.invariant j

pub returns : goal.returns
returns c =
    let a = c.args in
    let l = c.loop-item in
    λ j. end a.work.now a.from a.list.now l.item-index l.rest j (omega arith) ∙ l.invariant j
