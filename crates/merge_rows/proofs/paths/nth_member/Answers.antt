use Prim.Native.Nat.{ℕ, ◌+◌, ◌-◌, ◌*◌, ◌/◌, ◌%◌, ◌<◌, ◌≤◌}
use mathlib.Core.Path.{◌≡◌, ap, ap₂, ◌∙◌}
use mathlib.Core.List.{List, ◌++◌}
use native.Mathlib.Omega.{arith}
use lib.ListN.{length, get_or}
use Rattle.lists.specs.Lists.{count, range, upto}
use Rattle.lists.proofs.Counting.{count_append}
use Rattle.lists.proofs.Ranges.{range_append}
use Rattle.bit_sets.specs.BitSets.{bit_at, member}
use Rattle.bit_sets.proofs.Counted.{count_word}
use Rattle.merge_rows.specs.FirstRanks.{NthDigit, NthMember}
use Rattle.merge_rows.proofs.paths.nth_member.Invariants.{MembersLeft}
use Rattle.merge_rows.proofs.paths.nth_member.Goals as goal

members_start : (words : List ℕ) (n : ℕ) → 0 < n → MembersLeft words n n 0
unfolding count range
members_start words n some = record { some = some; total = omega arith }

-- the members up to digit d of word w
count_upto_digit : (words : List ℕ) (w d : ℕ) → d ≤ 64
    → count (member words) (upto (64 * w + d)) ≡ count (member words) (upto (64 * w)) + count (bit_at (get_or words w 0)) (upto d)
count_upto_digit words w d small =
    let from : 0 + 64 * w ≡ 64 * w = omega arith in
    ap (count (member words)) (range_append 0 (64 * w) d ∙ ap (λ (k : ℕ). upto (64 * w) ++ range k d) from)
    ∙ count_append (member words) (upto (64 * w)) (range (64 * w) d)
    ∙ ap (λ (k : ℕ). count (member words) (upto (64 * w)) + k) (count_word words w d small)

module _ {words : List ℕ} {n left w : ℕ} (m : MembersLeft words n left w) where
  members_step : {ones : ℕ} → w < length words → ones ≡ count (bit_at (get_or words w 0)) (upto 64) → ones < left
      → MembersLeft words n (left - ones) (w + 1)
  members_step {ones} more is past =
      let next : 64 * w + 64 ≡ 64 * (w + 1) = omega arith in
      record {
        some = omega arith;
        total =
            omega (
              arith,
              m.total,
              is,
              count_upto_digit words w 64 (omega arith),
              ap (λ (k : ℕ). count (member words) (upto k)) next,
            );
      }

  members-found : {r : ℕ} → w < length words → NthDigit (get_or words w 0) left r → NthMember words n (64 * w + r)
  members-found {r} more digit =
      let low = digit.below in
      let word : (64 * w + r) / 64 ≡ w = omega arith in
      let place : (64 * w + r) % 64 ≡ r = omega arith in
      record {
        below = omega arith;
        is = ap₂ (λ (a b : ℕ). bit_at (get_or words a 0) b) word place ∙ digit.is;
        before = omega (arith, count_upto_digit words w r (omega arith), digit.before, m.total);
      }

pub loop-w-init : goal.loop-w-init
loop-w-init c = members_start c.args.words.now c.args.n c.requires.some

pub returns-then-left-ones : goal.returns-then-left-ones
returns-then-left-ones c =
    members-found c.loop-w.invariant c.loop-w-test.true
    c.nth_digit.ensures

pub loop-w-preserved : goal.loop-w-preserved
loop-w-preserved c =
    members_step c.loop-w.invariant c.loop-w-test.true c.ones_of-ones.ensures
    c.if-left-ones.false
