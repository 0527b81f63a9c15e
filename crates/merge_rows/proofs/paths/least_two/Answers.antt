use Prim.Native.Nat.{ℕ, ◌+◌, ◌<◌, ◌≤◌, min, max}
use mathlib.Core.Path.{◌≡◌, sym, ap, ◌∙◌}
use mathlib.Core.List.{List}
use native.Mathlib.Omega.{arith}
use borrow.Author.Tests.{ltb-true, ltb-false, lt-ltb, leb-true, le-leb}
use lib.Dec.{ltb, leb}
use lib.ListN.{length, get_or, take}
use Rattle.lists.specs.Lists.{one, count}
use Rattle.lists.proofs.Bools.{by_test, same_test}
use Rattle.lists.proofs.Counting.{count-take}
use Rattle.merge_rows.specs.FirstRanks.{key_of, keys_below, FewerBelow}
use Rattle.merge_rows.proofs.RankCounts.{RankAt, rank_at}
use Rattle.merge_rows.proofs.paths.least_two.Invariants.{LeastSoFar}
use Rattle.merge_rows.proofs.paths.least_two.Goals as goal
use Rattle.merge_rows.proofs.paths.least_two.Goals.{In-loop-x}

-- two tests that agree, read as facts and made of them
there : (a b c d : ℕ) → leb a b ≡ ltb c d → a ≤ b → c < d
there a b c d same low = ltb-true c d (sym same ∙ le-leb a b low)

back : (a b c d : ℕ) → leb a b ≡ ltb c d → c < d → a ≤ b
back a b c d same less = leb-true a b (same ∙ lt-ltb c d less)

agree : (a b c d : ℕ) → (a ≤ b → c < d) → (c < d → a ≤ b) → leb a b ≡ ltb c d
agree a b c d to from =
    same_test (leb a b) (ltb c d) (λ e. lt-ltb c d (to (leb-true a b e))) (λ e. le-leb a b (from (ltb-true c d e)))

-- one more key: up to the lower of two numbers, and up to the second of three
lower_step : (b f k n : ℕ) → leb b f ≡ ltb n 1 → leb b (min f k) ≡ ltb (n + one (ltb k b)) 1
lower_step b f k n first =
    by_test (ltb k b)
    (λ e.
    let low = ltb-true k b e in
    let counts : one (ltb k b) ≡ 1 = ap one e in
    agree b (min f k) (n + one (ltb k b)) 1 (λ h. omega arith) (λ h. omega arith))
    (λ e.
    let high = ltb-false k b e in
    let counts : one (ltb k b) ≡ 0 = ap one e in
    agree b (min f k) (n + one (ltb k b)) 1
    (λ h. omega (arith, there b f n 1 first (omega arith)))
    (λ h. omega (arith, back b f n 1 first (omega arith))))

second_step : (b f s k n : ℕ) → leb b f ≡ ltb n 1 → leb b s ≡ ltb n 2 → leb b (min s (max f k)) ≡ ltb (n + one (ltb k b)) 2
second_step b f s k n first second =
    by_test (ltb k b)
    (λ e.
    let low = ltb-true k b e in
    let counts : one (ltb k b) ≡ 1 = ap one e in
    agree b (min s (max f k)) (n + one (ltb k b)) 2
    (λ h. omega (arith, there b f n 1 first (omega arith)))
    (λ h. omega (arith, back b f n 1 first (omega arith), back b s n 2 second (omega arith))))
    (λ e.
    let high = ltb-false k b e in
    let counts : one (ltb k b) ≡ 0 = ap one e in
    agree b (min s (max f k)) (n + one (ltb k b)) 2
    (λ h. omega (arith, there b s n 2 second (omega arith)))
    (λ h. omega (arith, back b s n 2 second (omega arith))))

-- no key at all
least_start : (ranks set : List ℕ) → LeastSoFar ranks set 4294967295 4294967295 0
unfolding count
least_start ranks set = record { one_below = none 1 (omega arith); two-below = none 2 (omega arith) }
  where
    none : (m : ℕ) → 0 < m → FewerBelow ranks (take 0 set) m 4294967295
    none m some = record { upto = λ b small. le-leb b 4294967295 (omega arith) ∙ sym (lt-ltb 0 m some) }

least_step : {ranks set : List ℕ} {first second e : ℕ} → LeastSoFar ranks set first second e → e < length set
    → {high low lowest : ℕ} → high ≡ max first (key_of ranks (get_or set e 0)) → low ≡ min second high
    → lowest ≡ min first (key_of ranks (get_or set e 0)) → LeastSoFar ranks set lowest low (e + 1)
least_step {ranks} {set} {first} {second} {e} so_far more {high} {low} {lowest} is-high is-low is-lowest =
    let key = key_of ranks (get_or set e 0) in
    record {
      one_below =
          record {
            upto = λ b small.
                ap (leb b) is-lowest
                ∙ lower_step b first key (keys_below ranks (take e set) b) (so_far.one_below.upto b small)
                ∙ ap (λ (n : ℕ). ltb n 1) (sym (count-take (λ x. ltb (key_of ranks x) b) 0 set e more));
          };
      two-below =
          record {
            upto = λ b small.
                ap (leb b) (is-low ∙ ap (min second) is-high)
                ∙ second_step b first second key (keys_below ranks (take e set) b) (so_far.one_below.upto b small)
                (so_far.two-below.upto b small)
                ∙ ap (λ (n : ℕ). ltb n 2) (sym (count-take (λ x. ltb (key_of ranks x) b) 0 set e more));
          };
    }

-- the item and its rank
here : (c : In-loop-x)
    → RankAt c.args.ranks.now c.args.set.now c.loop-x.x-index
here c = rank_at c.requires c.loop-x.x-index c.loop-x-test.true

pub loop-x-init : goal.loop-x-init
loop-x-init c = let a = c.args in least_start a.ranks.now a.set.now

pub bounds-ranks-x : goal.bounds-ranks-x
bounds-ranks-x c = (here (goal.at.bounds-ranks-x c).In-loop-x).item

pub loop-x-preserved : goal.loop-x-preserved
loop-x-preserved c =
    least_step c.loop-x.invariant c.loop-x-test.true
    c.higher.ensures c.lower-second.ensures c.lower-first.ensures
