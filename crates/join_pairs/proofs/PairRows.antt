-- The pairs of the left sets from a place on.
use Prim.Native.Nat.{ℕ, suc, ◌+◌, ◌≤◌, ◌<◌}
use mathlib.Core.Path.{◌≡◌, ap}
use mathlib.Core.List.{[], ◌++◌}
use native.Mathlib.Omega.{arith}
use lib.ListN.{length, drop, drop_of_length-le}
use lib.Seq.{drop-cons}
use Rattle.sets.specs.Collections.{contained}
use Rattle.join_spec.specs.Query.{Query}
use Rattle.join_spec.specs.PairList.{pairs_from}
use Rattle.join_pairs.specs.left_search.LeftRows.{row_at}

-- the pairs of the left sets from place k on
pub pairs_next : (q : Query) (k : ℕ) → k < length q.lefts
    → pairs_from contained k (drop k q.lefts) q.rights ≡ row_at q k ++ pairs_from contained (k + 1) (drop (k + 1) q.lefts) q.rights
unfolding pairs_from
pairs_next q k below =
    let next : suc k ≡ k + 1 = omega arith in
    rw (drop-cons q.lefts k [] below)
    (ap (λ (n : ℕ). row_at q k ++ pairs_from contained n (drop n q.lefts) q.rights) next)

pub pairs_none : (q : Query) (k : ℕ) → length q.lefts ≤ k → pairs_from contained k (drop k q.lefts) q.rights ≡ []
unfolding pairs_from
pairs_none q k past = rw (drop_of_length-le q.lefts {i = k} past)
