-- Rank tables, and sets in order of rising rank. Document 01, "Sets and settings", second paragraph, and the first
-- sentence of "The run".
use Rattle.std.specs.Prelude.{ℕ, List, Bool, ◌&&◌, eqb, ltb, length, get_or}
use Rattle.lists.specs.Lists.{all, any, keep, distinct, upto}

-- whether a rank table is a permutation of 0 .. T-1: T numbers below T, no two alike
unfoldable pub is_permutation : ℕ → List ℕ → Bool
is_permutation T ranks = eqb (length ranks) T && (all (λ r. ltb r T) ranks && distinct ranks)

-- a set in order of rising rank, as the list of its ranks: those r below T that some item of it has
unfoldable pub ordered : ℕ → List ℕ → List ℕ → List ℕ
ordered T ranks set = keep (λ r. any (λ i. eqb (get_or ranks i 0) r) set) (upto T)
