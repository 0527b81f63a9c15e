-- Inner: the pair list after a walk, by its answer.
use Rattle.std.specs.Prelude.{ℕ, ◌≡◌, List, true, Result, Err, Ok}
use Rattle.sets.specs.Refusals.{clears}
use Rattle.sets.specs.declared.Refusal.{Refusal}
use Rattle.join_spec.specs.Query.{Query}
use Rattle.join_spec.specs.declared.Counts.{Counts}
use Rattle.join_index.specs.declared.Layout.{Layout}
use Rattle.join_pairs.specs.Writing.{PairsRoom}

-- there is room for the pair list if the answer has counts; a refusal is one that clears it
pub record AnswerRoom (lay : Layout) (q : Query) (w : List ℕ) (lefts : ℕ) (answer : Result Counts Refusal) (pairs : List ℕ) : Type 0 where
  pub joined : (counts : Counts) → answer ≡ Ok counts → PairsRoom lay q w lefts pairs
  pub refused : (why : Refusal) → answer ≡ Err why → clears why ≡ true
