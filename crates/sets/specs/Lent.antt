-- What a lent output holds afterwards: document 01, "When no list is made", last column, and "beyond this filled part it is as
-- before".
use Rattle.std.specs.Prelude.{ℕ, List, ◌++◌, cond, length, drop, replicate}
use Rattle.sets.specs.declared.Refusal.{Refusal}
use Rattle.sets.specs.Refusals.{clears}

-- a list filled from its beginning, and as before beyond
abbrev pub filled_over : List ℕ → List ℕ → List ℕ
filled_over part before = part ++ drop (length part) before

-- a list after a refusal: zeros, or as before
abbrev pub after_refusal : Refusal → List ℕ → List ℕ
after_refusal why before = cond (clears why) (replicate (length before) 0) before
