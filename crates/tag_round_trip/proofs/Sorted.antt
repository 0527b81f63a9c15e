-- Collapsed lists: collapsing twice, and the lengths. A strictly rising list is known by its members.
use mathlib.Core.Path.{◌≡◌}
use Prim.Native.Nat.{ℕ, ◌≤◌}
use mathlib.Core.List.{List, [], ◌∷◌}
use mathlib.Core.Bool.{true}
use native.Mathlib.Omega.{arith}
use lib.ListN.{length}
use Rattle.lists.specs.Lists.{rising}
use Rattle.lists.proofs.Rising.{rising_same}
use Rattle.tag_file.specs.Records.{insert, insert_all, collapse}
use Rattle.tag_file.proofs.Tables.{rising-insert, rising-collapse, memb-collapse, length-insert, length-insert_all_bound}

pub collapse-collapse : (xs : List ℕ) → collapse (collapse xs) ≡ collapse xs
collapse-collapse xs =
    rising_same (collapse (collapse xs)) (collapse xs) (rising-collapse (collapse xs)) (rising-collapse xs)
    (λ x. memb-collapse x (collapse xs))

pub length-collapse : (xs : List ℕ) → length (collapse xs) ≤ length xs
length-collapse xs = let most = length-insert_all_bound [] xs in omega arith

-- a longer list of insertions is no shorter
pub insert_all_grows : (table xs : List ℕ) → rising table ≡ true → length table ≤ length (insert_all table xs)
unfolding insert_all
insert_all_grows table [] r = omega arith
insert_all_grows table (x ∷ xs) r =
    let more = insert_all_grows (insert x table) xs (rising-insert x table r) in
    let here = length-insert x table r in
    omega arith
