-- The partitions: the children of the path without ranks. Each is a range of left sets with the same first rank, and its visit a part
-- of theirs.
use Prim.Native.Nat.{ℕ, ◌<◌}
use mathlib.Core.Path.{refl}
use mathlib.Core.List.{List}
use native.Mathlib.Omega.{arith}
use Rattle.std.specs.Prelude.{Option}
use Rattle.join_spec.specs.Query.{Query}
use Rattle.join_index.specs.declared.Layout.{Layout}
use Rattle.join_index.specs.Ranges.{RangeEnd}
use Rattle.kept_rows.specs.declared.Progress.{Progress}
use Rattle.join_nodes.specs.declared.WalkSettings.{WalkSettings}
use Rattle.join_nodes.proofs.PartLoop.{PartDone}
use Rattle.join_walk.proofs.visit.ChildSteps.{child_rank, first_child, kids_next}
use Rattle.join_walk.specs.partition.Partition.{Partition, PartVisited}
use Rattle.join_walk.specs.Partitions.{Partitions}

-- the first of the partitions, visited, as a part of them
pub partitions_done : {lay : Layout} {st : WalkSettings} {w w' : List ℕ} {i j hi : ℕ} {p : Progress} {one : Option Progress} → i < hi
    → RangeEnd lay w 0 i hi j
    → ((q : Query) (r : ℕ) → Partition lay st q w i j p r → PartVisited lay st q w w' i j p.tally one)
    → (q : Query) (path : List ℕ) → Partitions lay st q w i hi p
    → PartDone lay st.budget 1 hi (λ path w. lay.slots) (λ q path w i r. Partitions lay st q w i hi r) q path w i p w'
    j one
partitions_done more end each q path parts =
    let visit = each q (child_rank parts more) (first_child parts more end) in
    record {
      facts = record { index = parts.index; few = parts.few; slots = omega arith };
      visit = visit;
      steady = refl;
      next = kids_next parts more end (omega arith) visit;
    }
