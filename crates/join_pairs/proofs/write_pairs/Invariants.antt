-- `join_pairs::write_pairs` meets its contract. The invariant: the pairs of the left sets from k on remain to be written, and of
-- the work list only the slots changed.
use Prim.Native.Nat.{ℕ}
use mathlib.Core.List.{List}
use lib.ListN.{drop}
use Rattle.lists.specs.Parts.{Changed}
use Rattle.lists.proofs.Writing.{Writing}
use Rattle.join_spec.specs.Query.{Query}
use Rattle.sets.specs.Collections.{contained}
use Rattle.join_spec.specs.PairList.{pairs_from, pair_list}
use Rattle.join_index.specs.declared.Layout.{Layout}
use Rattle.words.specs.flags.Flags.{Clear}
use Rattle.join_pairs.specs.Writing.{PairsRoom}
use Rattle.join_pairs.proofs.write_pairs.Given as goal

pub record PairsWriting (lay : Layout) (w : List ℕ) (lefts : ℕ) (was v pairs : List ℕ) (n k : ℕ) : Type 0 where
  pub changed : Changed lay.slots lay.row_starts w v
  pub written :
      (q : Query) → PairsRoom lay q w lefts was
      → Writing was 0 (pair_list q.lefts q.rights) pairs n (pairs_from contained k (drop k q.lefts) q.rights)

abbrev pub invariant-loop-k : goal.invariant-loop-k
invariant-loop-k l = PairsWriting l.lay l.initial.work l.lefts l.initial.pairs l.work l.pairs l.n l.k × Clear l.flags
