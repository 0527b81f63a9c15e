-- `join_pairs::shortlists::find_candidates` meets its contract. The invariant: no right set that holds all the ranks is missing
-- from the candidates, and of a candidate the ranks from i on decide.
use Prim.Native.Nat.{ℕ, ◌≤◌}
use mathlib.Core.List.{List}
use Rattle.lists.specs.Parts.{Changed}
use Rattle.join_spec.specs.Query.{Query}
use Rattle.join_index.specs.declared.Layout.{Layout}
use Rattle.words.specs.flags.Flags.{Clear}
use Rattle.join_pairs.specs.shortlists.Shortlists.{FindThere}
use Rattle.join_pairs.proofs.shortlists.Sifting.{Sifting}
use Rattle.join_pairs.proofs.shortlists.find_candidates.Given as goal

pub record Searching (lay : Layout) (w : List ℕ) (from to pivot : ℕ) (v : List ℕ) (a b i : ℕ) : Type 0 where
  pub low : from ≤ i
  pub changed : Changed lay.slots lay.row_starts w v
  pub sifting : (q : Query) → FindThere lay q w from to pivot → Sifting lay q w from to pivot v a b i

abbrev pub invariant-loop-i : goal.invariant-loop-i
invariant-loop-i l = Searching l.lay l.initial.work l.from l.to l.pivot l.work l.a l.b l.i × Clear l.flags
