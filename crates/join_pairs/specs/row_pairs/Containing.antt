-- Inner: the right sets that contain a left set, and the pairs that they make. Document 01, "The run": the pair list has two
-- 16-bit places per pair, kit then stack, rising by kit, then stack.
use Rattle.std.specs.Prelude.{ℕ, ◌≡◌, List, [], ◌∷◌, get_or}
use Rattle.lists.specs.Lists.{keep, subset, slice}
use Rattle.sets.specs.Signatures.{signature}
use Rattle.join_spec.specs.Query.{Query}
use Rattle.join_index.specs.Grouping.{right_at}
use Rattle.join_index.specs.declared.Layout.{Layout}
use Rattle.join_check.specs.declared.Probe.{Probe}
use Rattle.join_index.specs.Asking.{RightThere}
use Rattle.kept_rows.specs.Kept.{contained_at}

-- the pairs of left place k with each of the right places
unfoldable pub pairs_with : ℕ → List ℕ → List ℕ
pairs_with k [] = []
pairs_with k (s ∷ places) = k ∷ s ∷ pairs_with k places

-- the pairs of the left set k with those of the right sets that contain it
abbrev pub row_among : Query → ℕ → List ℕ → List ℕ
row_among q k places = pairs_with k (keep (contained_at q k) places)

-- p is the rest of the left set k, to be looked for in the right set s: containing its ranks is containing the left set
pub record CheckThere (lay : Layout) (q : Query) (w : List ℕ) (p : Probe) (k s : ℕ) : Type 0 where
  pub right : RightThere lay q w s
  pub signed : p.signature ≡ signature (get_or q.lefts k [])
  pub decides : subset (slice p.from p.to w) (right_at q s) ≡ contained_at q k s
