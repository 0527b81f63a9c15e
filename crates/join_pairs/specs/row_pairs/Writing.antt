-- Inner: pairs written into a list from a place on: what is asked of the room.
use Rattle.std.specs.Prelude.{ℕ, ◌+◌, ◌≤◌, ◌<◌, ◌≡◌, List, [], Bool, true, ltb, length, get_or}
use Rattle.lists.specs.Lists.{all, memb, subset, slice}
use Rattle.sets.specs.Limits.{max_sets}
use Rattle.sets.specs.Signatures.{signature}
use Rattle.join_spec.specs.Query.{Query}
use Rattle.join_spec.specs.PairList.{onto_pair}
use Rattle.join_index.specs.Grouping.{right_at}
use Rattle.join_index.specs.declared.Layout.{Layout}
use Rattle.join_check.specs.declared.Probe.{Probe}
use Rattle.join_index.specs.Asking.{LeftThere, PlacesThere}
use Rattle.words.specs.Merges.{Rising}
use Rattle.kept_rows.specs.Kept.{contained_at}
use Rattle.join_pairs.specs.row_pairs.Containing.{pairs_with, row_among}

-- room for a pair, if it is one, of places that fit 16 bits
pub record PushRoom (at k s : ℕ) (paired : Bool) (pairs : List ℕ) : Type 0 where
  pub left : k < max_sets
  pub right : s < max_sets
  pub room : at + length (onto_pair paired k s []) ≤ length pairs

-- room for the pairs of one left place with the right places of a row
pub record KeptRoom (row : List ℕ) (k at : ℕ) (pairs : List ℕ) : Type 0 where
  pub left : k < max_sets
  pub right : all (λ s. ltb s max_sets) row ≡ true
  pub room : at + length (pairs_with k row) ≤ length pairs

-- p is the rest of the left set k, to be looked for in the right sets listed in work[from..to], and there is room for their pairs
pub record RowRoom (lay : Layout) (q : Query) (w : List ℕ) (p : Probe) (k from to at : ℕ) (pairs : List ℕ) : Type 0 where
  pub left : LeftThere lay q w k
  pub places : PlacesThere lay q w from to
  pub signed : p.signature ≡ signature (get_or q.lefts k [])
  pub rising : Rising p.from p.to w
  pub decides :
      (s : ℕ) → memb s (slice from to w) ≡ true → subset (slice p.from p.to w) (right_at q s) ≡ contained_at q k s
  pub room : at + length (row_among q k (slice from to w)) ≤ length pairs
