-- Inner: candidates for a left set: right sets that hold one of its ranks, cut down by its other ranks. All places are those of right
-- sets, in a part of the work list; what is cut down is in the slots.
use Rattle.std.specs.Prelude.{ℕ, ◌+◌, ◌≤◌, ◌<◌, ◌≡◌, List, true, ltb, length, get_or}
use Rattle.lists.specs.Lists.{all, keep, memb, subset, rising, slice, upto}
use Rattle.lists.specs.Parts.{Changed}
use Rattle.join_spec.specs.Query.{Query}
use Rattle.join_index.specs.Grouping.{right_at}
use Rattle.join_index.specs.declared.Layout.{Layout}
use Rattle.join_index.specs.Asking.{Index, RankThere, PlacesThere}
use Rattle.words.specs.declared.Part.{Part}
use Rattle.join_pairs.specs.declared.shortlists.Shortlist.{Shortlist}

-- the span lies between the offsets of the rank
pub record Located (lay : Layout) (w : List ℕ) (r : ℕ) (s : Part) : Type 0 where
  pub from : s.from ≡ lay.index + get_or w (lay.offsets + r) 0
  pub to : s.to ≡ lay.index + get_or w (lay.offsets + r + 1) 0

-- work[from..to], below the slot of a rank, lists rising places of right sets that hold the pivot
pub record SpanThere (lay : Layout) (q : Query) (w : List ℕ) (r pivot from to : ℕ) : Type 0 where
  pub rank : RankThere lay q w r
  pub places : PlacesThere lay q w from to
  pub order : from ≤ to
  pub rise : rising (slice from to w) ≡ true
  pub holding : all (λ s. memb pivot (right_at q s)) (slice from to w) ≡ true
  pub high : to ≤ lay.slots + get_or w (lay.offsets + r) 0

-- w became w': the span has those of the places whose right sets hold the rank; it ends with the slot at the latest
pub record RankMet (lay : Layout) (w : List ℕ) (r pivot from to : ℕ) (w' : List ℕ) (s : Part) : Type 0 where
  pub changed : Changed lay.slots lay.row_starts w w'
  pub order : s.from ≤ s.to
  pub high : s.to ≤ lay.slots + get_or w (lay.offsets + r + 1) 0
  pub is :
      (q : Query) → SpanThere lay q w r pivot from to
      → slice s.from s.to w' ≡ keep (λ x. memb r (right_at q x)) (slice from to w)

-- these are ranks, and not none
pub record RanksThere (lay : Layout) (q : Query) (w ranks : List ℕ) : Type 0 where
  pub index : Index lay q w
  pub some : 0 < length ranks
  pub below : all (λ r. ltb r q.T) ranks ≡ true

-- work[from..to], below the slots, are rising ranks, the pivot among them
pub record FindThere (lay : Layout) (q : Query) (w : List ℕ) (from to pivot : ℕ) : Type 0 where
  pub index : Index lay q w
  pub within : to ≤ lay.slots
  pub below : all (λ r. ltb r q.T) (slice from to w) ≡ true
  pub rise : rising (slice from to w) ≡ true
  pub there : memb pivot (slice from to w) ≡ true

-- no right set that holds all the ranks is missing from the candidates, and of a candidate the ranks that are left decide
pub record ShortlistOf (lay : Layout) (q : Query) (w : List ℕ) (from to : ℕ) (w' : List ℕ) (c : Shortlist) : Type 0 where
  pub places : PlacesThere lay q w' c.from c.to
  pub complete :
      keep (λ s. subset (slice from to w) (right_at q s)) (slice c.from c.to w')
      ≡ keep (λ s. subset (slice from to w) (right_at q s)) (upto (length q.rights))
  pub decides :
      (s : ℕ) → memb s (slice c.from c.to w') ≡ true
      → subset (slice c.rest to w) (right_at q s) ≡ subset (slice from to w) (right_at q s)

-- and so for every query, with all words but the slots as they were
pub record Shortlisted (lay : Layout) (w : List ℕ) (from to pivot : ℕ) (w' : List ℕ) (c : Shortlist) : Type 0 where
  pub changed : Changed lay.slots lay.row_starts w w'
  pub low : from ≤ c.rest
  pub is : (q : Query) → FindThere lay q w from to pivot → ShortlistOf lay q w from to w' c
