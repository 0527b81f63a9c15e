-- Inner: one left set over the rows: what its blocks, its path and the counters before earlier left sets are.
use Rattle.std.specs.Prelude.{ℕ, ◌+◌, ◌*◌, ◌/◌, ◌<◌, ◌≤◌, ◌≡◌, List, [], true, ltb, length, take, get_or, None}
use Rattle.lists.specs.Lists.{all, slice}
use Rattle.lists.specs.Parts.{Changed}
use Rattle.sets.specs.Limits.{max_items, max_sets, max_set_length}
use Rattle.sets.specs.Collections.{Collection, sets_in, first_bad_in}
use Rattle.inputs.specs.Input.{Input}
use Rattle.bit_sets.specs.BitSets.{bit_at, digits_from}
use Rattle.merge_rows.specs.declared.Met.{Met}
use Rattle.merge_rows.specs.declared.Regions.{Regions}
use Rattle.merge_rows.specs.Filled.{blocks_of, row_words, RowsHold}
use Rattle.merge_rows.specs.SignedSets.{SignedSome, PlacesIn}
use Rattle.merge_rows.specs.ShortLists.{pairs_with}
use Rattle.merge_rows.specs.Yields.{Yield, holds_all, MetRoom}

-- the regions, low to high: rows, counters before each left set, signatures, hints
pub record Laid (r : Regions) (i : Input) (w : List ℕ) : Type 0 where
  pub counters : 2 * row_words i.T (length i.right.ends) ≤ r.counters
  pub signatures : r.counters + 3 * length i.left.ends ≤ r.signatures
  pub hints : r.signatures + 2 * length i.right.ends ≤ r.hints
  pub end : r.hints + length i.left.ends ≤ length w

-- the rows are filled from right sets without a bad one, and some of these have their signatures
pub record Ground (r : Regions) (T : ℕ) (sets : Collection) (w : List ℕ) : Type 0 where
  pub few : T ≤ max_items
  pub good : first_bad_in T sets ≡ None
  pub above : 2 * row_words T (length sets.ends) ≤ r.signatures
  pub rows : RowsHold T (sets_in sets) w
  pub signed : SignedSome r.signatures (sets_in sets) w

-- items, all below T
abbrev pub Items : ℕ → List ℕ → Type 0
Items t list = all (λ x. ltb x t) list ≡ true

-- a word of candidates of left set k in block q, and what they must hold besides
pub record BlockThere (r : Regions) (T : ℕ) (sets : Collection) (w : List ℕ) (k q : ℕ) (more : List ℕ) (word : ℕ) (m : Met) : Type 0 where
  pub ground : Ground r T sets w
  pub left : k < max_sets
  pub block : q < blocks_of (length sets.ends)
  pub besides : Items T more
  pub places : PlacesIn (length sets.ends) (digits_from 64 (64 * q) word)
  pub room : MetRoom m (length (digits_from 64 (64 * q) word))

-- blocks of which no other one has a right set with the whole path
pub record Blocks (rights : List (List ℕ)) (path : List ℕ) (blocks : ℕ) : Type 0 where
  pub cover : (s : ℕ) → s < length rights → holds_all rights path s ≡ true → bit_at blocks (s / 64) ≡ true
  pub within : (q : ℕ) → bit_at blocks q ≡ true → q < blocks_of (length rights)

-- left set k with its path, and what candidates must hold besides
pub record PathThere (r : Regions) (T : ℕ) (sets : Collection) (w : List ℕ) (k : ℕ) (path more : List ℕ) (m : Met) : Type 0 where
  pub ground : Ground r T sets w
  pub left : k < max_sets
  pub along : Items T path
  pub some : 0 < length path
  pub besides : Items T more
  pub room : MetRoom m (length sets.ends)

-- three words for each left set: the pair list's place and the checks dropped and false before it
abbrev pub counters_at : ℕ → List ℕ → ℕ → ℕ
counters_at counters w j = get_or w (counters + 3 * j) 0

abbrev pub counters_dropped : ℕ → List ℕ → ℕ → ℕ
counters_dropped counters w j = get_or w (counters + 3 * j + 1) 0

abbrev pub counters_falses : ℕ → List ℕ → ℕ → ℕ
counters_falses counters w j = get_or w (counters + 3 * j + 2) 0

-- w became w': the words of left set k are these counters
pub record CountersStored (counters k : ℕ) (m : Met) (w w' : List ℕ) : Type 0 where
  pub changed : Changed (counters + 3 * k) (counters + 3 * k + 3) w w'
  pub at : counters_at counters w' k ≡ m.at
  pub dropped : counters_dropped counters w' k ≡ m.dropped
  pub falses : counters_falses counters w' k ≡ m.falses

-- counters that fit words, and room for them
pub record CountersRoom (counters k : ℕ) (m : Met) (w : List ℕ) : Type 0 where
  pub small : MetRoom m 0
  pub room : counters + 3 * k + 3 ≤ length w

-- the counters of left set j are a yield: its words and those of the next left set tell what it came to, and its pairs stand in the list
pub record CountersHeld (counters j : ℕ) (w : List ℕ) (at : ℕ) (pairs : List ℕ) (y : Yield) : Type 0 where
  pub after : counters_at counters w (j + 1) ≡ counters_at counters w j + 2 * length y.places
  pub dropped : counters_dropped counters w (j + 1) ≡ counters_dropped counters w j + y.dropped
  pub falses : counters_falses counters w (j + 1) ≡ counters_falses counters w j + y.falses
  pub before : counters_at counters w (j + 1) ≤ at
  pub listed : at ≤ length pairs → slice (counters_at counters w j) (counters_at counters w (j + 1)) pairs ≡ pairs_with j y.places

-- there is such a yield, and room for it again
pub record CountersThere (counters j k : ℕ) (m : Met) (w pairs : List ℕ) : Type 0 where
  pub y : Yield
  pub held : CountersHeld counters j w m.at pairs y
  pub left : k < max_sets
  pub within : counters + 3 * j + 6 ≤ length w
  pub room : MetRoom m (length y.places + (y.dropped + y.falses))

-- left set k and the hints
pub record HintRoom (r : Regions) (lefts k : ℕ) (set w : List ℕ) : Type 0 where
  pub place : k < lefts
  pub few : lefts ≤ max_sets
  pub some : 0 < length set
  pub short : length set ≤ max_set_length
  pub room : r.hints + lefts ≤ length w

-- w became w', and nothing below lo changed
pub record KeptBelow (lo : ℕ) (w w' : List ℕ) : Type 0 where
  pub size : length w' ≡ length w
  pub low : take lo w' ≡ take lo w

-- the set is that of a left set j before k
pub record Earlier (sets : Collection) (j k : ℕ) (set : List ℕ) : Type 0 where
  pub before : j < k
  pub is : get_or (sets_in sets) j [] ≡ set

-- left sets without a bad one, of which k has a place
pub record LeftsThere (sets : Collection) (k : ℕ) : Type 0 where
  pub T : ℕ
  pub good : first_bad_in T sets ≡ None
  pub place : k < length sets.ends

-- an earlier left set with these items came to the same
abbrev pub Alike : Regions → List (List ℕ) → List ℕ → ℕ → ℕ → List ℕ → List ℕ → Yield → Type 0
Alike r lefts w k at set pairs y = (j : ℕ) → j < k → get_or lefts j [] ≡ set → CountersHeld r.counters j w at pairs y
