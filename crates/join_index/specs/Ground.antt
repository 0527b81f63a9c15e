-- Inner: what the regions of the work list hold during the walk: the facts that every step of the walk may use. All of it is below the
-- candidate slots; only these and the kept rows above them change.
use Rattle.std.specs.Prelude.{ℕ, suc, ◌+◌, ◌*◌, ◌≤◌, ◌<◌, ◌≡◌, List, [], Bool, true, false, ◌&&◌, length, get_or}
use Rattle.lists.specs.Lists.{count, keep, memb, upto, slice}
use Rattle.sets.specs.Limits.{max_sets, max_items, full_words}
use Rattle.sets.specs.Collections.{contained}
use Rattle.sets.specs.Signatures.{signature}
use Rattle.join_spec.specs.declared.Rule.{Rule}
use Rattle.join_spec.specs.declared.Rule.TheVariants.{Merge, Check, Weighed}
use Rattle.join_spec.specs.Query.{Query}
use Rattle.join_spec.specs.Node.{seen}
use Rattle.join_index.specs.Grouping.{left_at, right_at, order_of}
use Rattle.counting_sort.specs.Holding.{RegionHolds}
use Rattle.signatures.specs.Signing.{double}
use Rattle.side_index.specs.keys.SetKeys.{start_of}
use Rattle.join_index.specs.declared.Layout.{Layout}

-- the list holds, in some order and each once, the places below n that pass the test
abbrev pub Listing : ℕ → (ℕ → Bool) → List ℕ → Type 0
Listing n test list = (p : ℕ → Bool) → count p list ≡ count (λ s. test s && p s) (upto n)

-- the places of the right sets that hold rank r, rising
abbrev pub inverted_list : Query → ℕ → List ℕ
inverted_list q r = keep (λ s. memb r (right_at q s)) (upto (length q.rights))

-- where the inverted list of rank r begins, counted from its region
abbrev pub offset_of : Layout → List ℕ → ℕ → ℕ
offset_of lay w r = get_or w (lay.offsets + r) 0

-- how many right sets are seen at first rank r; they come first in the list by least rank
abbrev pub seen_count : Layout → List ℕ → ℕ → ℕ
seen_count lay w r = get_or w (lay.least_offsets + suc r) 0

-- whether a rule asks which right sets are seen: all but the one that always goes on
unfoldable pub asks_seen : Rule → Bool
asks_seen Merge = false
asks_seen Check = true
asks_seen (Weighed w) = true

-- w holds each region of the layout for the query; the right sets by least rank only if its rule asks which are seen
pub record Ground (lay : Layout) (q : Query) (w : List ℕ) : Type 0 where
  pub left :
      (k : ℕ) → k < length q.lefts
      → RegionHolds w lay.slots (start_of w lay.left_starts lay.left_ranks k)
      (start_of w lay.left_starts lay.left_ranks (suc k)) (left_at q k)
  pub right :
      (s : ℕ) → s < length q.rights
      → RegionHolds w lay.slots (start_of w lay.right_starts lay.right_ranks s)
      (start_of w lay.right_starts lay.right_ranks (suc s)) (right_at q s)
  pub left_signature :
      (k : ℕ) → k < length q.lefts → double w (lay.left_signatures + 2 * k) ≡ signature (get_or q.lefts k [])
  pub right_signature : (s : ℕ) → s < length q.rights
      → double w (lay.right_signatures + 2 * s) ≡ signature (get_or q.rights s [])
  pub inverted :
      (r : ℕ) → r < q.T
      → RegionHolds w lay.slots (lay.index + offset_of lay w r) (lay.index + offset_of lay w (suc r)) (inverted_list q r)
  pub seen_first :
      asks_seen q.rule ≡ true → (r : ℕ) → r < q.T
      → Listing (length q.rights) (λ s. seen r (right_at q s)) (slice lay.by_least (lay.by_least + seen_count lay w r) w)
  pub ordered : RegionHolds w lay.slots lay.left_order (lay.left_order + length q.lefts) (order_of q)
  -- the regions that are read by place lie below the slots
  pub left_starts_within : lay.left_starts + suc (length q.lefts) ≤ lay.slots
  pub right_starts_within : lay.right_starts + suc (length q.rights) ≤ lay.slots
  pub left_signatures_within : lay.left_signatures + 2 * length q.lefts ≤ lay.slots
  pub right_signatures_within : lay.right_signatures + 2 * length q.rights ≤ lay.slots
  pub offsets_within : lay.offsets + suc q.T ≤ lay.slots
  pub least_offsets_within : lay.least_offsets + suc q.T ≤ lay.slots
  pub seen_within : asks_seen q.rule ≡ true → (r : ℕ) → r < q.T → lay.by_least + seen_count lay w r ≤ lay.slots
  -- every slot is below the kept rows, and these are within the work list, where a place fits a word
  pub slots_below : lay.slots ≤ lay.row_starts
  pub slot_within : (r : ℕ) → r < q.T → lay.slots + offset_of lay w (suc r) ≤ lay.row_starts
  pub row_starts_within : lay.row_starts + length q.lefts ≤ lay.row_ends
  pub row_ends_within : lay.row_ends + length q.lefts ≤ lay.rows
  pub rows_above : 0 < lay.rows
  pub rows_within : lay.rows ≤ lay.end
  pub end_within : lay.end ≤ length w
  pub end_small : lay.end < full_words
  -- ranks decide containment
  pub faithful :
      (k s : ℕ) → k < length q.lefts → s < length q.rights
      → contained (get_or q.lefts k []) (get_or q.rights s []) ≡ contained (left_at q k) (right_at q s)
  -- the sizes of the input
  pub left_few : length q.lefts ≤ max_sets
  pub right_few : length q.rights ≤ max_sets
  pub items_few : q.T ≤ max_items
