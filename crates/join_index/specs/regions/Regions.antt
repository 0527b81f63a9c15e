-- Inner: where the regions of the index lie, each beginning where the one before it ends.
use Rattle.std.specs.Prelude.{ℕ, ◌+◌, ◌*◌, ◌≤◌, ◌<◌, ◌≡◌}
use Rattle.sets.specs.Limits.{max_items, max_sets, max_entries, full_words}
use Rattle.counting_sort.specs.Sorting.{sorted_at}
use Rattle.side_index.specs.Side.{starts_at, ranks_at, side_end}
use Rattle.join_index.specs.declared.Layout.{Layout}

-- the sizes of an accepted input: items, sets and item entries of each side
pub record Sizes (T lefts rights left_entries right_entries : ℕ) : Type 0 where
  pub items : T ≤ max_items
  pub left_sets : lefts ≤ max_sets
  pub right_sets : rights ≤ max_sets
  pub left_few : left_entries ≤ max_entries
  pub right_few : right_entries ≤ max_entries

-- where the left side's regions begin, and the offsets of the order
abbrev pub left_base : Layout → ℕ → ℕ → ℕ → ℕ
left_base lay T rights right_entries = side_end lay.offsets T right_entries rights

abbrev pub order_base : Layout → ℕ → ℕ
order_base lay rights = lay.by_least + rights

-- most is the greatest number that a list of this many words has and that fits a word
pub record PlacedWords (words most : ℕ) : Type 0 where
  pub within : most ≤ words
  pub small : most < full_words
  pub greatest : (n : ℕ) → n ≤ words → n < full_words → n ≤ most

-- the regions from the first word on: the right side, the left side, the right sets by least rank, the left sets in order, the
-- signatures, above them the slots, and last the rows up to the end
pub record LaidOut (T lefts rights left_entries right_entries words : ℕ) (lay : Layout) : Type 0 where
  pub offsets : lay.offsets ≡ 0
  pub index : lay.index ≡ sorted_at lay.offsets T
  pub right_starts : lay.right_starts ≡ starts_at lay.offsets T right_entries
  pub right_ranks : lay.right_ranks ≡ ranks_at lay.offsets T right_entries rights
  pub left_starts : lay.left_starts ≡ starts_at (left_base lay T rights right_entries) T left_entries
  pub left_ranks : lay.left_ranks ≡ ranks_at (left_base lay T rights right_entries) T left_entries lefts
  pub least_offsets : lay.least_offsets ≡ side_end (left_base lay T rights right_entries) T left_entries lefts
  pub by_least : lay.by_least ≡ sorted_at lay.least_offsets (T + 1)
  pub order : lay.left_order ≡ sorted_at (order_base lay rights) (T + 1)
  pub right_signatures : lay.right_signatures ≡ lay.left_order + lefts
  pub left_signatures : lay.left_signatures ≡ lay.right_signatures + 2 * rights
  pub slots : lay.slots ≡ lay.left_signatures + 2 * lefts
  pub row_starts : lay.row_starts ≡ lay.slots + right_entries
  pub row_ends : lay.row_ends ≡ lay.row_starts + lefts
  pub rows : lay.rows ≡ lay.row_ends + lefts
  pub end : PlacedWords words lay.end
