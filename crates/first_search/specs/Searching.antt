-- Inner: what the search asks of the left sets and of the marks that it probes, and what it finds by them.
use Rattle.std.specs.Prelude.{ℕ, ◌*◌, ◌≤◌, ◌≡◌, List, Bool, ◌&&◌, length, None}
use Rattle.lists.specs.Lists.{all}
use Rattle.bit_sets.specs.BitSets.{member}
use Rattle.sets.specs.Collections.{Collection, sets_in, has_item, first_bad_in}
use Rattle.first_search_spec.specs.declared.Search.{Search}
use Rattle.first_search_spec.specs.First.{first_from}

-- the left sets are good, over some count of items that all have a place among the marks
pub record CanSearch (left : Collection) (marks : List ℕ) : Type 0 where
  pub T : ℕ
  pub wide : T ≤ 64 * length marks
  pub good : first_bad_in T left ≡ None

-- whether a left set has items and all of them are marked
abbrev pub is_marked : List ℕ → List ℕ → Bool
is_marked marks set = has_item set && all (member marks) set

-- the first left set that has items and all of them marked
abbrev pub first_marked : Collection → List ℕ → Search
first_marked left marks = first_from (is_marked marks) 0 (sets_in left)
