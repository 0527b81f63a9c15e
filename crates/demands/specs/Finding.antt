-- What a join finds, whatever its settings and lists; what its allowance decides; and what a caller of the library reads off the words
-- of its answer. Document 01, "The run" and "When no list is made".
use Rattle.std.specs.Prelude.{ℕ, ◌+◌, ◌*◌, ◌<◌, ◌≤◌, ◌≡◌, ◌↔◌, Bool, true, ◌&&◌}
use Rattle.std.specs.Prelude.{List, [], ltb, length, get_or, take, drop}
use Rattle.lists.specs.Lists.{one}
use Rattle.sets.specs.Collections.{contained}
use Rattle.inputs.specs.Input.{Input, left_sets, right_sets}
use Rattle.join_spec.specs.declared.Counts.{Counts}
use Rattle.join_spec.specs.PairList.{pair_count}
use Rattle.join_spec.proofs.PairListLaws.{pair_occurs, pairs_rising}
use Rattle.join_spec.specs.Query.{Settings, query_of}
use Rattle.join_spec.specs.Counting.{counts_of, checks_of}

-- two inputs with equal sets: T, idle items and items past the last end may differ
pub record SameSets (i i' : Input) : Type 0 where
  pub lefts : left_sets i ≡ left_sets i'
  pub rights : right_sets i ≡ right_sets i'

-- the filled part of a pair list with so many pairs
abbrev pub filled_part : ℕ → List ℕ → List ℕ
filled_part pairs list = take (2 * pairs) list

-- whether a pair of places is contained: both are places of sets, and the left set is contained in the right one
abbrev pub is_pair : Input → ℕ → ℕ → Bool
is_pair i l r =
    ltb l (length (left_sets i))
    && (ltb r (length (right_sets i)) && contained (get_or (left_sets i) l []) (get_or (right_sets i) r []))

-- what is found with these counts: each contained pair once and no other pair, rising by left place and then right place; beyond the
-- filled part the list is as before; each count is its definition's sum over left and right sets; every pair came by path or was
-- confirmed, every check was dropped, false or confirmed, and no left set is checked against a right set twice
pub record Finds (i : Input) (s : Settings) (counts : Counts) (before after : List ℕ) : Type 0 where
  pub once : (l r : ℕ) → pair_occurs l r (filled_part counts.pairs after) ≡ one (is_pair i l r)
  pub rising : pairs_rising (filled_part counts.pairs after) ≡ true
  pub beyond : drop (2 * counts.pairs) after ≡ drop (2 * counts.pairs) before
  pub counted : counts ≡ counts_of (query_of i s)
  pub met : counts.pairs ≡ counts.by_path + counts.confirmed
  pub ended : counts.checks ≡ counts.dropped + (counts.false_drops + counts.confirmed)
  pub few : counts.checks ≤ length i.left.ends * length i.right.ends

-- what the number of an answer says where nothing before the walk is at fault: 8 (spent) exactly when the sum of checks is above the
-- allowance; otherwise 0 (accepted) exactly when the places suffice, and else 9
pub record Settled (i : Input) (s : Settings) (places number : ℕ) : Type 0 where
  pub spent : (number ≡ 8) ↔ (s.budget < checks_of (query_of i s))
  pub accepted : (number ≡ 0)
      ↔ ((checks_of (query_of i s) ≤ s.budget) × (2 * pair_count (left_sets i) (right_sets i) ≤ places))
  pub short : (number ≡ 9)
      ↔ ((checks_of (query_of i s) ≤ s.budget) × (places < 2 * pair_count (left_sets i) (right_sets i)))

-- the first of an answer's words: the refusal's number, 0 when accepted
abbrev pub number_told : List ℕ → ℕ
number_told words = get_or words 0 0

-- the six counts among them
abbrev pub counts_told : List ℕ → Counts
counts_told words =
    record {
      pairs = get_or words 3 0;
      by_path = get_or words 4 0;
      confirmed = get_or words 5 0;
      checks = get_or words 6 0;
      dropped = get_or words 7 0;
      false_drops = get_or words 8 0;
    }
