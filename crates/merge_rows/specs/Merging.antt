-- Inner: the join of all left sets over the rows: what the left sets up to one have come to, by the definitions.
use Rattle.std.specs.Prelude.{ℕ, ◌+◌, ◌-◌, ◌*◌, ◌/◌, ◌<◌, ◌≤◌, ◌≡◌, List, [], Bool, length, take, get_or, replicate, Option, None, Some, Result, Err, Ok}
use Rattle.lists.specs.Lists.{count}
use Rattle.sets.specs.Limits.{max_items, max_sets, max_set_length, full_words}
use Rattle.sets.specs.Collections.{contained, first_bad_in}
use Rattle.inputs.specs.Input.{Input, left_sets}
use Rattle.join_spec.specs.PairList.{row_from, pairs_from, count_pairs}
use Rattle.join_spec.specs.Query.{Query, query}
use Rattle.join_spec.specs.Walk.{Outcome, outcome}
use Rattle.join_spec.specs.Counting.{is_confirmed, is_dropped, is_false, checks_of}
use Rattle.join_spec.specs.declared.Rule.TheVariants.{Merge}
use Rattle.join_spec.proofs.Accepted.{Tests}
use Rattle.join_check.specs.declared.Tally.{Tally}
use Rattle.merge_rows.specs.declared.Met.{Met}
use Rattle.merge_rows.specs.declared.Regions.{Regions}
use Rattle.merge_rows.specs.Filled.{row_words}
use Rattle.merge_rows.specs.ShortLists.{Listed}
use Rattle.merge_rows.specs.Meeting.{Laid, Ground, counters_at, counters_dropped, counters_falses}
use Rattle.join_spec.specs.declared.Counts.{Counts}
use Rattle.sets.specs.declared.Refusal.{Refusal}

-- so many items and sets
pub record Sizes (t lefts rights : ℕ) : Type 0 where
  pub items : t ≤ max_items
  pub left : lefts ≤ max_sets
  pub right : rights ≤ max_sets

-- the regions for so many items and sets
abbrev pub rows_of : ℕ → ℕ → ℕ → Regions
rows_of t lefts rights =
    let counters = 2 * row_words t rights in
    record { counters = counters; signatures = counters + 3 * lefts; hints = counters + 3 * lefts + 2 * rights }

-- the words of the work list that they take
abbrev pub words_for : ℕ → ℕ → ℕ → ℕ
words_for t lefts rights = (rows_of t lefts rights).hints + lefts

-- right sets without a bad one, and room for their rows and signatures
pub record RowsReady (r : Regions) (i : Input) (w : List ℕ) : Type 0 where
  pub few : i.T ≤ max_items
  pub good : first_bad_in i.T i.right ≡ None
  pub above : 2 * row_words i.T (length i.right.ends) ≤ r.signatures
  pub room : r.signatures + (2 * length i.right.ends + length i.left.ends) ≤ length w

-- the query of an input under Merge
abbrev pub merge_query : Input → ℕ → List ℕ → Query
merge_query i limit ranks = query i.T i.left.ends i.left.items i.right.ends i.right.items limit ranks Merge

-- how many pairs of one left set with the right sets have such an outcome, and of the first n left sets
abbrev pub one_total : (Outcome → Bool) → Query → List ℕ → ℕ
one_total is q left = count (λ right. is (outcome q left right)) q.rights

unfoldable pub total_to : (Outcome → Bool) → Query → ℕ → ℕ
total_to is q n = count_pairs (λ left right. is (outcome q left right)) (take n q.lefts) q.rights

-- the pairs of the first n left sets
unfoldable pub pairs_to : Query → ℕ → List ℕ
pairs_to q n = pairs_from contained 0 (take n q.lefts) q.rights

-- the counters after n left sets
pub record MetAfter (q : Query) (n : ℕ) (m : Met) : Type 0 where
  pub at : m.at ≡ length (pairs_to q n)
  pub confirmed : m.confirmed ≡ total_to is_confirmed q n
  pub dropped : m.dropped ≡ total_to is_dropped q n
  pub falses : m.falses ≡ total_to is_false q n

-- the words of the left sets up to k
pub record CountersKept (q : Query) (counters k : ℕ) (w : List ℕ) : Type 0 where
  pub at : (j : ℕ) → j ≤ k → counters_at counters w j ≡ length (pairs_to q j)
  pub dropped : (j : ℕ) → j ≤ k → counters_dropped counters w j ≡ total_to is_dropped q j
  pub falses : (j : ℕ) → j ≤ k → counters_falses counters w j ≡ total_to is_false q j

-- a query whose tests are passed, over its rows
pub record Over (r : Regions) (i : Input) (limit : ℕ) (ranks w : List ℕ) : Type 0 where
  pub words : ℕ
  pub tests : Tests i limit ranks words
  pub laid : Laid r i w
  pub ground : Ground r i.T i.right w

-- and room for the longest path
pub record LeftsRoom (r : Regions) (i : Input) (limit : ℕ) (ranks w path : List ℕ) : Type 0 where
  pub over : Over r i limit ranks w
  pub longest : max_set_length ≤ length path

-- an input that passed the tests, whose rows fit the work list
pub record MergeRoom (i : Input) (limit : ℕ) (ranks w : List ℕ) : Type 0 where
  pub tests : Tests i limit ranks (length w)
  pub room : words_for i.T (length i.left.ends) (length i.right.ends) ≤ length w

-- left set k, with what those before it came to: their pairs stand in the list where they fit it
pub record SetThere (r : Regions) (i : Input) (limit : ℕ) (ranks w : List ℕ) (k : ℕ) (set path pairs : List ℕ) (m : Met) : Type 0 where
  pub over : Over r i limit ranks w
  pub place : k < length i.left.ends
  pub is : set ≡ get_or (left_sets i) k []
  pub longest : max_set_length ≤ length path
  pub met : MetAfter (merge_query i limit ranks) k m
  pub counters : CountersKept (merge_query i limit ranks) r.counters k w
  pub listed : m.at ≤ length pairs → take m.at pairs ≡ pairs_to (merge_query i limit ranks) k

-- left set k was added to the counters and to the pair list
pub record LeftAdded (q : Query) (k : ℕ) (left : List ℕ) (m m' : Met) (was is : List ℕ) : Type 0 where
  pub listed : Listed was m.at (row_from (contained left) k 0 q.rights) m'.at is
  pub confirmed : m'.confirmed ≡ m.confirmed + one_total is_confirmed q left
  pub dropped : m'.dropped ≡ m.dropped + one_total is_dropped q left
  pub falses : m'.falses ≡ m.falses + one_total is_false q left

-- counters that fit words, whose confirmed checks are pairs
pub record MetFits (m : Met) : Type 0 where
  pub at : m.at < full_words
  pub confirmed : m.confirmed ≤ m.at / 2
  pub dropped : m.dropped < full_words
  pub falses : m.falses < full_words

-- what all left sets came to, with their checks within the budget and their pairs listed
pub record MetAll (q : Query) (budget : ℕ) (m : Met) (was is : List ℕ) : Type 0 where
  pub fits : MetFits m
  pub calm : checks_of q ≤ budget
  pub met : MetAfter q (length q.lefts) m
  pub listed : Listed was 0 (pairs_to q (length q.lefts)) m.at is

-- that, or none where the checks pass the budget
abbrev pub AllMet : Query → ℕ → Option Met → List ℕ → List ℕ → Type 0
AllMet q budget None was is = (length is ≡ length was) × (budget < checks_of q)
AllMet q budget (Some m) was is = MetAll q budget m was is

-- the counters of a join by those of its left sets: pairs are by path or confirmed
abbrev pub tally_of : Met → Tally
tally_of m = record { by_path = m.at / 2 - m.confirmed; confirmed = m.confirmed; dropped = m.dropped; false_drops = m.falses }

-- the pair list as it is after an answer with counts, and zeros after a refusal
abbrev pub settled : Result Counts Refusal → List ℕ → List ℕ
settled (Ok counts) pairs = pairs
settled (Err why) pairs = replicate (length pairs) 0
