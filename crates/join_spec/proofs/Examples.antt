-- Document 01, "Shelf examples": P1 to P9 as one computed table, and one result about it. Ranks equal items, T is 4 and the
-- budget the greatest unless a row says otherwise; every row states number, detail and six counts, and the whole pair list at
-- exit; P4 also what the rule decides at two nodes.
use Prim.Native.Nat.{ℕ, ◌-◌, ◌^◌}
use mathlib.Core.List.{List, [], ◌∷◌, ◌++◌, map}
use mathlib.Core.Bool.{Bool, true, false, not, ◌&&◌}
use lib.Dec.{T, eqb}
use lib.Ieee.{fin, lt, add, mul, of_int}
use lib.IntN.{pos, negsuc}
use lib.ListN.{length, replicate}
use Rattle.lists.specs.Lists.{all, any, count, sum, keep, memb, range, upto, rising, rising_after, distinct, prefix}
use Rattle.inputs.specs.Input.{input_of, left_sets, right_sets}
use Rattle.inputs.specs.Tests.{sets_test, words_needed, work_test}
use Rattle.sets.specs.Collections.{sets_of, sets_from, contained, first_bad_from, bad_set, last_end}
use Rattle.sets.specs.Ordered.{ordered, is_permutation}
use Rattle.sets.specs.Signatures.{position, signature_from}
use Rattle.join_spec.specs.declared.Rule.{Rule}
use Rattle.join_spec.specs.declared.Rule.TheVariants.{Merge, Check, Weighed}
use Rattle.join_spec.specs.PairList.{pair_list, pairs_from, row_from}
use Rattle.join_spec.specs.Query.{settings_of}
use Rattle.join_spec.specs.Node.{seen, goes_on, goes_on_at}
use Rattle.join_spec.specs.Walk.{ending, ending_from, is_candidate, goes, ending_in, outcome}
use Rattle.join_spec.specs.Counting.{total}
use Rattle.join_spec.specs.Answer.{join_answer, join_words, join_tests, walk_answer, bad_settings, pairs_after}

-- a decision of the rule: the path of a node, and whether the walk goes on there
record Decision : Type 0 where
  path : List ℕ
  goes : Bool

-- one example: its input, the pair list before, and what is right: number with detail, six counts, pair list after
record Example : Type 0 where
  items : ℕ
  left_ends : List ℕ
  left_items : List ℕ
  right_ends : List ℕ
  right_items : List ℕ
  limit : ℕ
  rule : Rule
  budget : ℕ
  before : List ℕ
  refusal : List ℕ
  counts : List ℕ
  after : List ℕ
  decisions : List Decision

unfoldable pub same : List ℕ → List ℕ → Bool
same [] [] = true
same [] (y ∷ ys) = false
same (x ∷ xs) [] = false
same (x ∷ xs) (y ∷ ys) = eqb x y && same xs ys

unfoldable pub alike : Bool → Bool → Bool
alike true b = b
alike false b = not b

-- whether the definitions give what the example says, with ranks equal to items and just the work list needed
right : Example → Bool
right e =
    let input = input_of e.items e.left_ends e.left_items e.right_ends e.right_items in
    let answer =
    join_answer input (settings_of e.limit (upto e.items) e.budget e.rule)
    (record { words = words_needed input; places = length e.before }) in
    let ranked = map (ordered e.items (upto e.items)) in
    let pairs = pair_list (sets_of e.left_ends e.left_items) (sets_of e.right_ends e.right_items) in
    same (join_words answer) (e.refusal ++ e.counts)
    && (same (pairs_after answer pairs e.before) e.after
    && all (λ (d : Decision). alike d.goes (goes_on_at e.rule (ranked (left_sets input)) (ranked (right_sets input)) d.path))
    e.decisions)

unfoldable pub greatest : ℕ
greatest = 2 ^ 32 - 1

-- the shelf: left sets {0,1}, {1}, {0,2,3}; right sets {0,1,2}, {1,3}, {0,2,3}
shelf_decided : List Decision → ℕ → Rule → ℕ → List ℕ → List ℕ → List ℕ → List ℕ → Example
shelf_decided decisions limit rule budget before refusal counts after =
    record {
      items = 4;
      left_ends = 2 ∷ 3 ∷ 6 ∷ [];
      left_items = 0 ∷ 1 ∷ 1 ∷ 0 ∷ 2 ∷ 3 ∷ [];
      right_ends = 3 ∷ 5 ∷ 8 ∷ [];
      right_items = 0 ∷ 1 ∷ 2 ∷ 1 ∷ 3 ∷ 0 ∷ 2 ∷ 3 ∷ [];
      limit = limit;
      rule = rule;
      budget = budget;
      before = before;
      refusal = refusal;
      counts = counts;
      after = after;
      decisions = decisions;
    }

shelf : ℕ → Rule → ℕ → List ℕ → List ℕ → List ℕ → List ℕ → Example
shelf = shelf_decided []

-- the shelf's pair list in ten places that held 7
ten : List ℕ
ten = replicate 10 7

shelf_pairs : List ℕ
shelf_pairs = 0 ∷ 0 ∷ 1 ∷ 0 ∷ 1 ∷ 1 ∷ 2 ∷ 2 ∷ []

unfoldable pub accepted : List ℕ
accepted = 0 ∷ 0 ∷ 0 ∷ []

shelf_accepted : ℕ → Rule → List ℕ → Example
shelf_accepted limit rule counts = shelf limit rule greatest ten accepted counts (shelf_pairs ++ 7 ∷ 7 ∷ [])

unfoldable pub no_counts : List ℕ
no_counts = replicate 6 0

-- Weighed 1, 1, 0, 1.5
weighed : Rule
weighed =
    Weighed
    (record { a = fin false 1 (pos 0); b = fin false 1 (pos 0); g = fin false 0 (pos 0); h = fin false 3 (negsuc 0) })

-- left sets, right sets and T of their own, Check at limit 255 with the greatest budget and six places that held 7
other : ℕ → List ℕ → List ℕ → List ℕ → List ℕ → List ℕ → List ℕ → Example
other items left_ends left_items right_ends right_items counts after =
    record {
      items = items;
      left_ends = left_ends;
      left_items = left_items;
      right_ends = right_ends;
      right_items = right_items;
      limit = 255;
      rule = Check;
      budget = greatest;
      before = replicate 6 7;
      refusal = accepted;
      counts = counts;
      after = after;
      decisions = [];
    }

examples : List Example
examples =
    -- P1 Merge, limit 1
    shelf_accepted 1 Merge (4 ∷ 2 ∷ 2 ∷ 4 ∷ 2 ∷ 0 ∷ [])
    -- P2 Merge, limit 2
    ∷ shelf_accepted 2 Merge (4 ∷ 3 ∷ 1 ∷ 2 ∷ 1 ∷ 0 ∷ [])
    -- P3 Check
    ∷ shelf_accepted 1 Check (4 ∷ 0 ∷ 4 ∷ 7 ∷ 3 ∷ 0 ∷ [])
    -- P4 Weighed 1, 1, 0, 1.5, limit 255: goes on at {0}, not at {0,1}
    ∷ shelf_decided
    (record { path = 0 ∷ []; goes = true } ∷ record { path = 0 ∷ 1 ∷ []; goes = false } ∷ [])
    255 weighed greatest ten accepted (4 ∷ 0 ∷ 4 ∷ 7 ∷ 3 ∷ 0 ∷ []) (shelf_pairs ++ 7 ∷ 7 ∷ [])
    -- P5 T 257, left set {256}, right set {0}, Check
    ∷ other 257 (1 ∷ []) (256 ∷ []) (1 ∷ []) (0 ∷ []) (0 ∷ 0 ∷ 0 ∷ 1 ∷ 0 ∷ 1 ∷ []) (replicate 6 7)
    -- P6 no left sets
    ∷ other 4 [] [] (3 ∷ 5 ∷ 8 ∷ []) (0 ∷ 1 ∷ 2 ∷ 1 ∷ 3 ∷ 0 ∷ 2 ∷ 3 ∷ []) no_counts (replicate 6 7)
    -- P7 an empty left set, two right sets: no pair, and nothing is counted (document 02, C-14)
    ∷ other 4 (0 ∷ []) [] (1 ∷ 2 ∷ []) (0 ∷ 1 ∷ []) no_counts (replicate 6 7)
    -- P8 P3 with budget 6: refusal 8; with 7: accepted
    ∷ shelf 1 Check 6 ten (8 ∷ 0 ∷ 0 ∷ []) no_counts (replicate 10 0)
    ∷ shelf 1 Check 7 ten accepted (4 ∷ 0 ∷ 4 ∷ 7 ∷ 3 ∷ 0 ∷ []) (shelf_pairs ++ 7 ∷ 7 ∷ [])
    -- P9 P3 with 7 places: refusal 9; with 8: accepted
    ∷ shelf 1 Check greatest (replicate 7 7) (9 ∷ 0 ∷ 0 ∷ []) no_counts (replicate 7 0)
    ∷ shelf 1 Check greatest (replicate 8 7) accepted (4 ∷ 0 ∷ 4 ∷ 7 ∷ 3 ∷ 0 ∷ []) shelf_pairs
    ∷ []

-- the definitions give every example
examples_right : T (all right examples)
unfolding all any count sum keep memb range rising rising_after distinct prefix sets_from contained first_bad_from bad_set last_end ordered
    is_permutation position signature_from pairs_from row_from seen goes_on goes_on_at ending ending_from is_candidate goes ending_in
    outcome total join_answer join_tests sets_test words_needed work_test walk_answer bad_settings lt add mul of_int right examples shelf_decided shelf shelf_accepted other same alike
    greatest ten shelf_pairs accepted no_counts weighed
examples_right = tt
