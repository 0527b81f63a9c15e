-- Cases at the borders that P1 to P9 leave open, computed from the definitions as one table: where the order of the float
-- operations decides, weights that are no number or infinite, what c, t and m count, empty sets, signatures, ranks, and which
-- row of the refusal table comes first. Every row states number, detail and six counts.
use Prim.Native.Nat.{ℕ, ◌+◌, ◌*◌, ◌^◌}
use mathlib.Core.List.{List, [], ◌∷◌, ◌++◌}
use mathlib.Core.Bool.{Bool, true, false}
use lib.Dec.{T}
use lib.Ieee.{Float, nan, inf, fin, lt, add, mul, of_int}
use lib.IntN.{pos, negsuc}
use lib.ListN.{length}
use Rattle.lists.specs.Lists.{all, any, count, sum, keep, memb, range, upto, rising, rising_after, distinct, prefix}
use Rattle.inputs.specs.Input.{input_of}
use Rattle.inputs.specs.Tests.{sets_test, words_needed, work_test}
use Rattle.sets.specs.Collections.{sets_from, contained, first_bad_from, bad_set, last_end}
use Rattle.sets.specs.Ordered.{ordered, is_permutation}
use Rattle.sets.specs.Signatures.{position, signature_from}
use Rattle.join_spec.specs.declared.Rule.{Rule}
use Rattle.join_spec.specs.declared.Rule.TheVariants.{Merge, Check, Weighed}
use Rattle.join_spec.specs.Query.{settings_of}
use Rattle.join_spec.specs.Node.{seen, goes_on, goes_on_at}
use Rattle.join_spec.specs.Walk.{ending, ending_from, is_candidate, goes, ending_in, outcome}
use Rattle.join_spec.specs.Counting.{total}
use Rattle.join_spec.specs.Answer.{join_answer, join_words, join_tests, walk_answer, bad_settings}
use Rattle.join_spec.proofs.Examples.{same, greatest, accepted, no_counts}

-- one case: sets by place, settings, lengths of work list and pair list; then number with detail, and the six counts
record Case : Type 0 where
  items : ℕ
  lefts : List (List ℕ)
  rights : List (List ℕ)
  limit : ℕ
  ranks : List ℕ
  rule : Rule
  budget : ℕ
  words : ℕ
  room : ℕ
  refusal : List ℕ
  counts : List ℕ

-- sets as a collection: the ends, the first set beginning at start, and the items
ends_from : ℕ → List (List ℕ) → List ℕ
ends_from start [] = []
ends_from start (set ∷ sets) = let end = start + length set in end ∷ ends_from end sets

items_of : List (List ℕ) → List ℕ
items_of [] = []
items_of (set ∷ sets) = set ++ items_of sets

-- whether the definitions give what the case says
right : Case → Bool
right e =
    let left_ends = ends_from 0 e.lefts in
    let right_ends = ends_from 0 e.rights in
    let answer =
    join_answer (input_of e.items left_ends (items_of e.lefts) right_ends (items_of e.rights))
    (settings_of e.limit e.ranks e.budget e.rule) (record { words = e.words; places = e.room }) in
    same (join_words answer) (e.refusal ++ e.counts)

-- sets of a case
one : ℕ → List ℕ
one i = i ∷ []

two : ℕ → ℕ → List ℕ
two i j = i ∷ j ∷ []

-- weights: a whole number as a float
whole : ℕ → Float
whole n = fin false n (pos 0)

weighed : Float → Float → Float → Float → Rule
weighed a b g h = Weighed (record { a = a; b = b; g = g; h = h })

-- accepted with these counts, at limit 255 with ranks equal to items, the greatest budget and room for all pairs
meets : ℕ → List (List ℕ) → List (List ℕ) → Rule → List ℕ → Case
meets items lefts rights rule counts =
    record {
      items = items;
      lefts = lefts;
      rights = rights;
      limit = 255;
      ranks = upto items;
      rule = rule;
      budget = greatest;
      words = 10000;
      room = 18;
      refusal = accepted;
      counts = counts;
    }

-- the shelf of P1 to P9 with ranks, limit, rule, budget, words and places of its own; it needs 16 x 24 + 64 words
shelf : List ℕ → ℕ → Rule → ℕ → ℕ → ℕ → List ℕ → List ℕ → Case
shelf ranks limit rule budget words room refusal counts =
    record {
      items = 4;
      lefts = two 0 1 ∷ one 1 ∷ (0 ∷ 2 ∷ 3 ∷ []) ∷ [];
      rights = (0 ∷ 1 ∷ 2 ∷ []) ∷ two 1 3 ∷ (0 ∷ 2 ∷ 3 ∷ []) ∷ [];
      limit = limit;
      ranks = ranks;
      rule = rule;
      budget = budget;
      words = words;
      room = room;
      refusal = refusal;
      counts = counts;
    }

-- the shelf under weights, accepted
shelf_weighed : Rule → List ℕ → Case
shelf_weighed rule counts = shelf (upto 4) 255 rule greatest 448 8 accepted counts

-- refused with this number and detail, before the walk: items, sets, limit, ranks
refuses : ℕ → List (List ℕ) → List (List ℕ) → ℕ → List ℕ → List ℕ → Case
refuses items lefts rights limit ranks refusal =
    record {
      items = items;
      lefts = lefts;
      rights = rights;
      limit = limit;
      ranks = ranks;
      rule = Check;
      budget = 0;
      words = 0;
      room = 0;
      refusal = refusal;
      counts = no_counts;
    }

-- one empty left set and nothing else, with neither budget nor places
empty_alone : ℕ → List ℕ → Case
empty_alone words refusal =
    record {
      items = 0;
      lefts = [] ∷ [];
      rights = [];
      limit = 1;
      ranks = [];
      rule = Merge;
      budget = 0;
      words = words;
      room = 0;
      refusal = refusal;
      counts = no_counts;
    }

border_cases : List Case
border_cases =
    -- (2^53 + 1) + 1 rounds down twice and is below 2^53 + 2; 2^53 + (1 + 1) would not be
    meets 1 (one 0 ∷ []) (one 0 ∷ []) (weighed (whole (2 ^ 53)) (whole 1) (whole 1) (whole (2 ^ 53 + 2)))
    (1 ∷ 1 ∷ 0 ∷ 0 ∷ 0 ∷ 0 ∷ [])
    -- (2^52 + 1) x (3 x 3) rounds to 9 x 2^52 + 8, not above the left side; ((2^52 + 1) x 3) x 3 rounds to 9 x 2^52 + 16
    ∷ meets 1 (one 0 ∷ one 0 ∷ one 0 ∷ []) (one 0 ∷ one 0 ∷ one 0 ∷ [])
    (weighed (whole 0) (whole 0) (whole (9 * 2 ^ 52 + 8)) (whole (2 ^ 52 + 1))) (9 ∷ 0 ∷ 9 ∷ 9 ∷ 0 ∷ 0 ∷ [])
    -- not-a-number as a weight, or out of two infinities, doesn't go on; an infinite h goes on
    ∷ shelf_weighed (weighed nan (whole 0) (whole 0) (whole 1)) (4 ∷ 0 ∷ 4 ∷ 7 ∷ 3 ∷ 0 ∷ [])
    ∷ shelf_weighed (weighed (inf false) (whole 0) (inf true) (inf false)) (4 ∷ 0 ∷ 4 ∷ 7 ∷ 3 ∷ 0 ∷ [])
    ∷ shelf_weighed (weighed (whole 1) (whole 1) (whole 0) (inf false)) (4 ∷ 4 ∷ 0 ∷ 0 ∷ 0 ∷ 0 ∷ [])
    -- weights 0, 0, 0, 1 go on wherever a right set is left
    ∷ shelf_weighed (weighed (whole 0) (whole 0) (whole 0) (whole 1)) (4 ∷ 4 ∷ 0 ∷ 0 ∷ 0 ∷ 0 ∷ [])
    -- c counts the seen right sets with all items but the last: at {0,1} all three, so 2 is below 1 x 3
    ∷ meets 2 (two 0 1 ∷ []) (two 0 1 ∷ one 0 ∷ one 0 ∷ []) (weighed (whole 0) (whole 0) (whole 2) (whole 1))
    (1 ∷ 1 ∷ 0 ∷ 0 ∷ 0 ∷ 0 ∷ [])
    -- t counts every seen right set with the path's last item: at {1,2} both, so 1 + 2 isn't below 2.5
    ∷ meets 3 (two 1 2 ∷ []) (two 1 2 ∷ two 0 2 ∷ []) (weighed (whole 1) (whole 1) (whole 0) (fin false 5 (negsuc 0)))
    (1 ∷ 0 ∷ 1 ∷ 1 ∷ 0 ∷ 0 ∷ [])
    -- m counts equal left sets and those that end at the path: at {0} all three, so 2 is below 0.75 x 3
    ∷ meets 2 (one 0 ∷ one 0 ∷ two 0 1 ∷ []) (one 0 ∷ []) (weighed (whole 1) (whole 1) (whole 0) (fin false 3 (negsuc 1)))
    (2 ∷ 2 ∷ 0 ∷ 1 ∷ 1 ∷ 0 ∷ [])
    -- and no empty left set: at {0} there is one, so 2 isn't below 0.75
    ∷ meets 1 ([] ∷ [] ∷ one 0 ∷ []) (one 0 ∷ []) (weighed (whole 1) (whole 1) (whole 0) (fin false 3 (negsuc 1)))
    (1 ∷ 0 ∷ 1 ∷ 1 ∷ 0 ∷ 0 ∷ [])
    -- an empty left set pairs with no right set, an empty one or not; an empty right set is never seen
    ∷ meets 1 ([] ∷ one 0 ∷ []) ([] ∷ one 0 ∷ []) Check (1 ∷ 0 ∷ 1 ∷ 1 ∷ 0 ∷ 0 ∷ [])
    ∷ meets 1 (one 0 ∷ [] ∷ []) ([] ∷ one 0 ∷ []) Merge (1 ∷ 1 ∷ 0 ∷ 0 ∷ 0 ∷ 0 ∷ [])
    ∷ meets 1 ([] ∷ [] ∷ []) (one 0 ∷ one 0 ∷ []) (weighed (whole 1) (whole 1) (whole 0) (inf false)) no_counts
    -- no items at all
    ∷ meets 0 ([] ∷ []) ([] ∷ []) Check no_counts
    -- an empty left set is a set of n: with T of 0 it alone asks for 16 + 64 words
    ∷ empty_alone 80 accepted
    ∷ empty_alone 79 (7 ∷ 0 ∷ 0 ∷ [])
    -- items 161 and 0 share a position: 65 and 1 modulo 64
    ∷ meets 162 (one 161 ∷ []) (one 0 ∷ []) Check (0 ∷ 0 ∷ 0 ∷ 1 ∷ 0 ∷ 1 ∷ [])
    -- falling ranks: other right sets are seen than in P3; ranks 1, 2, 3, 0: other prefixes than in P2
    ∷ shelf (3 ∷ 2 ∷ 1 ∷ 0 ∷ []) 1 Check greatest 448 8 accepted (4 ∷ 0 ∷ 4 ∷ 8 ∷ 4 ∷ 0 ∷ [])
    ∷ shelf (1 ∷ 2 ∷ 3 ∷ 0 ∷ []) 2 Merge greatest 448 8 accepted (4 ∷ 3 ∷ 1 ∷ 1 ∷ 0 ∷ 0 ∷ [])
    -- a budget of 0 where no check is due
    ∷ shelf (upto 4) 255 Merge 0 448 8 accepted (4 ∷ 4 ∷ 0 ∷ 0 ∷ 0 ∷ 0 ∷ [])
    -- 8 before 9, and 7 before both
    ∷ shelf (upto 4) 1 Check 6 448 7 (8 ∷ 0 ∷ 0 ∷ []) no_counts
    ∷ shelf (upto 4) 1 Check 6 447 7 (7 ∷ 0 ∷ 0 ∷ []) no_counts
    -- 6: a limit of 0 or 256, ranks that repeat, are too large, too few or too many, T over 4,096
    ∷ refuses 2 [] [] 0 (0 ∷ 1 ∷ []) (6 ∷ 0 ∷ 0 ∷ [])
    ∷ refuses 2 [] [] 256 (0 ∷ 1 ∷ []) (6 ∷ 0 ∷ 0 ∷ [])
    ∷ refuses 2 [] [] 1 (0 ∷ 0 ∷ []) (6 ∷ 0 ∷ 0 ∷ [])
    ∷ refuses 2 [] [] 1 (0 ∷ 2 ∷ []) (6 ∷ 0 ∷ 0 ∷ [])
    ∷ refuses 2 [] [] 1 (0 ∷ []) (6 ∷ 0 ∷ 0 ∷ [])
    ∷ refuses 2 [] [] 1 (0 ∷ 1 ∷ 2 ∷ []) (6 ∷ 0 ∷ 0 ∷ [])
    ∷ refuses 4097 [] [] 1 [] (6 ∷ 0 ∷ 0 ∷ [])
    -- 6 before 5; 5 of a left set before 5 of a right set; 5 before 7; side and place
    ∷ refuses 2 (two 1 0 ∷ []) [] 0 (0 ∷ 1 ∷ []) (6 ∷ 0 ∷ 0 ∷ [])
    ∷ refuses 2 (one 0 ∷ two 1 0 ∷ []) (one 2 ∷ []) 1 (0 ∷ 1 ∷ []) (5 ∷ 0 ∷ 1 ∷ [])
    ∷ refuses 2 (one 0 ∷ []) (one 2 ∷ []) 1 (0 ∷ 1 ∷ []) (5 ∷ 1 ∷ 0 ∷ [])
    ∷ []

-- the definitions give every case
border_cases_right : T (all right border_cases)
unfolding all any count sum keep memb range rising rising_after distinct prefix sets_from contained first_bad_from bad_set last_end ordered
    is_permutation position signature_from seen goes_on goes_on_at ending ending_from is_candidate goes ending_in outcome total
    join_answer join_tests sets_test words_needed work_test walk_answer bad_settings lt add mul of_int right border_cases ends_from items_of one two whole weighed meets shelf
    shelf_weighed refuses empty_alone same greatest accepted no_counts
border_cases_right = tt
