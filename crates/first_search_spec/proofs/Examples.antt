-- Named examples of the search as one computed table, and one result about it: document 01's shelf with each of its right sets,
-- empty sets, equal left sets, none at all, and each refusal in its order. Every row states all six words of the answer.
use Prim.Native.Nat.{ℕ}
use mathlib.Core.List.{List, [], ◌∷◌}
use mathlib.Core.Bool.{Bool, ◌&&◌}
use lib.Dec.{T, eqb}
use lib.ListN.{length}
use Rattle.lists.specs.Lists.{all, memb, range, upto, rising, rising_after, prefix}
use Rattle.sets.specs.Collections.{sets_from, contained, first_bad_from, bad_set}
use Rattle.inputs.specs.Tests.{lone_test}
use Rattle.first_search_spec.specs.First.{first_from, first_test, first_answer, first_words}

-- one example: its input, and the words that are right
record Example : Type 0 where
  items : ℕ
  left_ends : List ℕ
  left_items : List ℕ
  right : List ℕ
  words : List ℕ

-- whether the definitions give what the example says
right : Example → Bool
right e =
    let words = first_words (first_answer e.items (record { ends = e.left_ends; items = e.left_items }) e.right) in
    eqb (length words) (length e.words) && prefix words e.words

example : ℕ → List ℕ → List ℕ → List ℕ → List ℕ → Example
example items left_ends left_items right words =
    record { items = items; left_ends = left_ends; left_items = left_items; right = right; words = words }

-- the words of an answer: found at a place, none of so many, and a refusal with what returns with it
found : ℕ → ℕ → List ℕ
found place compared = 0 ∷ 0 ∷ 0 ∷ 1 ∷ place ∷ compared ∷ []

none : ℕ → List ℕ
none compared = 0 ∷ 0 ∷ 0 ∷ 0 ∷ 0 ∷ compared ∷ []

refused : ℕ → ℕ → ℕ → List ℕ
refused number side place = number ∷ side ∷ place ∷ 0 ∷ 0 ∷ 0 ∷ []

-- the shelf's left sets {0,1}, {1}, {0,2,3}; T is 4
shelf : List ℕ → List ℕ → Example
shelf = example 4 (2 ∷ 3 ∷ 6 ∷ []) (0 ∷ 1 ∷ 1 ∷ 0 ∷ 2 ∷ 3 ∷ [])

examples : List Example
examples =
    -- the shelf with its right sets {0,1,2}, {1,3}, {0,2,3}, and with one that contains none of its left sets
    shelf (0 ∷ 1 ∷ 2 ∷ []) (found 0 1)
    ∷ shelf (1 ∷ 3 ∷ []) (found 1 2)
    ∷ shelf (0 ∷ 2 ∷ 3 ∷ []) (found 2 3)
    ∷ shelf (2 ∷ 3 ∷ []) (none 3)
    -- an empty left set is passed over and counts among those compared: first, and between others; first and last where none is found
    ∷ example 1 (0 ∷ 1 ∷ []) (0 ∷ []) (0 ∷ []) (found 1 2)
    ∷ example 2 (1 ∷ 1 ∷ 2 ∷ []) (1 ∷ 0 ∷ []) (0 ∷ []) (found 2 3)
    ∷ example 2 (0 ∷ 1 ∷ []) (1 ∷ []) (0 ∷ []) (none 2)
    ∷ example 2 (1 ∷ 1 ∷ []) (1 ∷ []) (0 ∷ []) (none 2)
    -- left sets {}, {}: none of them, with an item in the right set and without
    ∷ example 1 (0 ∷ 0 ∷ []) [] (0 ∷ []) (none 2)
    ∷ example 1 (0 ∷ 0 ∷ []) [] [] (none 2)
    -- left sets {} and {0}, in this order and the other, with an empty right set
    ∷ example 1 (0 ∷ 1 ∷ []) (0 ∷ []) [] (none 2)
    ∷ example 1 (1 ∷ 1 ∷ []) (0 ∷ []) [] (none 2)
    -- no left sets; no items at all, with a left set and without
    ∷ example 4 [] [] (0 ∷ 1 ∷ []) (none 0)
    ∷ example 0 (0 ∷ []) [] [] (none 1)
    ∷ example 0 [] [] [] (none 0)
    -- left sets {0}, {1}, {1}: of two equal ones the first
    ∷ example 2 (1 ∷ 2 ∷ 3 ∷ []) (0 ∷ 1 ∷ 1 ∷ []) (1 ∷ []) (found 1 2)
    -- 6: T of 4,096 and of 4,097, the latter before a bad left set and a bad right set
    ∷ example 4096 (1 ∷ []) (4095 ∷ []) (4095 ∷ []) (found 0 1)
    ∷ example 4097 [] [] [] (refused 6 0 0)
    ∷ example 4097 (2 ∷ []) (1 ∷ 0 ∷ []) (1 ∷ 0 ∷ []) (refused 6 0 0)
    -- 5 of a left set: behind one that is contained; before a bad right set; an end past the items
    ∷ example 2 (1 ∷ 3 ∷ []) (0 ∷ 1 ∷ 0 ∷ []) (0 ∷ []) (refused 5 0 1)
    ∷ example 2 (1 ∷ 3 ∷ []) (0 ∷ 1 ∷ 0 ∷ []) (2 ∷ []) (refused 5 0 1)
    ∷ example 2 (1 ∷ 2 ∷ 3 ∷ []) (0 ∷ 1 ∷ []) (0 ∷ []) (refused 5 0 2)
    -- 5 of the right set: an item of T, items that fall, an item twice, 256 items; 255 are accepted
    ∷ shelf (0 ∷ 1 ∷ 4 ∷ []) (refused 5 1 0)
    ∷ shelf (1 ∷ 0 ∷ []) (refused 5 1 0)
    ∷ shelf (1 ∷ 1 ∷ []) (refused 5 1 0)
    ∷ example 256 (1 ∷ []) (254 ∷ []) (upto 256) (refused 5 1 0)
    ∷ example 256 (1 ∷ []) (254 ∷ []) (upto 255) (found 0 1)
    ∷ []

-- the definitions give every example
examples_right : T (all right examples)
unfolding all memb range rising rising_after sets_from contained first_bad_from bad_set lone_test first_from first_test first_answer prefix right
    example found none refused shelf examples
examples_right = tt
