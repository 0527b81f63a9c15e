-- Collections: a list of ends and a list of items. Which set is bad, and where the first bad one is. Document 01, "Sets and settings",
-- first paragraph. A left set is a kit there, and a right set a stack.
use Rattle.std.specs.Prelude.{ℕ, suc, ◌-◌, List, [], ◌∷◌, Bool, not, cond, ◌&&◌, ◌||◌, ltb, leb, length, take, drop, Option, None, Some}
use Rattle.lists.specs.Lists.{all, rising, subset}
use Rattle.sets.specs.declared.Sets.{Sets}
use Rattle.sets.specs.Limits.{max_sets, max_entries, max_set_length}

-- the items from one end up to the next
abbrev pub between : ℕ → ℕ → List ℕ → List ℕ
between start end items = take (end - start) (drop start items)

-- the sets whose ends are given, the first beginning at start
unfoldable pub sets_from : ℕ → List ℕ → List ℕ → List (List ℕ)
sets_from start [] items = []
sets_from start (end ∷ ends) items = between start end items ∷ sets_from end ends items

-- the sets of a collection, by place
abbrev pub sets_of : List ℕ → List ℕ → List (List ℕ)
sets_of ends items = sets_from 0 ends items

-- a collection as it is lent
pub record Collection : Type 0 where
  pub ends : List ℕ
  pub items : List ℕ

-- the collection that is lent
abbrev pub lent_sets : Sets → Collection
lent_sets sets = record { ends = sets.ends.now; items = sets.items.now }

abbrev pub sets_in : Collection → List (List ℕ)
sets_in c = sets_of c.ends c.items

-- whether the items of one set are in order: not too many, each below T, strictly rising
abbrev pub good_items : ℕ → List ℕ → Bool
good_items T set = leb (length set) max_set_length && (all (λ i. ltb i T) set && rising set)

-- whether an end follows the one before it, within the limits
abbrev pub good_end : ℕ → ℕ → List ℕ → Bool
good_end start end items = leb start end && (leb end max_entries && leb end (length items))

-- whether the set at place k is bad, given the end before it and its own
unfoldable pub bad_set : ℕ → ℕ → ℕ → ℕ → List ℕ → Bool
bad_set T k start end items =
    leb max_sets k || not (good_end start end items && good_items T (between start end items))

-- the first bad place from place k on
unfoldable pub first_bad_from : ℕ → ℕ → ℕ → List ℕ → List ℕ → Option ℕ
first_bad_from T k start [] items = None
first_bad_from T k start (end ∷ ends) items =
    cond (bad_set T k start end items) (Some k) (first_bad_from T (suc k) end ends items)

-- the first bad place of a collection, or that there is none
abbrev pub first_bad : ℕ → List ℕ → List ℕ → Option ℕ
first_bad T ends items = first_bad_from T 0 0 ends items

-- the same of a collection as one
abbrev pub first_bad_in : ℕ → Collection → Option ℕ
first_bad_in T c = first_bad T c.ends c.items

-- the last of the ends, or start if there is none
unfoldable pub last_end : ℕ → List ℕ → ℕ
last_end start [] = start
last_end start (end ∷ ends) = last_end end ends

-- how many item entries a collection has: its last end, or 0 without sets
abbrev pub entries : List ℕ → ℕ
entries ends = last_end 0 ends

-- whether a set has at least one item
abbrev pub has_item : List ℕ → Bool
has_item set = ltb 0 (length set)

-- a left set is contained in a right set if it has an item (document 02, C-14) and all its items are there. Closed, so that callers
-- use its laws
unfoldable pub contained : List ℕ → List ℕ → Bool
contained left right = has_item left && subset left right
