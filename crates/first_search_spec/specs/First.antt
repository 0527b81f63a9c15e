-- The first left set that is contained in one right set, and how many were compared to find it. Document 02, C-12 (a left set is a kit
-- there, and the right set a stack). The search is over elements of any kind and any test of one. In plain words it is `FoundIn` and
-- `NoneIn` of proofs/FirstLaws.antt: the element at its place passes and none before it does, or none passes at all.
use Rattle.std.specs.Prelude.{ℕ, suc, List, [], ◌∷◌, Bool, cond, Option, None, Some, Result, Err, Ok, ⊤}
use Rattle.sets.specs.Collections.{Collection, sets_in, contained}
use Rattle.sets.specs.Refusals.{unless, accepted_words, refused_words}
use Rattle.sets.specs.declared.Side.TheVariants.{Left}
use Rattle.inputs.specs.Tests.{items_test, side_test, lone_test}
use Rattle.first_search_spec.specs.declared.Search.{Search}
use Rattle.sets.specs.declared.Refusal.{Refusal}

-- found at a place: all up to it were compared
abbrev pub found_at : ℕ → Search
found_at place = record { place = Some place; compared = suc place }

-- not among so many, all of them compared
abbrev pub none_of : ℕ → Search
none_of many = record { place = None; compared = many }

-- the first element that passes the test, with the head at place k; all up to it were compared, or k and the whole list
unfoldable pub first_from : {A : Type 0} → (A → Bool) → ℕ → List A → Search
first_from test k [] = none_of k
first_from test k (x ∷ xs) = cond (test x) (found_at k) (first_from test (suc k) xs)

-- the first left set that is contained in the right set
abbrev pub first_contained : List (List ℕ) → List ℕ → Search
first_contained lefts right = first_from (λ left. contained left right) 0 lefts

-- the tests of what is lent, the right set as its items alone: 6, 5 of the left sets, 5 of the right set at place 0
unfoldable pub first_test : ℕ → Collection → List ℕ → Result ⊤ Refusal
first_test T left right = unless Err (items_test T) (unless Err (side_test T Left left) (lone_test T 0 right))

-- the answer
unfoldable pub first_answer : ℕ → Collection → List ℕ → Result Search Refusal
first_answer T left right = unless Err (first_test T left right) (Ok (first_contained (sets_in left) right))

-- the words of a place: 1 and the place, or 0 and 0 if there is none; then others
abbrev pub place_words : Option ℕ → List ℕ → List ℕ
place_words (Some place) others = 1 ∷ place ∷ others
place_words None others = 0 ∷ 0 ∷ others

-- the words of an answer: found (1 or 0), place, compared; three zeros in a refusal
abbrev pub first_words : Result Search Refusal → List ℕ
first_words (Ok s) = accepted_words (place_words s.place (s.compared ∷ []))
first_words (Err why) = refused_words why 3
