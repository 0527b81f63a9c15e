-- A search beside an accepted join over the same left sets, whatever the join's settings and lists: the search is accepted with each
-- right set of the join, and finds the lowest left set that is listed with it; with one right set alone that is the first pair of
-- the list.
use Prim.Native.Nat.{ℕ, ◌*◌, ◌<◌}
use mathlib.Core.Path.{◌≡◌, sym, ap, subst, ◌∙◌}
use mathlib.Core.List.{List, [], ◌∷◌}
use mathlib.Core.Bool.{false}
use native.Mathlib.Nat.{sub-zero}
use native.Mathlib.Omega.{arith}
use lib.Dec.{ltb}
use lib.ListN.{length, get_or, take}
use lib.Seq.{take-take, take-length}
use borrow.Author.Tests.{lt-ltb, ltb-true}
use Rattle.std.specs.Prelude.{None, Some, is_some, Result, Ok}
use Rattle.lists.proofs.Bools.{by_test}
use Rattle.lists.proofs.Throughout.{all_at}
use Rattle.sets.specs.Collections.{sets_from, contained, good_items}
use Rattle.sets.proofs.Good.{all_good}
use Rattle.inputs.specs.Input.{Input, input_of, left_sets, right_sets}
use Rattle.join_spec.specs.declared.Counts.{Counts}
use Rattle.join_spec.specs.PairList.{pair_list, pair_count}
use Rattle.join_spec.specs.Query.{Settings}
use Rattle.join_spec.specs.Answer.{room_of, RunCall}
use Rattle.join_spec.proofs.PairListLaws.{pair_occurs}
use Rattle.join_spec.proofs.Accepted.{accepted}
use Rattle.join_spec.proofs.AcceptedRuns.{pairs_counted}
use Rattle.join_spec.proofs.Calls.{call_filled, call_once}
use Rattle.first_search_spec.specs.declared.Search.{Search}
use Rattle.first_search_spec.specs.First.{first_contained, first_answer}
use Rattle.first_search_spec.proofs.FirstTests.{Searchable, searchable_answer}
use Rattle.first_search_spec.proofs.Calls.{search_is, search_found, search_none}
use Rattle.first_search_laws.proofs.FirstPairs.{first_counted, first_pair}
use Rattle.sets.specs.declared.Refusal.{Refusal}

-- the right set at a place
abbrev pub right_at : Input → ℕ → List ℕ
right_at i p = get_or (right_sets i) p []

module _ (i : Input) (s : Settings) {counts : Counts} {work before work' after : List ℕ}
    (call : RunCall i s work before work' after (Ok counts)) where
  -- where the join is accepted, so is the search with each of its right sets
  module _ (p : ℕ) (there : p < length (right_sets i)) where
    searchable : Searchable i.T i.left (right_at i p)
    searchable =
        let tests = (accepted i s (room_of work before) counts (sym call.answer)).tests in
        let rights-good = all_good i.T i.right.ends i.right.items tests.good.right in
        record {
          few = tests.settings.few_items;
          lefts_good = tests.good.left;
          right_good = all_at (good_items i.T) [] (right_sets i) rights-good p there;
        }

    pub search_accepted : {r : Result Search Refusal} → r ≡ first_answer i.T i.left (right_at i p)
        → r ≡ Ok (first_contained (left_sets i) (right_at i p))
    search_accepted e = e ∙ sym (searchable_answer i.T i.left (right_at i p) searchable)

    -- no pair of it with a left set that is not contained
    pair_absent : (l : ℕ) → (l < length (left_sets i) → contained (get_or (left_sets i) l []) (right_at i p) ≡ false)
        → pair_occurs l p (take (2 * counts.pairs) after) ≡ 0
    pair_absent l out =
        call_once i s call l p
        ∙ by_test (ltb l (length (left_sets i)))
        (λ low. rw (low, lt-ltb p (length (right_sets i)) there, out (ltb-true l (length (left_sets i)) low)))
        (λ high. rw high)

    -- the place found is the lowest of a left set that is listed with it, and where none is found it has no pair
    module _ {f : Search} (search : Ok f ≡ first_answer i.T i.left (right_at i p)) where
      pub search_pair_once : {place : ℕ} → f.place ≡ Some place → pair_occurs place p (take (2 * counts.pairs) after) ≡ 1
      search_pair_once {place} e =
          let at = search_found i.T i.left (right_at i p) search e in
          call_once i s call place p
          ∙ rw (lt-ltb place (length (left_sets i)) at.within, lt-ltb p (length (right_sets i)) there, at.passes)

      pub search_pair_before : {place : ℕ} → f.place ≡ Some place → (l : ℕ) → l < place → pair_occurs l p (take (2 * counts.pairs) after) ≡ 0
      search_pair_before e l low =
          pair_absent l (λ inside. (search_found i.T i.left (right_at i p) search e).before l low)

      pub search_pair_none : f.place ≡ None → (l : ℕ) → pair_occurs l p (take (2 * counts.pairs) after) ≡ 0
      search_pair_none e l = pair_absent l ((search_none i.T i.left (right_at i p) search e).none l)

  -- one right set alone, however it is lent
  module _ (right : List ℕ) (alone : right_sets i ≡ right ∷ []) where
    pub alone_accepted : {r : Result Search Refusal} → r ≡ first_answer i.T i.left right → r ≡ Ok (first_contained (left_sets i) right)
    alone_accepted {r} =
        subst (λ (set : List ℕ). r ≡ first_answer i.T i.left set → r ≡ Ok (first_contained (left_sets i) set))
        (ap (λ (sets : List (List ℕ)). get_or sets 0 []) alone) (search_accepted 0 (rw alone (omega arith)))

    module _ {f : Search} (search : Ok f ≡ first_answer i.T i.left right) where
      -- a left set is found exactly where the join has a pair
      pub alone_found : is_some f.place ≡ ltb 0 counts.pairs
      alone_found =
          ap (λ (g : Search). is_some g.place) (sym (search_is i.T i.left right search))
          ∙ first_counted contained right 0 (left_sets i)
          ∙ ap (ltb 0)
          (sym
          (pairs_counted i s (room_of work before) counts (sym call.answer) ∙ ap (pair_count (left_sets i)) alone))

      -- and its place is that of the first pair
      pub alone_place : {place : ℕ} → f.place ≡ Some place → take 2 after ≡ place ∷ 0 ∷ []
      alone_place {place} e =
          let some = ltb-true 0 counts.pairs (sym alone_found ∙ ap is_some e) in
          sym (take-take 2 (2 * counts.pairs) after (omega (arith, some)))
          ∙ ap (take 2) (call_filled i s call ∙ ap (pair_list (left_sets i)) alone)
          ∙ subst (λ (g : Search). g.place ≡ Some place → take 2 (pair_list (left_sets i) (right ∷ [])) ≡ place ∷ 0 ∷ [])
          (search_is i.T i.left right search) (first_pair contained right 0 (left_sets i)) e

-- as a search has it: its items are the whole list
pub alone_input : (T : ℕ) (ends items right : List ℕ) → right_sets (input_of T ends items (length right ∷ []) right) ≡ right ∷ []
unfolding sets_from
alone_input T ends items right = rw (sub-zero (length right), take-length right)
