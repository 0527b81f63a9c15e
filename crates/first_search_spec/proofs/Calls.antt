-- What an accepted search shows: what its answer says of the left sets.
use Prim.Native.Nat.{ℕ, ◌≤◌}
use mathlib.Core.Path.{◌≡◌, sym, subst}
use mathlib.Core.List.{List, []}
use lib.ListN.{length}
use Rattle.std.specs.Prelude.{None, Some, Ok}
use Rattle.sets.specs.Collections.{Collection, sets_in, contained}
use Rattle.sets.proofs.Between.{length-sets}
use Rattle.first_search_spec.specs.declared.Search.{Search}
use Rattle.first_search_spec.specs.First.{first_contained, first_answer}
use Rattle.first_search_spec.proofs.FirstLaws.{FoundIn, NoneIn, found_in, none_in, compared_bound}
use Rattle.first_search_spec.proofs.FirstTests.{first_accepted}

-- an accepted search
module _ (T : ℕ) (left : Collection) (right : List ℕ) {f : Search} (search : Ok f ≡ first_answer T left right) where
  -- it is that of the definition
  pub search_is : first_contained (sets_in left) right ≡ f
  search_is = sym (first_accepted T left right search).1

  -- the left set at its place is contained and none before it is; or none is
  pub search_found : {place : ℕ} → f.place ≡ Some place → FoundIn (λ set. contained set right) [] (sets_in left) place f
  search_found {place} =
      subst (λ (s : Search). s.place ≡ Some place → FoundIn (λ set. contained set right) [] (sets_in left) place s) search_is
      (found_in (λ set. contained set right) [] (sets_in left))

  pub search_none : f.place ≡ None → NoneIn (λ set. contained set right) [] (sets_in left) f
  search_none =
      subst (λ (s : Search). s.place ≡ None → NoneIn (λ set. contained set right) [] (sets_in left) s) search_is
      (none_in (λ set. contained set right) [] (sets_in left))

  -- no more left sets are compared than there are
  pub search_compared : f.compared ≤ length left.ends
  search_compared =
      subst (λ (n : ℕ). f.compared ≤ n) (length-sets 0 left.ends left.items)
      (subst (λ (s : Search). s.compared ≤ length (sets_in left)) search_is
      (compared_bound (λ set. contained set right) [] (sets_in left)))
