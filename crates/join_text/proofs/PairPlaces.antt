-- The pair list of an accepted run: it lies within the lent one, and its places within the two collections.
use Prim.Native.Nat.{ℕ, suc, ◌+◌, ◌*◌, ◌<◌, ◌≤◌}
use mathlib.Core.Path.{◌≡◌, refl, sym, subst, ◌∙◌}
use mathlib.Core.List.{List, [], ◌∷◌, ◌++◌}
use mathlib.Core.Bool.{Bool, true, false}
use native.Mathlib.Omega.{arith}
use lib.ListN.{length, take}
use borrow.Author.Tests.{lt-ltb}
use Rattle.std.specs.Prelude.{Result, Ok}
use Rattle.lists.proofs.Bools.{and_both}
use Rattle.sets.specs.Collections.{contained}
use Rattle.inputs.specs.Input.{Input, left_sets, right_sets}
use Rattle.sets.proofs.Between.{length-sets}
use Rattle.join_spec.specs.declared.Counts.{Counts}
use Rattle.join_spec.specs.PairList.{onto_pair, row_from, pairs_from}
use Rattle.join_spec.specs.Query.{Settings}
use Rattle.join_spec.specs.Answer.{room_of, RunCall}
use Rattle.join_spec.proofs.Accepted.{accepted}
use Rattle.join_spec.proofs.AcceptedRuns.{pairs_counted}
use Rattle.join_spec.proofs.Calls.{call_filled}
use Rattle.text.specs.pair_lines.Room.{pairs_within}
use Rattle.sets.specs.declared.Refusal.{Refusal}

module _ (m n : ℕ) where
  row_within : (l r : ℕ) (test : List ℕ → Bool) (rights : List (List ℕ)) (rest : List ℕ) → l < m → r + length rights ≤ n
      → pairs_within m n rest ≡ true → pairs_within m n (row_from test l r rights ++ rest) ≡ true
  unfolding row_from pairs_within
  row_within l r test [] rest in-m in-n e = e
  row_within l r test (right ∷ rights) rest in-m in-n e =
      made (test right) (row_within l (suc r) test rights rest in-m (omega arith) e)
    where
      made : (b : Bool) → pairs_within m n (row_from test l (suc r) rights ++ rest) ≡ true
          → pairs_within m n (onto_pair b l r (row_from test l (suc r) rights) ++ rest) ≡ true
      made true h = and_both (and_both (lt-ltb l m in-m) (lt-ltb r n (omega arith))) h
      made false h = h

  pairs_within_lem : (l : ℕ) (lefts rights : List (List ℕ)) → l + length lefts ≤ m → length rights ≤ n
      → pairs_within m n (pairs_from contained l lefts rights) ≡ true
  unfolding pairs_from pairs_within
  pairs_within_lem l [] rights in-m in-n = refl
  pairs_within_lem l (left ∷ lefts) rights in-m in-n =
      row_within l 0 (contained left) rights (pairs_from contained (suc l) lefts rights) (omega arith) (omega arith)
      (pairs_within_lem (suc l) lefts rights (omega arith) in-n)

-- the filled part of an accepted call's pair list
module _ (i : Input) (s : Settings) {work before work' after : List ℕ} {answer : Result Counts Refusal} {counts : Counts}
    (call : RunCall i s work before work' after answer) (joins : answer ≡ Ok counts) where
  pub places_enough : 2 * counts.pairs ≤ length before
  places_enough =
      let room = room_of work before in
      let right = sym call.answer ∙ joins in
      omega (arith, (accepted i s room counts right).places, pairs_counted i s room counts right)

  pub places_within : (m n : ℕ) → length i.left.ends ≡ m → length i.right.ends ≡ n
      → pairs_within m n (take (2 * counts.pairs) after) ≡ true
  places_within m n left right =
      let joined = subst (λ (a : Result Counts Refusal). RunCall i s work before work' after a) joins call in
      subst (λ (l : List ℕ). pairs_within m n l ≡ true) (sym (call_filled i s joined))
      (pairs_within_lem m n 0 (left_sets i) (right_sets i)
      (omega (arith, length-sets 0 i.left.ends i.left.items))
      (omega (arith, length-sets 0 i.right.ends i.right.items)))
