-- The number of a join's answer, which is the first of its words: what it says of the answer, and of an answer that the walk gave.
-- And which refusals of a join leave every list as it was.
use Prim.Native.Nat.{ℕ, ◌*◌, ◌<◌, ◌≤◌}
use mathlib.Core.Path.{◌≡◌, refl, sym, ap, subst, ◌∙◌}
use mathlib.Core.Logic.{◌↔◌}
use mathlib.Core.Bool.{Bool, true, false, cond}
use native.Mathlib.Omega.{arith}
use borrow.Author.Tests.{ltb-true, ltb-false}
use lib.Dec.{ltb}
use Rattle.std.specs.Prelude.{Result, Err, Ok, ⊤}
use Rattle.sets.specs.Refusals.{row_of, clears, unless}
use Rattle.sets.specs.declared.Refusal.{Refusal}
use Rattle.sets.specs.declared.Refusal.TheVariants.{Spent, ShortPairs}
use Rattle.demands.proofs.Words.{number_some}
use Rattle.inputs.specs.Input.{Input, left_sets, right_sets}
use Rattle.join_spec.specs.PairList.{pair_count}
use Rattle.join_spec.specs.Query.{Settings, query_of}
use Rattle.join_spec.specs.Counting.{counts_of, checks_of}
use Rattle.join_spec.specs.Answer.{Room, join_tests, walk_answer, join_answer, join_words}
use Rattle.join_spec.proofs.Accepted.{tests_passed, early_keeps, answer_tested}
use Rattle.demands.specs.Finding.{Settled, number_told, counts_told}
use Rattle.join_spec.specs.declared.Counts.{Counts}

-- an answer with the number 0 is accepted, with the counts among its words
pub joined_told : (r : Result Counts Refusal) → number_told (join_words r) ≡ 0 → r ≡ Ok (counts_told (join_words r))
joined_told (Ok counts) e = refl
joined_told (Err why) e = absurd (omega (arith, number_some why))

-- the number by two tests: whether the checks are above the budget, whether the pairs are above the places
module _ (budget checks places needed : ℕ) where
  abbrev number : Bool → Bool → ℕ
  number above short = cond above 8 (cond short 9 0)

  spent_if : (above short : Bool) → ltb budget checks ≡ above → (number above short ≡ 8) ↔ (budget < checks)
  spent_if true short e = (λ n. ltb-true budget checks e, λ h. refl)
  spent_if false true e = (λ n. absurd (omega arith), λ h. absurd (omega (arith, ltb-false budget checks e)))
  spent_if false false e = (λ n. absurd (omega arith), λ h. absurd (omega (arith, ltb-false budget checks e)))

  accepted_if : (above short : Bool) → ltb budget checks ≡ above → ltb places needed ≡ short
      → (number above short ≡ 0) ↔ ((checks ≤ budget) × (needed ≤ places))
  accepted_if true short e d = (λ n. absurd (omega arith), λ h. absurd (omega (arith, h.0, ltb-true budget checks e)))
  accepted_if false true e d = (λ n. absurd (omega arith), λ h. absurd (omega (arith, h.1, ltb-true places needed d)))
  accepted_if false false e d = (λ n. (ltb-false budget checks e, ltb-false places needed d), λ h. refl)

  short_if : (above short : Bool) → ltb budget checks ≡ above → ltb places needed ≡ short
      → (number above short ≡ 9) ↔ ((checks ≤ budget) × (places < needed))
  short_if true short e d = (λ n. absurd (omega arith), λ h. absurd (omega (arith, h.0, ltb-true budget checks e)))
  short_if false true e d = (λ n. (ltb-false budget checks e, ltb-true places needed d), λ h. refl)
  short_if false false e d = (λ n. absurd (omega arith), λ h. absurd (omega (arith, h.1, ltb-false places needed d)))

module _ (i : Input) (s : Settings) (room : Room) where
  abbrev sum : ℕ
  sum = checks_of (query_of i s)

  abbrev needed : ℕ
  needed = 2 * pair_count (left_sets i) (right_sets i)

  -- the number of an answer that passed the tests before the walk
  number_is : join_tests i s.limit s.ranks room.words ≡ Ok tt
      → number_told (join_words (join_answer i s room))
      ≡ number s.budget sum room.places needed (ltb s.budget sum) (ltb room.places needed)
  unfolding walk_answer
  number_is passed =
      ap (λ (r : Result Counts Refusal). number_told (join_words r))
      (answer_tested i s room (tests_passed i s.limit s.ranks room.words passed))
      ∙ by (ltb s.budget sum) (ltb room.places needed)
    where
      by : (above short : Bool)
          → number_told (join_words (cond above (Err Spent) (cond short (Err ShortPairs) (Ok (counts_of (query_of i s))))))
          ≡ number s.budget sum room.places needed above short
      by true short = refl
      by false true = refl
      by false false = refl

  pub answer_settled : join_tests i s.limit s.ranks room.words ≡ Ok tt
      → Settled i s room.places (number_told (join_words (join_answer i s room)))
  answer_settled passed =
      subst (Settled i s room.places) (sym (number_is passed))
      (record {
        spent = spent_if s.budget sum room.places needed (ltb s.budget sum) (ltb room.places needed) refl;
        accepted = accepted_if s.budget sum room.places needed (ltb s.budget sum) (ltb room.places needed) refl refl;
        short = short_if s.budget sum room.places needed (ltb s.budget sum) (ltb room.places needed) refl refl;
      })

  -- a refusal with another number than 8 and 9 came before the walk, and leaves every list as it was
  pub refused_early : {why : Refusal} → join_answer i s room ≡ Err why → ((row_of why).number ≡ 8 → ⊥)
      → ((row_of why).number ≡ 9 → ⊥) → clears why ≡ false
  unfolding join_answer walk_answer
  refused_early {why} e not_spent not_short = go (join_tests i s.limit s.ranks room.words) refl e
    where
      walked : (above short : Bool)
          → cond above (Err Spent) (cond short (Err ShortPairs) (Ok (counts_of (query_of i s)))) ≡ Err why → ⊥
      walked true short h = let same : why ≡ Spent = cc in not_spent (ap (λ (w : Refusal). (row_of w).number) same)
      walked false true h = let same : why ≡ ShortPairs = cc in not_short (ap (λ (w : Refusal). (row_of w).number) same)
      walked false false h = let z : ◌≡◌ {A = ℕ} 0 1 = cc in absurd (omega arith)

      go : (t : Result ⊤ Refusal) → join_tests i s.limit s.ranks room.words ≡ t
          → unless Err t (walk_answer (query_of i s) s.budget room.places) ≡ Err why → clears why ≡ false
      go (Ok _) is h = absurd (walked (ltb s.budget sum) (ltb room.places needed) h)
      go (Err w) is h =
          let same : w ≡ why = cc in
          early_keeps i s.limit s.ranks room.words (is ∙ ap Err same)
