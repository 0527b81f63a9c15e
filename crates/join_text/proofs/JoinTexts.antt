-- The text of a join, by what the run promises of a call with the program's lists: the text of its answer with the pairs that it
-- filled; and the room for it.
use Prim.Native.Nat.{ℕ, ◌≤◌}
use mathlib.Core.Path.{◌≡◌, refl, sym, ap, ap₂, ◌∙◌}
use mathlib.Core.List.{List}
use native.Mathlib.Omega.{arith}
use lib.ListN.{length}
use Rattle.std.specs.Prelude.{Result, Err, Ok}
use Rattle.inputs.specs.Input.{Input, left_sets, right_sets}
use Rattle.join_spec.specs.PairList.{pair_list}
use Rattle.join_spec.specs.Query.{Settings}
use Rattle.join_spec.specs.Answer.{join_answer, RunCall}
use Rattle.join_spec.proofs.Calls.{call_filled}
use Rattle.tag_file.specs.declared.Repeats.{Repeats}
use Rattle.text.specs.answer_text.AnswerText.{answer_text}
use Rattle.text.specs.answer_text.Inner.{found_pairs, AnswerFits}
use Rattle.join_text.specs.JoinText.{work_words, pair_places, join_text}
use Rattle.join_text.specs.Inner.{text_room}
use Rattle.join_text.proofs.PairPlaces.{places_enough, places_within}
use Rattle.join_spec.specs.declared.Counts.{Counts}
use Rattle.sets.specs.declared.Refusal.{Refusal}

module _ (i : Input) (s : Settings) {work before work' after : List ℕ} (repeats : Repeats) (left_numbers right_numbers : List ℕ) where
  -- the filled part of the pair list is the join's, where the answer has counts
  found_text : (answer : Result Counts Refusal) → RunCall i s work before work' after answer
      → answer_text repeats left_numbers right_numbers (found_pairs answer after) answer
      ≡ answer_text repeats left_numbers right_numbers (pair_list (left_sets i) (right_sets i)) answer
  found_text (Ok counts) call =
      ap (λ (pairs : List ℕ). answer_text repeats left_numbers right_numbers pairs (Ok counts)) (call_filled i s call)
  found_text (Err why) call = refl

  module _ {answer : Result Counts Refusal} (call : RunCall i s work before work' after answer) (places : pair_places ≡ length before) where
    pub call_text : work_words ≡ length work
        → answer_text repeats left_numbers right_numbers (found_pairs answer after) answer ≡ join_text repeats left_numbers right_numbers i s
    unfolding join_text
    call_text words =
        found_text answer call
        ∙ ap (answer_text repeats left_numbers right_numbers (pair_list (left_sets i) (right_sets i)))
        (call.answer ∙ sym (ap₂ (λ (w p : ℕ). join_answer i s (record { words = w; places = p })) words places))

    -- the filled part lies within the pair list, whose length stays, and there is room for the text
    pub answer_fits : (text : List ℕ) → length after ≡ length before → text_room ≤ length text
        → length i.left.ends ≡ length left_numbers → length i.right.ends ≡ length right_numbers
        → AnswerFits answer after left_numbers right_numbers text
    answer_fits text same room lefts rights =
        record {
          filled = λ counts joins. omega (arith, places_enough i s call joins, same);
          within = λ counts joins. places_within i s call joins (length left_numbers) (length right_numbers) lefts rights;
          room = omega arith;
        }
