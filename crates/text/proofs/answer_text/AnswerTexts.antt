-- The text of an answer with counts and of a refusal, and the room for the lines of its pairs after those of the counts and the
-- repeats.
use Prim.Native.Nat.{ℕ, ◌+◌, ◌*◌, ◌≤◌}
use mathlib.Core.Path.{◌≡◌, sym, ap}
use mathlib.Core.List.{List, ◌++◌}
use native.Mathlib.Omega.{arith}
use lib.ListN.{length, take}
use lib.Seq.{length-take-le}
use Rattle.std.specs.Prelude.{Result, Err, Ok}
use Rattle.sets.specs.declared.Refusal.{Refusal}
use Rattle.join_spec.specs.declared.Counts.{Counts}
use Rattle.tag_file.specs.declared.Repeats.{Repeats}
use Rattle.text.specs.counts_line.Room.{line_room}
use Rattle.text.specs.pair_lines.Room.{PairsRoom}
use Rattle.text.specs.Lines.{refusal_line, counts_line, repeats_line, pair_lines}
use Rattle.text.specs.number_lines.Room.{repeats_room}
use Rattle.text.specs.answer_text.AnswerText.{answer_text}
use Rattle.text.specs.answer_text.Inner.{found_pairs, AnswerFits}

module _ (repeats : Repeats) (left_numbers right_numbers pairs : List ℕ) {answer : Result Counts Refusal} where
  pub text_joined : {counts : Counts} → answer ≡ Ok counts
      → counts_line counts ++ (repeats_line repeats ++ pair_lines left_numbers right_numbers (take (2 * counts.pairs) pairs))
      ≡ answer_text repeats left_numbers right_numbers (found_pairs answer pairs) answer
  text_joined is = sym (ap (λ (a : Result Counts Refusal). answer_text repeats left_numbers right_numbers (found_pairs a pairs) a) is)

  pub text_refused : {why : Refusal} → answer ≡ Err why
      → refusal_line why ≡ answer_text repeats left_numbers right_numbers (found_pairs answer pairs) answer
  text_refused is = sym (ap (λ (a : Result Counts Refusal). answer_text repeats left_numbers right_numbers (found_pairs a pairs) a) is)

pub lines_room : {answer : Result Counts Refusal} {pairs left_numbers right_numbers text : List ℕ} {counts : Counts}
    → AnswerFits answer pairs left_numbers right_numbers text → answer ≡ Ok counts
    → (now : List ℕ) (n : ℕ) → n ≤ line_room + repeats_room → length now ≡ length text
    → PairsRoom now n (take (2 * counts.pairs) pairs) left_numbers right_numbers
lines_room {answer} {pairs} {left_numbers} {right_numbers} {text} {counts} fits is now n low same =
    record {
      within = fits.within counts is;
      room = omega (arith, fits.room, fits.filled counts is, length-take-le (2 * counts.pairs) pairs (fits.filled counts is));
    }
