-- Inner: what the writing of an answer asks for: pairs that are there and have numbers, and room for the text.
use Rattle.std.specs.Prelude.{ℕ, ◌+◌, ◌*◌, ◌≤◌, ◌≡◌, List, [], true, length, take, Result, Err, Ok}
use Rattle.join_spec.specs.declared.Counts.{Counts}
use Rattle.text.specs.counts_line.Room.{line_room}
use Rattle.text.specs.pair_lines.Room.{pairs_within}
use Rattle.text.specs.number_lines.Room.{repeats_room}
use Rattle.sets.specs.declared.Refusal.{Refusal}

-- the filled part of a pair list, by the answer that came with it; none if it refuses
abbrev pub found_pairs : Result Counts Refusal → List ℕ → List ℕ
found_pairs (Ok counts) pairs = take (2 * counts.pairs) pairs
found_pairs (Err why) pairs = []

-- the filled part is within the pair list, its places have numbers, and there is room for the text
pub record AnswerFits (answer : Result Counts Refusal) (pairs left_numbers right_numbers text : List ℕ) : Type 0 where
  pub filled : (counts : Counts) → answer ≡ Ok counts → 2 * counts.pairs ≤ length pairs
  pub within : (counts : Counts) → answer ≡ Ok counts
      → pairs_within (length left_numbers) (length right_numbers) (take (2 * counts.pairs) pairs) ≡ true
  pub room : line_room + repeats_room + 6 * length pairs ≤ length text
