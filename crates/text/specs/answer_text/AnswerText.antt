-- The text that the program kitlist prints for a join's answer, with the repeats that were read with its collections. Document 01,
-- "The program kitlist"; document 02, C-15. Kits are left sets here and stacks right sets. Its lines are defined in specs/Lines.
use Rattle.std.specs.Prelude.{ℕ, List, ◌++◌, Result, Err, Ok}
use Rattle.tag_file.specs.declared.Repeats.{Repeats}
use Rattle.text.specs.Lines.{refusal_line, counts_line, repeats_line, pair_lines}
use Rattle.join_spec.specs.declared.Counts.{Counts}
use Rattle.sets.specs.declared.Refusal.{Refusal}

-- the text of a join's answer: the counts, the repeats and a line for each pair, by its records' numbers; or the refusal alone
abbrev pub answer_text : Repeats → List ℕ → List ℕ → List ℕ → Result Counts Refusal → List ℕ
answer_text repeats left_numbers right_numbers pairs (Ok counts) =
    counts_line counts ++ (repeats_line repeats ++ pair_lines left_numbers right_numbers pairs)
answer_text repeats left_numbers right_numbers pairs (Err why) = refusal_line why
