-- The text that the program kitlist prints for a file, from the file's bytes on. Document 01, "The program kitlist"; document 02,
-- C-15. Kits are left sets here and stacks right sets. The text of a join is defined in `join_text`, the line of a refusal in
-- `text`; the first record at fault, what records fill and their repeats are those of the operations.
use Rattle.std.specs.Prelude.{ℕ, List, ltb, length, Result, ⊤}
use Rattle.sets.specs.Refusals.{refuse_if, unless}
use Rattle.sets.specs.declared.Side.TheVariants.{Left, Right}
use Rattle.sets.specs.declared.Refusal.TheVariants.{ShortWork}
use Rattle.inputs.specs.Input.{Input, input_of}
use Rattle.tag_file.specs.Records.{TagRecord, records, tag_table}
use Rattle.tag_file.specs.Repeats.{repeat_totals}
use Rattle.tag_file.specs.Loading.{file_fault, numbers_of, ends_of, flat_items}
use Rattle.text.specs.Lines.{refusal_line}
use Rattle.join_text.specs.JoinText.{program_settings, join_text}
use Rattle.sets.specs.declared.Refusal.{Refusal}

-- the bytes of the longest file that is read
abbrev pub max_file : ℕ
max_file = 65536

-- what records give to the join: their distinct tags as T, and the sets of each side
abbrev pub records_input : List TagRecord → Input
records_input rs =
    input_of (length (tag_table rs)) (ends_of Left rs) (flat_items Left rs) (ends_of Right rs) (flat_items Right rs)

-- the text of records without a fault, with their repeats
abbrev pub records_text : List TagRecord → List ℕ
records_text rs =
    join_text (repeat_totals rs) (numbers_of Left rs) (numbers_of Right rs) (records_input rs) (program_settings (records_input rs))

-- the file is not too long: 7
abbrev pub length_test : List ℕ → Result ⊤ Refusal
length_test file = refuse_if (ltb max_file (length file)) ShortWork

-- the text of a file: refused by its length, by its first record at fault, or what its records give
unfoldable pub listing : List ℕ → List ℕ
listing file = unless refusal_line (length_test file) (unless refusal_line (file_fault file) (records_text (records file)))
