-- The lines that the program kitlist prints, as bytes. Document 01, "The program kitlist": "A refusal prints `refused`, number,
-- detail"; the line of the six counts; "Then come kit number and stack number, a line per pair, decimal". Document 02, C-15: "a
-- line `repeats`, kit total, stack total, after the line of counts".
use Rattle.std.specs.Prelude.{ℕ, zero, suc, ◌+◌, ◌/◌, ◌%◌, List, [], ◌∷◌, ◌++◌, cond, ltb, get_or}
use Prim.Native.String.{String, len, char_at}
use Prim.Native.Char.{code}
use Rattle.sets.specs.declared.Refusal.{Refusal}
use Rattle.sets.specs.Refusals.{row_of}
use Rattle.join_spec.specs.declared.Counts.{Counts}
use Rattle.tag_file.specs.declared.Repeats.{Repeats}

-- n characters of a text from a place on, by their codes
abbrev pub codes_from : ℕ → ℕ → String → List ℕ
codes_from zero place text = []
codes_from (suc n) place text = code (char_at text place) ∷ codes_from n (suc place) text

-- a text of plain characters as bytes
abbrev pub ascii : String → List ℕ
ascii text = codes_from (len text) 0 text

-- the character of a digit
abbrev pub digit : ℕ → ℕ
digit d = 48 + d

-- a number in decimal, most significant digit first; fuel many digits at most
unfoldable pub decimal_from : ℕ → ℕ → List ℕ
decimal_from zero n = []
decimal_from (suc fuel) n = cond (ltb n 10) (digit n ∷ []) (decimal_from fuel (n / 10) ++ (digit (n % 10) ∷ []))

-- the same with fuel enough: no leading zeros, and 0 has its own digit
unfoldable pub decimal : ℕ → List ℕ
decimal n = decimal_from (suc n) n

-- a word before a number
abbrev pub labelled : List ℕ → ℕ → List ℕ
labelled word n = word ++ decimal n

-- a refusal with this number and detail
unfoldable pub refused_line : ℕ → ℕ → List ℕ
refused_line number detail = labelled (ascii "refused ") number ++ (labelled (ascii " ") detail ++ ascii "\n")

-- the line of a refusal, by its row of the table. Only 5 returns a second number, and the program never refuses with 5
abbrev pub refusal_line : Refusal → List ℕ
refusal_line why = refused_line (row_of why).number (row_of why).first

-- the six counts
unfoldable pub counts_line : Counts → List ℕ
counts_line counts =
    labelled (ascii "pairs ") counts.pairs
    ++ (labelled (ascii " path ") counts.by_path
    ++ (labelled (ascii " confirmed ") counts.confirmed
    ++ (labelled (ascii " checks ") counts.checks
    ++ (labelled (ascii " dropped ") counts.dropped
    ++ (labelled (ascii " false ") counts.false_drops ++ ascii "\n")))))

-- the repeats of each side: the left total and the right one
unfoldable pub repeats_line : Repeats → List ℕ
repeats_line repeats = labelled (ascii "repeats ") repeats.left ++ (labelled (ascii " ") repeats.right ++ ascii "\n")

-- a pair of records: the left one's number and the right one's
unfoldable pub pair_line : ℕ → ℕ → List ℕ
pair_line left right = decimal left ++ (labelled (ascii " ") right ++ ascii "\n")

-- a line for each pair of places, by the record numbers at these places
unfoldable pub pair_lines : List ℕ → List ℕ → List ℕ → List ℕ
pair_lines left_numbers right_numbers [] = []
pair_lines left_numbers right_numbers (l ∷ []) = []
pair_lines left_numbers right_numbers (l ∷ r ∷ pairs) =
    pair_line (get_or left_numbers l 0) (get_or right_numbers r 0) ++ pair_lines left_numbers right_numbers pairs
