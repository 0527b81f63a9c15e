-- Inner: the two halves of the counts, and the bytes that they take at most.
use Rattle.std.specs.Prelude.{ℕ, ◌+◌, ◌*◌, List, ◌++◌}
use Rattle.join_spec.specs.declared.Counts.{Counts}
use Rattle.text.specs.Lines.{ascii, labelled}

-- a count: a 32-bit number has at most 10 digits
abbrev pub count_room : ℕ
count_room = 10

-- the counts of pairs: their words have 23 bytes
abbrev pub pair_counts : Counts → List ℕ
pair_counts counts =
    labelled (ascii "pairs ") counts.pairs
    ++ (labelled (ascii " path ") counts.by_path ++ labelled (ascii " confirmed ") counts.confirmed)

abbrev pub pair_counts_room : ℕ
pair_counts_room = 23 + 3 * count_room

-- the counts of checks, and the line feed: their words have 25 bytes with it
abbrev pub check_counts : Counts → List ℕ
check_counts counts =
    labelled (ascii " checks ") counts.checks
    ++ (labelled (ascii " dropped ") counts.dropped ++ (labelled (ascii " false ") counts.false_drops ++ ascii "\n"))

abbrev pub check_counts_room : ℕ
check_counts_room = 25 + 3 * count_room

-- a first line: the words of the counts have 48 bytes
abbrev pub line_room : ℕ
line_room = 48 + 6 * count_room
