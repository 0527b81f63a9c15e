-- Inner: what is shared by the lines of two numbers, and the bytes that it takes at most.
use Rattle.std.specs.Prelude.{ℕ, ◌+◌, ◌*◌, List, ◌++◌}
use Rattle.text.specs.Lines.{ascii, labelled}

-- a line of two numbers behind a word
abbrev pub two_numbers : List ℕ → ℕ → ℕ → List ℕ
two_numbers word first second = labelled word first ++ (labelled (ascii " ") second ++ ascii "\n")

-- what follows the word: 64-bit numbers have at most 20 digits each
abbrev pub numbers_room : ℕ
numbers_room = 2 + 2 * 20
