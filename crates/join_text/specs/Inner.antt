-- Inner: what the functions of the text of a join ask for: numbers for each set, and room for the text.
use Rattle.std.specs.Prelude.{ℕ, ◌+◌, ◌*◌, ◌≤◌, ◌≡◌, List, length}
use Rattle.text.specs.counts_line.Room.{line_room}
use Rattle.text.specs.pair_lines.Room.{pair_room}
use Rattle.text.specs.number_lines.Room.{repeats_room}

-- the bytes of the longest text: the counts, the repeats, and a line for each of 8,192 pairs
abbrev pub text_room : ℕ
text_room = line_room + repeats_room + pair_room * 8192

-- numbers for each set of both sides, and room for the text
pub record Numbered (left_numbers left_ends right_numbers right_ends text : List ℕ) : Type 0 where
  pub lefts : length left_ends ≡ length left_numbers
  pub rights : length right_ends ≡ length right_numbers
  pub room : text_room ≤ length text
