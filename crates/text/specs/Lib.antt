-- Contents: what the program kitlist prints, line by line, and the room that two numbers need; then the room of each line, and the
-- text of a join's answer.
pub mod Lines
pub mod Room
pub mod counts_line
pub mod pair_lines
pub mod number_lines
pub mod answer_text
