-- Contents: document 01, "Tag file", in its order, with document 02, C-15; then the words of the answers.
pub mod Format
pub mod Reading
pub mod Records
pub mod Repeats
pub mod Loading
pub mod answers
