-- Contents: document 01, "Tag file", the writer; then what the inner functions ask for.
pub mod Writer
pub mod Inner
