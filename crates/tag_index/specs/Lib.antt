-- Contents: the index of distinct tags that the loader builds over a file; a tag as two numbers; tags added to a set.
pub mod Index
pub mod tag_words
pub mod tag_adding
