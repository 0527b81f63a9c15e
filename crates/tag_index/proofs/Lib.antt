-- Laws of the tag index; tags as numbers, items, and tags added to a set are on the pages tag_words, tag_items and tag_adding. Each
-- function that needs a proof file has its folder beside them.
pub mod Search
pub mod Ids
pub mod OneTag
