-- Laws of the loader's lists and answer; what is filled is on the pages tag_table, record_items and fill. Each function that needs a
-- proof file has its folder beside them.
pub mod Rooms
pub mod Answers
