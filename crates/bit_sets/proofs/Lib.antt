-- Laws of sets kept as digits; each function that needs a proof file has its folder beside them.
-- the digits of a word, and the places of those that are 1
pub mod Digits
-- one more member, and the members word by word
pub mod Members
-- the members being written
pub mod Draining
-- how many members a word has, and a range of numbers
pub mod Counted
-- a list: all of it put in, and whether all of it are members
pub mod Parts
-- the lowest digit 1 taken away, digits that two words share
pub mod Lowest
