-- Laws of the definitions of collections, rank tables and marks, by topic; `Sets` has its folder beside them.
-- `between`, and the number of sets
pub mod Between
-- what a collection without a bad set has
pub mod Good
-- the item entries of a collection as one list
pub mod Entries
-- rank tables that are permutations
pub mod Permutation
-- sets in rank order
pub mod Ordered
-- containment
pub mod Containment
-- marks: the bit of an item; what is dropped is not contained
pub mod Positions
pub mod Signatures
-- the words of a refusal
pub mod Words
-- tests one after the other
pub mod Testing
