-- Laws of one side's index: its item entries, what the groups of its sorts are, where its sets begin, its two halves, what it holds in
-- a later work list, and under the ranks 0 to T - 1. The loops are on the pages keys, key_lists, inverted and turned.
pub mod SideEntries
pub mod Inverting
pub mod Holders
pub mod SideStarts
pub mod SideSorts
pub mod SideReads
pub mod ByItem
