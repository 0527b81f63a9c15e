-- Contents: decimal numbers, and the bytes that a word before a number takes at most. The lines are on the pages of their modules.
pub mod Decimals
pub mod LineBounds
