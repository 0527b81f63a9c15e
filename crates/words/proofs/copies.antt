-- Contents: the law of a whole copy; the function has its folder beside it.
pub mod Copying
