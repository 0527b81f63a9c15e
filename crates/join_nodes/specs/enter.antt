-- Contents: a node before and after it is entered.
pub mod Entering
