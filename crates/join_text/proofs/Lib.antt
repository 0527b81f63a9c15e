-- Contents: filled texts, the texts of a join and of an order, by what is promised of their calls.
pub mod Texts
pub mod PairPlaces
pub mod JoinTexts
pub mod OrderTexts
