-- Contents: the text of a file by its length, and the text of a load, by what is promised of its call.
pub mod Texts
pub mod LoadRoom
pub mod LoadTexts
