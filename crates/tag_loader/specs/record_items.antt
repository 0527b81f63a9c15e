-- Contents: what marking a record's items and writing them ask and promise.
pub mod Marks
