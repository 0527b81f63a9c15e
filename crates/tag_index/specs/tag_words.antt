-- Contents: a tag as two numbers.
pub mod Words
