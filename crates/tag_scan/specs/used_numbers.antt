-- Contents: where a used number is noted.
pub mod Keys
