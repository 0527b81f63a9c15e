-- Contents: what is asked and promised of the tags of one set.
pub mod Union
