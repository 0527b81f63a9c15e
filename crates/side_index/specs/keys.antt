-- Contents: the sets in the work list, and the keys of their sorts.
pub mod SetKeys
