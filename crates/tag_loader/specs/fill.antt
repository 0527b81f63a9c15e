-- Contents: what filling the loader's lists of a side asks.
pub mod Fill
