-- Laws of a lone left set, without code.
pub mod LoneSets
