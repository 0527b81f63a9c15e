-- Laws of gathering; each function has its folder beside them.
pub mod Gathering
