-- Laws of the signatures: of one set, and of the sets of both sides; the table of bits is on the page item_bits. Each function that
-- needs a proof file has its folder beside them.
pub mod Signing
pub mod SigningSets
