-- Laws of the tests, by topic; each function has its folder beside them.
-- a collection tested as one list: what its ends and falls say of its sets
pub mod WholeList
