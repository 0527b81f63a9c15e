-- Laws of a node, without code: what a row is where a walk ends or goes on, the ranges of left sets in the order, the decision and the
-- candidates at a node, and how visits of one part after another make one. Those of one module alone are on the pages blocks, lone and
-- enter.
pub mod Asked
pub mod PathLaws
pub mod RowLaws
pub mod Groups
pub mod Prefixes
pub mod NodeLaws
pub mod Narrowing
pub mod CandidateLaws
pub mod VisitLaws
pub mod RangeLaws
pub mod NodeFacts
pub mod FrameLaws
pub mod PartLoop
