-- Laws of the left sets of a node that have no child to visit, without code: the rows of a block, of left sets that end with the path
-- and of those at the limit, how ranges split by their next rank, and a node where the walk does not go on.
pub mod BlockLaws
pub mod BlockVisits
pub mod GoingLaws
pub mod RowsOf
pub mod NodeRows
pub mod LimitLaws
pub mod GroupSteps
pub mod NodeStops
