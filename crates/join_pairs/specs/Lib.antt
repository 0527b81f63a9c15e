-- Contents: what writing the pair list asks; then, a page a module, the candidates of a left set, pairs with right sets that are
-- listed, and the pairs of one left set.
pub mod Writing
pub mod shortlists
pub mod row_pairs
pub mod left_search
