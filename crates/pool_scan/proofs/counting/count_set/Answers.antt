-- `pool_scan::counting::count_set` meets its contract: by what the counts and the first set too long are with it.
use Rattle.pool_scan.proofs.counting.count_set.Goals as goal

pub returns : goal.returns
returns c = rw (c.grown_by-total.ensures, c.first_long-long.ensures)
