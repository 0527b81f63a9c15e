-- `tag_scan::used_numbers::claim` meets its contract.
use native.Mathlib.Omega.{arith}
use Rattle.tag_scan.proofs.used_numbers.Numbers.{key_bound}
use Rattle.tag_scan.proofs.used_numbers.claim.Goals as goal

pub claim-requires : goal.claim-requires
claim-requires c =
    let bound = key_bound c.args.side c.args.number c.ranges.number.fits in
    omega (arith, c.requires, c.key_of.ensures, bound)

pub returns : goal.returns
returns c =
    rw c.key_of.ensures at c.claim.ensures
