-- `record_reader::bucket_of` meets its contract.
use native.Mathlib.Omega.{arith}
use Rattle.record_reader.proofs.Linking.{bucket_of_parts}
use Rattle.record_reader.proofs.bucket_of.Goals as goal

pub returns : goal.returns
returns c =
    record { is = bucket_of_parts c.args.tag.hi c.args.tag.lo c.requires; small = omega arith }
