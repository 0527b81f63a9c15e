-- `pool_scan::counting::first_long` meets its contract: a case for what was before.
use mathlib.Core.Path.{◌∙◌}
use Rattle.std.proofs.Common.{arith}
use Rattle.sets.specs.declared.Refusal.TheVariants.{Overlong}
use Rattle.sets.proofs.Testing.{handed_on}
use Rattle.pool_scan.proofs.counting.Longest.{long_before, long_now, long_not}
use Rattle.pool_scan.proofs.counting.first_long.Goals as goal

pub returns-in_err-before : goal.returns-in_err-before
returns-in_err-before c =
    handed_on c.from_residual.result c.from_residual.ensures.1 ∙ long_before _ c.args.all (Overlong c.args.place) c.in_err-before.was

pub returns-then-all-gt-MAX_SET_LENGTH : goal.returns-then-all-gt-MAX_SET_LENGTH
returns-then-all-gt-MAX_SET_LENGTH c =
    long_now _ c.args.all (Overlong c.args.place) c.in_ok-before.was c.if-all-gt-MAX_SET_LENGTH.true

pub returns : goal.returns
returns c = long_not _ c.args.all (Overlong c.args.place) c.in_ok-before.was (omega (arith, c.if-all-gt-MAX_SET_LENGTH.false))
