-- `pool_loader::answer::decide` meets its contract: case by case.
use mathlib.Core.Path.{◌∙◌}
use Rattle.sets.proofs.Testing.{handed_on}
use Rattle.pool_loader.proofs.answer.Cases.{decided_first, decided_short, decided_long, decided_loaded}
use Rattle.pool_loader.proofs.answer.decide.Goals as goal

pub has_room-requires : goal.has_room-requires
has_room-requires c = c.requires _ _ c.in_ok-total.was

pub returns-in_err-total : goal.returns-in_err-total
returns-in_err-total c = handed_on c.from_residual.result c.from_residual.ensures.1 ∙ decided_first _ _ _ c.in_err-total.was

pub returns-then-not-has_room : goal.returns-then-not-has_room
returns-then-not-has_room c = decided_short _ _ _ c.in_ok-total.was c.has_room.ensures c.if-not-has_room.true-raw

pub returns-in_err-long : goal.returns-in_err-long
returns-in_err-long c =
    handed_on c.from_residual-in_err-long.result c.from_residual-in_err-long.ensures.1
    ∙ decided_long _ _ _ c.in_ok-total.was c.has_room.ensures c.if-not-has_room.false-raw c.in_err-long.was

pub returns : goal.returns
returns c = decided_loaded _ _ _ c.in_ok-total.was c.has_room.ensures c.if-not-has_room.false-raw c.in_ok-long.was
