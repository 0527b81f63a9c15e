-- `kept_rows::keep_row` meets its contract: the two stores.
use mathlib.Core.Path.{refl}
use Rattle.kept_rows.proofs.keep_row.Goals as goal

pub returns : goal.returns
returns c = refl
