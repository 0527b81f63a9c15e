-- `kept_rows::clear_rows` meets its contract: the first words of the rows become zeros.
use Rattle.kept_rows.proofs.Clearing.{clearing_end}
use Rattle.kept_rows.proofs.clear_rows.Goals as goal

pub returns : goal.returns
returns c = clearing_end c.requires (c.fill.ensures.after (λ y same. same))
