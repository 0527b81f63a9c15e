-- `words::flags::clear_flags` meets its contract.
use Rattle.words.proofs.flags.Flagging.{clear_none}
use Rattle.words.proofs.flags.clear_flags.Goals as goal

pub returns : goal.returns
returns c = clear_none
