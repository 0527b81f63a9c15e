-- `first_words` meets its contract: a case for each variant.
use mathlib.Core.Path.{sym, ap, ◌∙◌}
use Rattle.sets.proofs.Words.{refused_words_lem}
use Rattle.first_search_spec.specs.First.{first_words}
use Rattle.first_search_spec.proofs.first_words.Goals as goal

pub returns-in-Err : goal.returns-in-Err
returns-in-Err c =
    refused_words_lem c.in-Err.why 3 c.head_of-head.ensures.0 c.head_of-head.ensures.1 c.head_of-head.ensures.2 ∙ sym (ap first_words c.in-Err.is)
