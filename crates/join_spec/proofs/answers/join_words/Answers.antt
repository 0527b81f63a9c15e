-- `join_words` meets its contract: a case for each variant.
use mathlib.Core.Path.{sym, ap, ◌∙◌}
use Rattle.join_spec.specs.Answer.{join_words}
use Rattle.sets.proofs.Words.{refused_words_lem}
use Rattle.join_spec.proofs.answers.join_words.Goals as goal

pub returns-in-Ok : goal.returns-in-Ok
returns-in-Ok c = sym (ap join_words c.in-Ok.is)

pub returns-in-Err : goal.returns-in-Err
returns-in-Err c =
    refused_words_lem c.in-Err.why 6 c.head_of-head.ensures.0 c.head_of-head.ensures.1 c.head_of-head.ensures.2 ∙ sym (ap join_words c.in-Err.is)
