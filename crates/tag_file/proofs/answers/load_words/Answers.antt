-- `load_words` meets its contract: a case for each variant.
use mathlib.Core.Path.{sym, ap, ◌∙◌}
use Rattle.tag_file.specs.answers.Words.{load_words}
use Rattle.sets.proofs.Words.{refused_words_lem}
use Rattle.tag_file.proofs.answers.load_words.Goals as goal

pub returns-in-Ok : goal.returns-in-Ok
returns-in-Ok c = sym (ap load_words c.in-Ok.is)

pub returns-in-Err : goal.returns-in-Err
returns-in-Err c =
    refused_words_lem c.in-Err.why 7 c.head_of-row.ensures.0 c.head_of-row.ensures.1 c.head_of-row.ensures.2 ∙ sym (ap load_words c.in-Err.is)
