-- `write_words` meets its contract: a case for each variant.
use mathlib.Core.Path.{sym, ap, ◌∙◌}
use Rattle.tag_writer_spec.specs.Writer.{write_words}
use Rattle.sets.proofs.Words.{refused_words_lem}
use Rattle.tag_writer_spec.proofs.write_words.Goals as goal

pub returns-in-Ok : goal.returns-in-Ok
returns-in-Ok c = sym (ap write_words c.in-Ok.is)

pub returns-in-Err : goal.returns-in-Err
returns-in-Err c =
    refused_words_lem c.in-Err.why 1 c.head_of-head.ensures.0 c.head_of-head.ensures.1 c.head_of-head.ensures.2 ∙ sym (ap write_words c.in-Err.is)
