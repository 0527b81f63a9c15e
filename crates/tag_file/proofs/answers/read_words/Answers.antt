-- `read_words` meets its contract: a case for each variant.
use mathlib.Core.Path.{sym, ap, ◌∙◌}
use Rattle.tag_file.specs.answers.Words.{words_read}
use Rattle.sets.proofs.Words.{refused_words_lem, side_words}
use Rattle.tag_file.proofs.answers.read_words.Goals as goal

pub returns-in-Record : goal.returns-in-Record
returns-in-Record c =
    side_words c.from.ensures
    ∙ sym (ap (λ a. words_read a c.args.read.repeats) c.in-Record.is)

pub returns-in-Refused : goal.returns-in-Refused
returns-in-Refused c =
    refused_words_lem c.in-Refused.why 7 c.head_of-head.ensures.0 c.head_of-head.ensures.1 c.head_of-head.ensures.2
    ∙ sym (ap (λ a. words_read a c.args.read.repeats) c.in-Refused.is)
