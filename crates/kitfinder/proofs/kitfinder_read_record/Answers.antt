-- `kitfinder_read_record` meets its contract: the words of what the reader answers.
use mathlib.Core.Path.{ap, ◌∙◌}
use Rattle.tag_file.specs.answers.Words.{read_words}
use Rattle.kitfinder.proofs.kitfinder_read_record.Goals as goal

pub returns : goal.returns
returns c = record { answer = c.read_words.ensures ∙ ap read_words c.read.ensures }
