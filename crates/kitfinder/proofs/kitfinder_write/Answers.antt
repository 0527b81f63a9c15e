-- `kitfinder_write` meets its contract: the words of what the writer answers, and the file that it leaves.
use mathlib.Core.Path.{ap, ◌∙◌}
use Rattle.tag_writer_spec.specs.Writer.{write_words}
use Rattle.kitfinder.proofs.kitfinder_write.Goals as goal

pub returns : goal.returns
returns c =
    record {
      answer = c.write_words.ensures ∙ ap write_words c.write.ensures.answered;
      file = c.write.ensures.file;
    }
