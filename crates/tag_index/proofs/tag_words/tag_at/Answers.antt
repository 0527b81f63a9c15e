-- `tag_index::tag_words::tag_at` meets its contract.
use mathlib.Core.Path.{sym}
use Rattle.tag_index.proofs.tag_words.Words.{tag_words}
use Rattle.tag_index.proofs.tag_words.tag_at.Goals as goal

pub returns : goal.returns
returns c =
    record {
      is = rw (c.word_at-a.ensures.is, c.word_at-b.ensures.is, c.word_at-c.ensures.is) (sym (tag_words c.args.file.now c.args.at c.requires));
      small = c.word_at-c.ensures.small;
    }
