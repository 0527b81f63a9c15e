-- `tag_index::tag_words::word_at` meets its contract.
use mathlib.Core.Path.{sym}
use native.Mathlib.Omega.{arith}
use Rattle.tag_index.proofs.tag_words.Words.{word_bytes}
use Rattle.tag_index.proofs.tag_words.word_at.Goals as goal

pub returns : goal.returns
returns c =
    record {
      is = rw (c.from-a.ensures, c.from-b.ensures, c.from-c.ensures, c.from-d.ensures) (sym (word_bytes c.args.file.now c.args.at c.requires));
      small = omega arith;
    }
