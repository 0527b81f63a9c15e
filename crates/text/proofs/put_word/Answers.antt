-- `text::put_word` meets its contract: the word stands where there was room for it.
use Rattle.std.proofs.Common.{refl, arith}
use Rattle.std.proofs.lemmas.Grind.{common_steps}
use Rattle.std.proofs.lemmas.List.Edits.{sets-eq}
use Rattle.std.proofs.lemmas.Slice.{overwrites}
use Rattle.text.proofs.put_word.Goals as goal

pub returns : goal.returns
returns c = record {
  written = rw (sets-eq c.args.word.now c.args.text.now c.args.at c.requires) (grind (arith, common_steps, overwrites, c.copy_from_slice.ensures.after));
  past = refl;
}
