-- `test_work` meets its contract: the length is compared with what is needed.
use mathlib.Core.Path.{sym}
use Rattle.inputs.proofs.TestLaws.{work_short, enough_work}
use Rattle.inputs.proofs.test_work.Goals as goal

pub returns-then-words-words_needed : goal.returns-then-words-words_needed
returns-then-words-words_needed c = work_short _ _ (rw c.words_needed.ensures at c.if-words-words_needed.true)

pub returns : goal.returns
returns c = sym (enough_work _ _ (rw c.words_needed.ensures at c.if-words-words_needed.false))
