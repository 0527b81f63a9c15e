-- `kitfinder_join` meets its contract: the words of the answer, and the lists that the join leaves.
use mathlib.Core.Path.{ap, ◌∙◌}
use Rattle.join_spec.specs.Answer.{join_words}
use Rattle.join.proofs.ByNumber.{call_right}
use Rattle.kitfinder.proofs.kitfinder_join.Goals as goal

pub returns : goal.returns
returns c =
    record {
      answer = c.join_words.ensures ∙ ap join_words c.run_numbered.ensures.answer;
      lists = call_right c.run_numbered.ensures;
    }
