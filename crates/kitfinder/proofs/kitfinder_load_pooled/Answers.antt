-- `kitfinder_load_pooled` meets its contract: the words of the answer, and the seven lists that the pooled load leaves.
use mathlib.Core.Path.{ap, ◌∙◌}
use Rattle.tag_file.specs.answers.Words.{load_words}
use Rattle.pool_loader_spec.proofs.Calls.{call_defined}
use Rattle.kitfinder.proofs.kitfinder_load_pooled.Goals as goal

pub returns : goal.returns
returns c =
    let loaded =
    c in
    let given = loaded.load_pooled.ensures in
    record {
      answer = c.load_words.ensures ∙ ap load_words given.answered;
      lists = call_defined given;
    }
