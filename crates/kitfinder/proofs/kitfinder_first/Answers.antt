-- `kitfinder_first` meets its contract: the words of what the search answers.
use mathlib.Core.Path.{ap, ◌∙◌}
use Rattle.first_search_spec.specs.First.{first_words}
use Rattle.kitfinder.proofs.kitfinder_first.Goals as goal

pub returns : goal.returns
returns c = record { answer = c.first_words.ensures ∙ ap first_words c.find_first.ensures }
