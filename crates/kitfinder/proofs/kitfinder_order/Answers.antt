-- `kitfinder_order` meets its contract: the words of the answer, and the ranks that are left.
use mathlib.Core.Path.{ap, ◌∙◌}
use Rattle.item_order_spec.specs.Order.{order_words}
use Rattle.kitfinder.proofs.kitfinder_order.Goals as goal

pub returns : goal.returns
returns c =
    record {
      answer = c.order_words.ensures ∙ ap order_words c.order.ensures.answered;
      ranks = c.order.ensures.ranks;
    }
