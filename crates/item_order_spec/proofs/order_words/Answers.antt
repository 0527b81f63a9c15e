-- `order_words` meets its contract: a case for each variant.
use mathlib.Core.Path.{sym, ap, ◌∙◌}
use Rattle.item_order_spec.specs.Order.{order_words}
use Rattle.sets.proofs.Words.{refused_words_lem}
use Rattle.item_order_spec.proofs.order_words.Goals as goal

pub returns-in-Err : goal.returns-in-Err
returns-in-Err c =
    refused_words_lem c.in-Err.why 0 c.head_of-head.ensures.0 c.head_of-head.ensures.1 c.head_of-head.ensures.2 ∙ sym (ap order_words c.in-Err.is)
