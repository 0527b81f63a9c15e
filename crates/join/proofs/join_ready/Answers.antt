-- `join_ready` meets its contract: the join over bit rows answers as the walk does, where its rows are taken.
use mathlib.Core.Path.{sym, ◌∙◌}
use lib.ListN.{length}
use Rattle.inputs.specs.Input.{lent_input}
use Rattle.join_spec.specs.Query.{lent_settings}
use Rattle.merge_rows.proofs.MergedAnswer.{merge_sizes}
use Rattle.join.proofs.RowsChoice.{rows_room, rows_answer}
use Rattle.join.proofs.join_ready.Goals as goal

pub takes_rows-rows-requires : goal.takes_rows-rows-requires
takes_rows-rows-requires c = merge_sizes c.requires

pub merge_sets-requires : goal.merge_sets-requires
merge_sets-requires c = rows_room (lent_settings c.args.settings.now) c.requires (sym c.takes_rows-rows.ensures ∙ c.if-rows.true)

pub returns-then-rows : goal.returns-then-rows
returns-then-rows c =
    let s = c.args.settings.now in
    record {
      answer = rows_answer (lent_input c.args.input.now) s.limit s.ranks.now (length c.args.work.now) s.rule s.budget (length c.args.pairs.now)
          (sym c.takes_rows-rows.ensures ∙ c.if-rows.true) c.merge_sets.ensures.answer;
      pairs = c.merge_sets.ensures.pairs;
    }
