-- `join_text::list_ordered` meets its contract: the text of what the run answered and filled.
use mathlib.Core.Path.{sym}
use Rattle.inputs.specs.Input.{Input, lent_input}
use Rattle.join_spec.specs.Query.{Settings}
use Rattle.join_spec.specs.Answer.{RunCall}
use Rattle.join_text.specs.JoinText.{settings_under}
use Rattle.join_text.proofs.Texts.{put_fills, fills_same}
use Rattle.join_text.proofs.JoinTexts.{call_text, answer_fits}
use Rattle.join_text.proofs.list_ordered.Goals as goal
use Rattle.join_text.proofs.list_ordered.Goals.{After-run-answer}

abbrev input : After-run-answer → Input
input p = lent_input p.args.input.now

abbrev asked : After-run-answer → Settings
asked p = settings_under p.args.ranks.now

ran : (p : After-run-answer)
    → RunCall (input p) (asked p) p.filled-work.result p.filled-pairs.result
    p.run-answer.new.work p.run-answer.new.pairs p.run-answer.result
ran p = p.run-answer.ensures

pub put_answer-requires : goal.put_answer-requires
put_answer-requires c =
    let a = c.args in
    answer_fits (input (goal.at.put_answer-requires c).After-run-answer) (asked (goal.at.put_answer-requires c).After-run-answer) a.repeats a.left_numbers.now a.right_numbers.now (ran (goal.at.put_answer-requires c).After-run-answer)
    (sym c.filled-pairs.ensures) _ c.run-answer.auto.pairs c.requires.room
    c.requires.lefts c.requires.rights

pub returns : goal.returns
returns c =
    let a = c.args in
    fills_same (call_text (input (goal.at.returns c).After-run-answer) (asked (goal.at.returns c).After-run-answer) a.repeats a.left_numbers.now a.right_numbers.now (ran (goal.at.returns c).After-run-answer)
    (sym c.filled-pairs.ensures) (sym c.filled-work.ensures))
    (put_fills c.put_answer.ensures.put c.put_answer.ensures.upper_bound)
