-- `merge_rows::merge_sets` meets its contract: the counters of all left sets give the answer, by which the pair list stays or becomes zeros.
use mathlib.Core.Path.{◌≡◌, sym, ap, subst, ◌∙◌}
use Prim.Native.Nat.{ℕ}
use native.Mathlib.Omega.{arith}
use lib.ListN.{length, replicate}
use Rattle.std.specs.Prelude.{Some}
use Rattle.inputs.specs.Input.{lent_input}
use Rattle.join_spec.proofs.Accepted.{spent_above}
use Rattle.join_check.specs.declared.Tally.{Tally}
use Rattle.join_check.specs.tally_answer.Answering.{SumsFit}
use Rattle.merge_rows.specs.Merging.{rows_of}
use Rattle.merge_rows.proofs.MergedAnswer.{merge_sizes, merge_ready, merge_room, met_none, met_some}
use Rattle.merge_rows.proofs.MergedAnswer.{merged-fits, merged_tally, merged_answer, merged_pairs}
use Rattle.merge_rows.proofs.merge_sets.Goals as goal
use Rattle.merge_rows.proofs.merge_sets.Goals.{After-lay_rows-r, After-meet_lefts}

-- where the regions lie
laid_here : (c : After-lay_rows-r)
    → let i = lent_input c.args.input.now in
    c.lay_rows-r.result ≡ rows_of i.T (length i.left.ends) (length i.right.ends)
laid_here c = rw (c.len.ensures, c.len-2.ensures) at c.lay_rows-r.ensures

pub lay_rows-r-requires : goal.lay_rows-r-requires
lay_rows-r-requires c = rw (c.len.ensures, c.len-2.ensures) (merge_sizes c.requires.tests)

pub ready_rows-requires : goal.ready_rows-requires
ready_rows-requires c = merge_ready c.requires (laid_here (goal.at.ready_rows-requires c).After-lay_rows-r)

pub meet_lefts-requires : goal.meet_lefts-requires
meet_lefts-requires c =
    record {
      there = merge_room c.requires (laid_here (goal.at.meet_lefts-requires c).After-lay_rows-r) c.ready_rows.auto.work c.ready_rows.ensures (omega arith);
      positions = c.position_table-table.ensures;
    }

pub returns-in_default : goal.returns-in_default
returns-in_default c =
    let spent = met_none _ _ _ c.in_default.is c.meet_lefts.ensures in
    record {
      answer = sym (spent_above _ c.args.settings.now.budget (length c.args.pairs.now) spent.1);
      pairs = c.fill.ensures.after (λ y h. h) ∙ ap (λ (n : ℕ). replicate n 0) spent.0;
    }

pub tally_of-requires : goal.tally_of-requires
tally_of-requires c = (met_some c.in-Some.is c.meet_lefts.ensures).fits

pub answer_tally-answer-requires : goal.answer_tally-answer-requires
answer_tally-answer-requires c =
    subst (λ (t : Tally). SumsFit (Some t)) (sym c.tally_of.ensures)
    (merged-fits c.requires.tests (met_some c.in-Some.is c.meet_lefts.ensures))

pub returns : goal.returns
returns c =
    let ok = c.requires.tests in
    let all = met_some c.in-Some.is c.meet_lefts.ensures in
    let is = merged_tally ok all c.tally_of.ensures c.answer_tally-answer.ensures in
    record {
      answer = merged_answer ok all _ is;
      pairs = c.settle.ensures ∙ merged_pairs ok all c.answer_tally-answer.result is;
    }
