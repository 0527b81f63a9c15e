-- `walk_sets` meets its contract: the walk goes over the index that `build` left, and its counters give the
-- answer, by which the pair list is written.
use mathlib.Core.Path.{◌≡◌, sym, ap, subst, ◌∙◌}
use lib.ListN.{length}
use Rattle.std.specs.Prelude.{Option}
use borrow.Author.Rules.{rules}
use Rattle.inputs.specs.Input.{lent_input}
use Rattle.join_spec.specs.Query.{Query, lent_settings}
use Rattle.join_index.specs.Asking.{Index}
use Rattle.join_check.specs.declared.Tally.{Tally}
use Rattle.join_check.specs.tally_answer.Answering.{SumsFit, tally_answer}
use Rattle.join_walk.specs.Partitions.{WalkDone}
use Rattle.join.proofs.AnswerLaws.{query_by, build_room, walk_index, walk_ready, walk_made, made_of, made_is, sums_fit}
use Rattle.join.proofs.AnswerLaws.{answer_is, answer_room}
use Rattle.join.proofs.walk_sets.Goals as goal
use Rattle.join.proofs.walk_sets.Goals.{After-answer_tally-answer, After-build-lay, After-map-made, After-walk-walked, Start}

abbrev asked : Start → Query
asked c = let s = c.args.settings.now in query_by (lent_input c.args.input.now) s.limit s.ranks.now s.rule

-- the index that was built, and what the walk over it found
index : (c : After-build-lay)
    → Index c.build-lay.result (asked (goal.at.After-build-lay c).Start) c.build-lay.new.work
index c = walk_index c.requires c.args.settings.now.rule c.build-lay.ensures.ground c.build-lay.ensures.room

done : (c : After-walk-walked)
    → WalkDone c.build-lay.result (asked (goal.at.After-walk-walked c).Start) c.args.settings.now.budget
    c.build-lay.new.work c.walk-walked.new.work c.walk-walked.result
done c =
    walk_made c.requires c.args.settings.now.rule c.build-lay.ensures.ground c.build-lay.ensures.room c.walk-walked.ensures.walked

pub build-lay-requires : goal.build-lay-requires
build-lay-requires c = build_room (lent_settings c.args.settings.now) c.requires

pub walk-walked-requires : goal.walk-walked-requires
walk-walked-requires c =
    let s = c.args.settings.now in
    record {
      some_query = record {
        query = _;
        holds = walk_ready c.requires s.rule c.build-lay.ensures.ground c.build-lay.ensures.room s.budget;
      };
      clear_2 = c.clear_flags-flags.ensures;
    }

-- its counters, and the answer by them
made : (c : After-map-made) → c.map-made.result ≡ made_of c.walk-walked.result
made c = made_is c.walk-walked.result (λ at tally post. search rules) c.map-made.ensures.cases

answered : (c : After-answer_tally-answer)
    → c.answer_tally-answer.result ≡ tally_answer (made_of c.walk-walked.result) (length c.args.pairs.now)
answered c =
    c.answer_tally-answer.ensures
    ∙ ap (λ (m : Option Tally). tally_answer m (length c.args.pairs.now)) (made (goal.at.After-answer_tally-answer c).After-map-made)

pub answer_tally-answer-requires : goal.answer_tally-answer-requires
answer_tally-answer-requires c =
    subst SumsFit (sym (made c)) (sums_fit c.requires (done (goal.at.answer_tally-answer-requires c).After-walk-walked))

pub write_answer-requires : goal.write_answer-requires
write_answer-requires c =
    record {
      some_query = record {
        query = _;
        holds = answer_room c.requires (done (goal.at.write_answer-requires c).After-walk-walked) (index (goal.at.write_answer-requires c).After-build-lay) _
            (answered (goal.at.write_answer-requires c).After-answer_tally-answer);
      };
      clear = c.walk-walked.ensures.clear;
    }

pub returns : goal.returns
returns c =
    let is = answered (goal.at.returns c).After-answer_tally-answer in
    let room = answer_room c.requires (done (goal.at.returns c).After-walk-walked) (index (goal.at.returns c).After-build-lay) _ is in
    record {
      answer = answer_is c.requires (done (goal.at.returns c).After-walk-walked) _ is;
      pairs = c.write_answer.ensures _ room;
    }
