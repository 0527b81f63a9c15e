-- `write_answer` meets its contract: the pair list where there are counts, and zeros after a refusal, which clears.
use Rattle.join.proofs.output.OutputLaws.{after_joined, after_refused}
use Rattle.join.proofs.output.write_answer.Goals as goal

pub write_pairs-requires : goal.write_pairs-requires
write_pairs-requires c =
    record {
      some_query = record { query = c.requires.some_query.query; holds = c.requires.some_query.holds.joined _ c.in-Ok.is };
      clear = c.requires.clear;
    }

pub returns-in-Ok : goal.returns-in-Ok
returns-in-Ok c = λ q room.
    after_joined _ _ c.in-Ok.is (c.write_pairs.ensures q (room.joined _ c.in-Ok.is))

pub returns-in-Err : goal.returns-in-Err
returns-in-Err c = λ q room.
    after_refused _ _ c.in-Err.is (room.refused _ c.in-Err.is) (c.fill.ensures.after (λ y h. h))
