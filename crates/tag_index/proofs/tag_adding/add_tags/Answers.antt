use native.Mathlib.Omega.{arith}
use Rattle.tag_index.specs.tag_adding.Adding.{Adding}
use Rattle.tag_index.proofs.tag_adding.AddLaws.{Going, going_start, going_tags, going_distinct, going_step}
use Rattle.tag_index.proofs.tag_adding.add_tags.Goals as goal
use Rattle.tag_index.proofs.tag_adding.add_tags.Goals.{At-loop-k}

-- what the set had at the start, and what was added to it
had : (l : At-loop-k)
    → let a = l.args in
    Adding l.requires.some_adding.done a.index.now a.sum.tag_count a.sum.distinct a.seen.now
had l = l.requires.some_adding.adding

going : (l : At-loop-k)
    → let a = l.args in
    Going l.requires.some_adding.done a.file.now a.start a.sum.tag_count a.index.now
    l.loop-k.k l.loop-k.tag_count l.loop-k.distinct l.loop-k.index l.loop-k.seen
going l = l.loop-k.invariant l.requires.some_adding.done (had l)

pub loop-k-init : goal.loop-k-init
loop-k-init c = λ done a. going_start a

pub take_tag-found-requires : goal.take_tag-found-requires
take_tag-found-requires c =
    let more = c.loop-k-test.true in
    record {
      sorted = (going (goal.at.take_tag-found-requires c).At-loop-k).adding.sorted;
      next_tag = record { inside = omega (arith, c.requires.room_to_add.inside, more); room = omega (arith, c.requires.room_to_add.room, going_tags (had (goal.at.take_tag-found-requires c).At-loop-k) (going (goal.at.take_tag-found-requires c).At-loop-k), more) };
    }

pub overflow_add-distinct : goal.overflow_add-distinct
overflow_add-distinct c =
    omega (arith, c.see-distinct.ensures.small, going_distinct (had (goal.at.overflow_add-distinct c).At-loop-k) (going (goal.at.overflow_add-distinct c).At-loop-k), c.requires.room_to_add.count_room)

pub loop-k-preserved : goal.loop-k-preserved
loop-k-preserved c =
    λ done a. going_step a (c.loop-k.invariant done a) c.take_tag-found.ensures c.see-distinct.ensures
