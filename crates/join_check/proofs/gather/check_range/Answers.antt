use Prim.Native.Nat.{ℕ, ◌+◌, ◌-◌, ◌*◌}
use mathlib.Core.Path.{◌≡◌, ap, ◌∙◌}
use native.Mathlib.Omega.{arith}
use native.Mathlib.Nat.{one-mul}
use Rattle.join_check.proofs.gather.Gathering.{ranges_row, row_ranges}
use Rattle.join_check.proofs.gather.Gathering.{left_room, left_front, left_none}
use Rattle.join_check.proofs.gather.check_range.Goals as goal

pub check_row-r-requires : goal.check_row-r-requires
check_row-r-requires c =
    let i = c.loop-i.i in
    let rights = c.args.node.now.to - c.args.node.now.from in
    let single : i + 1 - i ≡ 1 = omega arith in
    let times : (i + 1 - i) * rights ≡ rights = ap (λ (n : ℕ). n * rights) single ∙ one-mul rights in
    let room = left_room c.loop-i.invariant i (i + 1) (omega arith) (omega arith) (omega arith) c.requires.from_bound in
    record {
      some_query = record {
        query = c.requires.some_query.query;
        holds = ranges_row (c.loop-i.invariant.there c.requires.some_query.query c.requires.some_query.holds) i (omega arith)
            c.loop-i-test.true c.word_at-k.ensures;
      };
      from_bound = omega (arith, room);
    }

pub loop-i-preserved : goal.loop-i-preserved
loop-i-preserved c =
    left_front c.loop-i.invariant (omega arith) (omega arith)
    (row_ranges c.word_at-k.ensures c.check_row-r.ensures)

pub returns : goal.returns
returns c = left_none c.loop-i.invariant c.loop-i-test.false
