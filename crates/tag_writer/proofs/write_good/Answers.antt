-- `write_good` meets its contract: the two sides' lengths decide between zeros and the records put one after the other.
use mathlib.Core.Path.{◌≡◌, sym, ◌∙◌}
use Prim.Native.Nat.{◌+◌}
use native.Mathlib.Omega.{arith}
use lib.ListN.{length}
use Rattle.tag_file.specs.Loading.{read_lists}
use Rattle.tag_writer_spec.specs.Writer.{left_bytes, right_bytes, file_bytes}
use Rattle.tag_writer_spec.proofs.Answers.{side_limits, left_size, right_size, file_size, put_sides, within, short}
use Rattle.tag_writer.proofs.write_good.Goals as goal
use Rattle.tag_writer.proofs.write_good.Goals.{After-side_length-right}

left_long : (p : After-side_length-right) → length (left_bytes (read_lists p.args.lists.now)) ≡ p.side_length-left.result
left_long p = left_size (read_lists p.args.lists.now) p.requires ∙ sym p.side_length-left.ensures

right_long : (p : After-side_length-right) → length (right_bytes (read_lists p.args.lists.now)) ≡ p.side_length-right.result
right_long p = right_size (read_lists p.args.lists.now) p.requires ∙ sym p.side_length-right.ensures

file_long : (p : After-side_length-right)
    → length (file_bytes (read_lists p.args.lists.now)) ≡ p.side_length-left.result + p.side_length-right.result
file_long p = omega (arith, file_size (read_lists p.args.lists.now) p.requires, left_long p, right_long p)

pub side_length-left-requires : goal.side_length-left-requires
side_length-left-requires c =
    side_limits _ _ _ _ c.requires.left

pub side_length-right-requires : goal.side_length-right-requires
side_length-right-requires c =
    side_limits _ _ _ _ c.requires.right

pub overflow_add-left : goal.overflow_add-left
overflow_add-left c =
    let few = side_limits _ _ _ _ c.requires.left in
    let more = side_limits _ _ _ _ c.requires.right in
    omega (arith, c.side_length-left.ensures, c.side_length-right.ensures)

pub returns-then-file-left : goal.returns-then-file-left
returns-then-file-left c =
    record {
      answer = short (length c.args.file.now) (file_bytes (read_lists c.args.lists.now)) _ (file_long (goal.at.returns-then-file-left c).After-side_length-right)
          c.if-file-left.true;
      file = c.fill.ensures.after (λ y h. h);
    }

pub put_side-requires : goal.put_side-requires
put_side-requires c =
    record {
      good_side = c.requires.left;
      in_bounds = omega (arith, left_long (goal.at.put_side-requires c).After-side_length-right, c.if-file-left.false);
    }

pub put_side-requires-2 : goal.put_side-requires-2
put_side-requires-2 c =
    record {
      good_side = c.requires.right;
      in_bounds = omega (arith, right_long (goal.at.put_side-requires-2 c).After-side_length-right, c.put_side.auto, c.if-file-left.false);
    }

pub returns : goal.returns
returns c =
    let file = c.args.file.now in
    let room = c.if-file-left.false in
    record {
      answer = within (length file) (file_bytes (read_lists c.args.lists.now)) _ (file_long (goal.at.returns c).After-side_length-right) room;
      file = put_sides (read_lists c.args.lists.now) c.requires file _ _ _ (left_long (goal.at.returns c).After-side_length-right) (omega (arith, file_long (goal.at.returns c).After-side_length-right, room))
          c.put_side.ensures c.put_side-2.ensures;
    }
