-- `text::answer_text::put_answer` meets its contract: the counts, the repeats and the pairs one after the other, or the refusal.
use Prim.Native.Nat.{ℕ}
use mathlib.Core.Path.{refl, sym, subst}
use mathlib.Core.List.{List}
use native.Mathlib.Omega.{arith}
use lib.Seq.{length-take-le}
use Rattle.lists.specs.Writing.{Put}
use Rattle.lists.proofs.Writing.{put_append}
use Rattle.text.proofs.answer_text.AnswerTexts.{text_joined, text_refused, lines_room}
use Rattle.text.proofs.answer_text.put_answer.Goals as goal

pub slice_bounds-put_pairs-end : goal.slice_bounds-put_pairs-end
slice_bounds-put_pairs-end c =
    sym (length-take-le _ _ (c.requires.filled _ c.in-Ok.is))

pub put_pairs-requires : goal.put_pairs-requires
put_pairs-requires c =
    lines_room c.requires c.in-Ok.is _ _ (omega (arith, c.put_counts-n.ensures.upper_bound, c.put_repeats-m.ensures.upper_bound))
    (omega (arith, c.put_repeats-m.auto.text, c.put_counts-n.auto.text))

pub returns-in-Ok : goal.returns-in-Ok
returns-in-Ok c =
    let a = c.args in
    let room =
    lines_room c.requires c.in-Ok.is a.text.now c.put_repeats-m.result
    (omega (arith, c.put_counts-n.ensures.upper_bound, c.put_repeats-m.ensures.upper_bound)) refl in
    record {
      put = subst (λ (t : List ℕ). Put a.text.now 0 t c.put_pairs.result c.put_pairs.new.text)
          (text_joined a.repeats a.left_numbers.now a.right_numbers.now a.pairs.now c.in-Ok.is)
          (put_append c.put_counts-n.ensures.put (put_append c.put_repeats-m.ensures.put c.put_pairs.ensures.put));
      upper_bound = omega (arith, c.put_pairs.ensures.upper_bound, room.room);
    }

pub returns-in-Err : goal.returns-in-Err
returns-in-Err c =
    let a = c.args in
    record {
      put = subst (λ (t : List ℕ). Put a.text.now 0 t c.put_refusal.result c.put_refusal.new.text)
          (text_refused a.repeats a.left_numbers.now a.right_numbers.now a.pairs.now c.in-Err.is)
          c.put_refusal.ensures.put;
      upper_bound = omega (arith, c.put_refusal.ensures.upper_bound, c.requires.room);
    }
