-- A call of a pooled load by its ends: a refusal, whose zeros are in every list, or what was filled.
use mathlib.Core.Path.{◌≡◌, sym, ◌∙◌}
use mathlib.Core.List.{List}
use Prim.Native.Nat.{ℕ}
use Rattle.std.specs.Prelude.{Result, Err, Ok}
use Rattle.sets.specs.declared.Refusal.{Refusal}
use Rattle.tag_file.specs.declared.Loaded.{Loaded}
use Rattle.tag_file.specs.declared.Repeats.{Repeats}
use Rattle.tag_file.specs.Loading.{Lists}
use Rattle.pool_loader_spec.specs.Pooling.{pooled_records, pooled_answer, PooledCall}
use Rattle.pool_loader_spec.proofs.Answers.{answer_clears}
use Rattle.tag_loader.specs.lent_lists.LentLists.{AllCleared}
use Rattle.tag_loader.specs.Passes.{AllFilled}

module _ (first second : List ℕ) (lent : Lists) where
  pub call_refused : {after : Lists} {answer : Result (Loaded × Repeats) Refusal} (why : Refusal) → answer ≡ pooled_answer first second lent
      → answer ≡ Err why → AllCleared lent after → PooledCall first second lent after answer
  call_refused why is e z =
      let told = sym is ∙ e in
      let zeros = answer_clears first second lent why told in
      record {
        answered = is;
        tags = rw (told, zeros) z.tags_zero;
        left_numbers = rw (told, zeros) z.left.numbers_zero;
        left_ends = rw (told, zeros) z.left.ends_zero;
        left_items = rw (told, zeros) z.left.items_zero;
        right_numbers = rw (told, zeros) z.right.numbers_zero;
        right_ends = rw (told, zeros) z.right.ends_zero;
        right_items = rw (told, zeros) z.right.items_zero;
      }

  pub call_filled : {after : Lists} (total : Loaded) (repeats : Repeats) → pooled_answer first second lent ≡ Ok (total, repeats)
      → AllFilled (pooled_records first second) lent after → PooledCall first second lent after (Ok (total, repeats))
  call_filled total repeats told f =
      record {
        answered = sym told;
        tags = rw told f.tags_filled;
        left_numbers = rw told f.left_numbers_filled;
        left_ends = rw told f.left_ends_filled;
        left_items = rw told f.left_items_filled;
        right_numbers = rw told f.right_numbers_filled;
        right_ends = rw told f.right_ends_filled;
        right_items = rw told f.right_items_filled;
      }
