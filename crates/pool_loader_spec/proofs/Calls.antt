-- A call of the pooled load, with the answer as it is defined.
use mathlib.Core.Path.{refl}
use mathlib.Core.List.{List}
use Prim.Native.Nat.{ℕ}
use Rattle.std.specs.Prelude.{Result}
use Rattle.tag_file.specs.Loading.{Lists}
use Rattle.pool_loader_spec.specs.Pooling.{pooled_answer, PooledCall}
use Rattle.sets.specs.declared.Refusal.{Refusal}
use Rattle.tag_file.specs.declared.Loaded.{Loaded}
use Rattle.tag_file.specs.declared.Repeats.{Repeats}

pub call_defined : {first second : List ℕ} {before after : Lists} {answer : Result (Loaded × Repeats) Refusal} → PooledCall first second before after answer
    → PooledCall first second before after (pooled_answer first second before)
call_defined c =
    record {
      answered = refl;
      tags = c.tags;
      left_numbers = c.left_numbers;
      left_ends = c.left_ends;
      left_items = c.left_items;
      right_numbers = c.right_numbers;
      right_ends = c.right_ends;
      right_items = c.right_items;
    }
