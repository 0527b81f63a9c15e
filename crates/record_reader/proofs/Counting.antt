-- The count of repeats, tag by tag: its start and step.
use mathlib.Core.Path.{◌≡◌, refl}
use mathlib.Core.List.{List}
use mathlib.Core.Bool.{Bool}
use Prim.Native.Nat.{ℕ, ◌+◌, ◌≤◌}
use native.Mathlib.Numerals.{add-one}
use native.Mathlib.Omega.{arith}
use lib.ListN.{replicate}
use Rattle.lists.specs.Lists.{one, memb}
use Rattle.lists.proofs.Counting.{one_bound}
use Rattle.sets.specs.Limits.{max_set_length}
use Rattle.tag_file.specs.Reading.{tags_at}
use Rattle.tag_file.specs.Records.{insert_all}
use Rattle.tag_file.specs.Repeats.{repeats_in}
use Rattle.tag_file.proofs.RecordLaws.{tags_at_last}
use Rattle.tag_file.proofs.RepeatLaws.{repeats_in_last}
use Rattle.record_reader.specs.Chains.{buckets, tag_of, Chained}
use Rattle.record_reader.proofs.Linking.{chained_start}

-- the first k tags are chained, and their repeats are counted
pub record Counted (file : List ℕ) (start k : ℕ) (last links : List ℕ) (repeats : ℕ) : Type 0 where
  pub chained : Chained file start k last links
  pub few : repeats ≤ k
  pub counted : repeats ≡ repeats_in (tags_at k file start)

pub counted_start : (file : List ℕ) (start : ℕ) → Counted file start 0 (replicate buckets 0) (replicate max_set_length 0) 0
unfolding tags_at repeats_in insert_all
counted_start file start = record { chained = chained_start file start; few = omega arith; counted = refl }

module _ {file : List ℕ} {start k : ℕ} {last links : List ℕ} {repeats : ℕ} (c : Counted file start k last links repeats) where
  -- one tag more, of which it was found whether it is a repeat
  pub counted_step : {now-last now-links : List ℕ} → Chained file start (k + 1) now-last now-links
      → {repeat : Bool} → repeat ≡ memb (tag_of file start k) (tags_at k file start)
      → {now-repeats : ℕ} → now-repeats ≡ repeats + one repeat
      → Counted file start (k + 1) now-last now-links now-repeats
  counted_step chained {repeat} is more =
      record {
        chained = chained;
        few = omega (arith, c.few, one_bound repeat);
        counted = rw (add-one k, tags_at_last k file start, repeats_in_last, ← is, ← c.counted) more;
      }
