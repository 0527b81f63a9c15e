-- `put_side` meets its contract. The loop's invariant: no set from the next place on is bad, and putting the records that are
-- left gives what putting all of them gave at the start.
use mathlib.Core.Path.{◌≡◌}
use mathlib.Core.List.{List}
use Prim.Native.Nat.{ℕ, ◌+◌, ◌/◌, ◌≤◌}
use lib.ListN.{length, drop}
use Rattle.std.specs.Prelude.{None}
use Rattle.sets.specs.Collections.{sets_from, first_bad_from}
use Rattle.sets.specs.declared.Side.{Side}
use Rattle.tag_file.specs.Format.{tag_length}
use lib.Seq.{sets}
use Rattle.tag_writer_spec.specs.Writer.{records_of}
use Rattle.tag_writer.proofs.record_writer.put_side.Given as goal

-- the records from place k on, the first set beginning at start
abbrev pub rest : Side → List ℕ → List ℕ → List ℕ → List ℕ → ℕ → ℕ → List ℕ
rest side tags numbers ends items k start = records_of side tags (drop k numbers) (sets_from start (drop k ends) items)

pub record PuttingRecords (side : Side) (tags numbers ends items file₀ : List ℕ) (at : ℕ) (file : List ℕ)
    (k start to : ℕ) : Type 0 where
  pub within : k ≤ length ends
  pub long : length file ≡ length file₀
  pub good : first_bad_from (length tags / tag_length) k start (drop k ends) items ≡ None
  pub place : to + length (rest side tags numbers ends items k start) ≡ at + length (rest side tags numbers ends items 0 0)
  pub together : sets file to (rest side tags numbers ends items k start) ≡ sets file₀ at (rest side tags numbers ends items 0 0)

abbrev pub invariant-loop-k : goal.invariant-loop-k
invariant-loop-k l = PuttingRecords l.side l.tags l.from.numbers.now l.from.sets.ends.now l.from.sets.items.now l.initial.file l.at l.file l.k l.start l.to
