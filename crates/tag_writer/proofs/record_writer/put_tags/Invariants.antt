-- `put_tags` meets its contract. The loop's invariant: putting the tags that are left gives what putting all of them gave at
-- the start.
use mathlib.Core.Path.{◌≡◌}
use mathlib.Core.List.{List}
use Prim.Native.Nat.{ℕ, ◌+◌, ◌*◌, ◌-◌, ◌≤◌}
use lib.ListN.{length, drop}
use Rattle.tag_file.specs.Format.{tag_length, tag_bytes}
use lib.Seq.{sets}
use Rattle.tag_writer_spec.specs.Writer.{item_tags}
use Rattle.tag_writer.proofs.record_writer.put_tags.Given as goal

-- the tags of the items from a place on, as bytes
abbrev pub run : List ℕ → List ℕ → ℕ → List ℕ
run tags set i = tag_bytes (item_tags tags (drop i set))

pub record PuttingTags (tags set file₀ : List ℕ) (at : ℕ) (file : List ℕ) (i to : ℕ) : Type 0 where
  pub within : i ≤ length set
  pub long : length file ≡ length file₀
  pub place : to + tag_length * (length set - i) ≡ at + tag_length * length set
  pub together : sets file to (run tags set i) ≡ sets file₀ at (run tags set 0)

abbrev pub invariant-loop-item : goal.invariant-loop-item
invariant-loop-item l = PuttingTags l.tags l.set l.initial.file l.at l.file l.item-index l.to
