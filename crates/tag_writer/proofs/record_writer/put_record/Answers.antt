-- `put_record` meets its contract: its head and then its tags are the record.
use mathlib.Core.Path.{◌≡◌, sym, ◌∙◌}
use mathlib.Core.List.{List}
use Prim.Native.Nat.{ℕ, ◌+◌}
use native.Mathlib.Omega.{arith}
use lib.ListN.{length}
use Rattle.sets.specs.declared.Side.{Side}
use Rattle.tag_file.specs.Format.{head_length, tag_bytes, record_head, record_bytes}
use lib.Seq.{sets}
use Rattle.tag_writer_spec.specs.Writer.{item_tags}
use Rattle.lists.proofs.Filling.{sets_then}
use Rattle.tag_writer_spec.proofs.Records.{length_head, length-item_tags}
use Rattle.tag_writer.proofs.record_writer.put_record.Goals as goal

record_put : (side : Side) (number : ℕ) (tags set file : List ℕ) (at : ℕ) (file' file'' : List ℕ)
    → file' ≡ sets file at (record_head side number (length set))
    → file'' ≡ sets file' (at + head_length) (tag_bytes (item_tags tags set))
    → file'' ≡ sets file at (record_bytes side number (item_tags tags set))
record_put side number tags set file at file' file'' e₁ e₂ =
    e₂ ∙ rw (e₁, length-item_tags tags set) (sym (sets_then file at (record_head side number (length set)) _ head_length (length_head side _ _)))

pub put_tags-requires : goal.put_tags-requires
put_tags-requires c =
    record {
      items_fit = c.requires.items_fit;
      in_bounds = omega (arith, c.requires.in_bounds.1, c.put_head.auto.file);
    }

pub shape_of-file : goal.shape_of-file
shape_of-file c =
    c.put_tags.auto.file ∙ c.put_head.auto.file

pub returns : goal.returns
returns c = record_put c.args.side c.args.number _ _ _ _ _ _ c.put_head.ensures c.put_tags.ensures
