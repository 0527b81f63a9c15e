-- `record_reader::read` meets its contract: the reader's answer, with the repeats of a whole record or with none.
use mathlib.Core.Path.{sym, ◌∙◌}
use native.Mathlib.Omega.{arith}
use Rattle.tag_file.proofs.RecordLaws.{read_past, read_within, read_count}
use Rattle.record_reader.proofs.read.Goals as goal

pub count_repeats-repeats-requires : goal.count_repeats-repeats-requires
count_repeats-repeats-requires c =
    let e = sym c.read_record-answer.ensures ∙ c.in-Record.is in
    record {
      count_in_bounds = omega (arith, read_past _ _ e, read_within _ _ e);
      count_le_max_set_length = read_count _ _ e (λ i. (c.type_inv.file i).fits);
    }
