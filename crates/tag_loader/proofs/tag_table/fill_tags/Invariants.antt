-- `tag_loader::tag_table::fill_tags` meets its contract. The invariant: the tags written and those still to come are together the table
-- (`Writing`).
use lib.ListN.{drop}
use Rattle.lists.proofs.Writing.{Writing}
use Rattle.tag_file.specs.Format.{tag_bytes}
use Rattle.tag_index.specs.Index.{table_of}
use Rattle.tag_loader.proofs.tag_table.fill_tags.Given as goal

abbrev pub invariant-loop-x : goal.invariant-loop-x
invariant-loop-x l = Writing l.initial.tags 0 (tag_bytes (table_of l.index l.n)) l.tags l.at (tag_bytes (drop l.x-index (table_of l.index l.n)))
