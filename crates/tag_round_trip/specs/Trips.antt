-- What the statement of the round trip is made of: the part of each of the seven lists that was filled, and the writer's answer
-- and output over such lists. Document 01, "Tag file", "What loader and writer don't fill is as before".
use Rattle.std.specs.Prelude.{◌≡◌, ℕ, ◌*◌, List, true, length, take, Ok}
use Rattle.tag_file.specs.declared.Loaded.{Loaded}
use Rattle.tag_file.specs.declared.Repeats.{Repeats}
use Rattle.tag_file.specs.Format.{tag_length}
use Rattle.tag_file.specs.Records.{TagRecord}
use Rattle.tag_file.specs.Repeats.{no_repeats}
use Rattle.tag_file.specs.Loading.{Lists, filled, totals_of, room_for, load_answer, lists_after}
use Rattle.tag_writer_spec.specs.Writer.{file_bytes, write_answer, written_file}

-- the parts of seven lists that a load with these counts filled
abbrev pub parts_of : Loaded → Lists → Lists
parts_of counts l =
    record {
      tags = take (tag_length * counts.tag_count) l.tags;
      left_numbers = take counts.left_sets l.left_numbers;
      left_ends = take counts.left_sets l.left_ends;
      left_items = take counts.left_entries l.left_items;
      right_numbers = take counts.right_sets l.right_numbers;
      right_ends = take counts.right_sets l.right_ends;
      right_items = take counts.right_entries l.right_items;
    }

-- seven lists that hold what records give, with their counts
pub record Fills (rs : List TagRecord) (counts : Loaded) (got : Lists) : Type 0 where
  pub counted : counts ≡ totals_of rs
  pub lists : parts_of counts got ≡ filled rs

-- what the loader filled
abbrev pub loaded_from : List ℕ → Lists → Loaded → Lists
loaded_from file lent counts = parts_of counts (lists_after file lent)

-- the first bytes of the writer's output list, as many as the file has
abbrev pub written_to : ℕ → Lists → List ℕ → List ℕ
written_to T l out = take (length (file_bytes l)) (written_file T l out)

-- a load of a file into lent lists is accepted with these counts and repeats, and fills these lists
pub record Loads (file : List ℕ) (lent : Lists) (counts : Loaded) (repeats : Repeats) (got : Lists) : Type 0 where
  pub answer : load_answer file lent ≡ Ok (counts, repeats)
  pub lists : loaded_from file lent counts ≡ got

-- the round trip from lists that were loaded, through an output list: the writer writes the file, and every load of it into lists
-- that are long enough is accepted with the same counts and no repeats, and fills the same lists
pub record Trip (counts : Loaded) (got : Lists) (out : List ℕ) : Type 0 where
  pub written : write_answer counts.tag_count got (length out) ≡ Ok (length (file_bytes got))
  pub again : (lent : Lists) → room_for got lent ≡ true → Loads (written_to counts.tag_count got out) lent counts no_repeats got
